use Rattle.std.proofs.Common.{◌+◌, List, ℕ, ◌++◌, length, take, drop, ap, ◌∙◌}
use Rattle.std.proofs.lemmas.List.{take_at}
use Rattle.outside.proofs.OverwriteLemmas.{overwritten-filled_up}
use Rattle.memory_objects.proofs.named_files.overwrite.Goals as goal

pub returns-clause-ok : goal.returns-clause-ok
returns-clause-ok c =
    let filled = c.fill_up.new.file in
    let at = c.args.at in
    let bytes = c.args.bytes.now in
    take_at c.copy_over.new.file (drop (length c.copy_over.new.file) filled.items) filled.len
    (c.copy_over.auto.file ∙ c.deref_mut.ensures.len)
    ∙ c.copy_over.ensures
    ∙ ap (λ (file : List ℕ). take at file ++ bytes ++ drop (at + length bytes) file)
    (c.deref_mut.ensures.value ∙ c.in_ok-fill_up.ensures.ok)
    ∙ overwritten-filled_up c.args.file.now.items at bytes
