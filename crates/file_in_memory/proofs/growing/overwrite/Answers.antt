use Rattle.std.proofs.Common.{◌+◌, ◌-◌, List, ℕ, ◌++◌, length, take, drop, replicate, ap, ◌∙◌}
use Rattle.std.proofs.lemmas.List.{take_at}
use Rattle.outside.proofs.OverwriteLemmas.{overwritten-filled_up}
use Rattle.file_in_memory.proofs.growing.overwrite.Goals as goal

pub returns-clause-ok : goal.returns-clause-ok
returns-clause-ok c =
    let filled = c.fill_up.new.file in
    let at = c.args.at in
    let bytes = c.args.bytes.now in
    take_at c.copy_over.new.file (drop (length c.copy_over.new.file) filled.items) filled.len
    (c.copy_over.auto.file ∙ c.deref_mut.ensures.len)
    ∙ c.copy_over.ensures
    ∙ ap (λ (file : List ℕ). take at file ++ bytes ++ drop (at + length bytes) file)
    (c.deref_mut.ensures.value ∙ c.fill_up.ensures.filled
    ∙ ap (λ (file : List ℕ). file ++ replicate (at + length bytes - length file) 0) c.in_ok-make_room.ensures.same)
    ∙ overwritten-filled_up c.args.file.now.items at bytes
