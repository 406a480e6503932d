use Rattle.std.proofs.Common.{refl, sym, ap, ◌∙◌, List, ℕ, Some}
use Rattle.outside.specs.World.{with_file}
use Rattle.memory_objects.specs.MemStore.{file_named}
use Rattle.memory_objects.proofs.NamedFilesLemmas.{file_named-changed, absent_from_position}
use Rattle.memory_objects.proofs.named_files.NamedFiles.create.Goals as goal

pub returns-in-Some-clause-ok : goal.returns-in-Some-clause-ok
returns-in-Some-clause-ok c =
    file_named-changed c.args.name.now _ _ c.index_mut.result.now _ (sym c.position.ensures ∙ c.in-Some.is)
    c.index_mut.ensures.value refl
    ∙ ap (λ (b : List ℕ). with_file (file_named c.args.self.now.entries.items) c.args.name.now (Some b))
    c.clear.ensures.items

pub add-requires : goal.add-requires
add-requires c = absent_from_position c.args.name.now _ (sym c.position.ensures ∙ c.in_default.is)
