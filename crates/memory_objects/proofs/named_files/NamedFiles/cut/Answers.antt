use Rattle.std.proofs.Common.{Option, Some, List, ℕ, take, refl, sym, ap, ◌∙◌}
use Rattle.std.specs.Option.{option_map}
use Rattle.outside.specs.World.{with_file}
use Rattle.memory_objects.specs.MemStore.{file_named}
use Rattle.memory_objects.proofs.NamedFilesLemmas.{absent_from_position, file_named-changed, file_named-found}
use Rattle.outside.proofs.WorldLemmas.{with_file-same}
use Rattle.memory_objects.proofs.named_files.NamedFiles.cut.Goals as goal

pub returns-in-Some : goal.returns-in-Some
returns-in-Some c =
    let entries = c.args.self.now.entries.items in
    let found = sym c.position.ensures ∙ c.in-Some.is in
    let cut : Option (List ℕ) → Option (List ℕ) = λ file. option_map (take c.args.len) file in
    file_named-changed c.args.name.now entries _ c.index_mut.result.now _ found c.index_mut.ensures.value refl
    ∙ ap (λ (bytes : List ℕ). with_file (file_named entries) c.args.name.now (Some bytes)) c.truncate.ensures.items
    ∙ ap (λ (file : Option (List ℕ)). with_file (file_named entries) c.args.name.now (cut file))
    (sym (file_named-found c.args.name.now entries _ c.index_mut.result.now found c.index_mut.ensures.value))

pub returns-in_default : goal.returns-in_default
returns-in_default c =
    let files = file_named c.args.self.now.entries.items in
    let absent = absent_from_position c.args.name.now _ (sym c.position.ensures ∙ c.in_default.is) in
    let cut : Option (List ℕ) → Option (List ℕ) = λ file. option_map (take c.args.len) file in
    sym (with_file-same files c.args.name.now (cut (files c.args.name.now)) (absent ∙ ap cut (sym absent)))
