use Rattle.std.proofs.Common.{sym, ap, ◌∙◌, ℕ, Vec, Global}
use Rattle.std.specs.Option.{option_map}
use Rattle.memory_objects.proofs.NamedFilesLemmas.{absent_from_position, file_named-found}
use Rattle.memory_objects.proofs.named_files.NamedFiles.into_file.Goals as goal

pub returns-in_err-place : goal.returns-in_err-place
returns-in_err-place c =
    ap (option_map (λ (file : Vec ℕ Global). file.items)) c.from_residual.ensures
    ∙ sym (absent_from_position c.args.name.now _ (sym c.position.ensures ∙ c.in_err-place.was))

pub returns : goal.returns
returns c =
    sym (file_named-found c.args.name.now _ c.in_ok-place.place c.swap_remove.result
    (sym c.position.ensures ∙ c.in_ok-place.was) c.swap_remove.ensures.value)
