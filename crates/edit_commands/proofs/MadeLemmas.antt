-- What an edit that was done has made of the bytes of its file.
use Rattle.std.proofs.Common.{◌≡◌, ℕ, Bool, false, List, Ok, sym, ap, subst, ◌∙◌}
use Rattle.id_names.specs.NamesFile.{NameLine}
use Rattle.quota_types.specs.declared.file_kind.Format.{Format}
use Rattle.opened_file.specs.FileSeen.{FileSeen}
use Rattle.quota_value.specs.QuotaValue.{QuotaValue}
use Rattle.outside.specs.Seen.{StoreSeen}
use Rattle.outside.specs.World.{World}
use Rattle.quota_map.specs.Asked.{asked_of}
use Rattle.quota_map.specs.AnyFile.{HoldsAny, any_seen}
use Rattle.quota_map.specs.AnyChange.{AnyMakes}
use Rattle.quota_map.specs.View.{fresh_seen}
use Rattle.quota_map.specs.declared.any_file.AnyFile.{AnyFile}
use Rattle.quota_map.proofs.LeftLemmas.{held_format}
use Rattle.set_edit.specs.Editing.{Edit}
use Rattle.refusals.specs.Outcome.{Passed}
use Rattle.command_words.specs.declared.command.Common.{Common}
use Rattle.run_steps.specs.Naming.{names_seen}
use Rattle.edit_commands.specs.EditWords.{names_wanted}
use Rattle.edit_commands.specs.Made.{MakesNamed, MakesWords}
use Rattle.edit_commands.specs.declared.edit.EditWords.{EditWords}
use Rattle.edit_steps.proofs.EditFileLemmas.{AnyEdits}

-- an edit of a file that was just opened
pub makes_opened : {T : Type 0} (file : List ℕ) (tells : Bool) (edit : Edit) (opened after : AnyFile) (first : World)
    (old new : StoreSeen) (value : QuotaValue) (format : Format) (told : T)
    → any_seen opened ≡ fresh_seen file format → old.files ≡ first → HoldsAny tells old.files opened value
    → edit.is_idle value ≡ false
    → AnyEdits edit tells opened after old new (Ok told)
    → AnyMakes (fresh_seen file value.format) (edit.change value) file first new.files
makes_opened file tells edit opened after first old new value format told was same held busy edits =
    let formats : value.format ≡ format =
    held_format tells old.files opened value held ∙ ap (λ (s : FileSeen). s.format) was in
    subst (λ (w : World). AnyMakes (fresh_seen file value.format) (edit.change value) file w new.files) same
    (subst (λ (f : Format). AnyMakes (fresh_seen file f) (edit.change value) file old.files new.files) (sym formats)
    (subst (λ (s : FileSeen). AnyMakes s (edit.change value) s.name old.files new.files) was
    (edits.value.done.makes value held busy)))

-- the edit that words ask for, once the names were read
pub words_made : (common : Common) (words : EditWords) (file : List ℕ) (now : ℕ) (old middle new : World)
    (names : List NameLine) → names_seen common.kind (names_wanted words common.names) old ≡ Passed names
    → middle ≡ old → MakesNamed names common.kind (asked_of common.format) words file now middle new
    → MakesWords common words file now old new
words_made common words file now old middle new names known same made = record {
  names = names;
  known = known;
  made = subst (λ (w : World). MakesNamed names common.kind (asked_of common.format) words file now w new) same made;
}
