-- What an edit that was done has made of the bytes of its file. Source: this project's own.
use Rattle.std.specs.Prelude.{◌≡◌, ℕ, false, List, Ok}
use Rattle.id_names.specs.NamesFile.{NameLine}
use Rattle.quota_types.specs.declared.file_kind.Kind.{Kind}
use Rattle.quota_value.specs.QuotaValue.{QuotaValue}
use Rattle.outside.specs.World.{World}
use Rattle.quota_map.specs.Asked.{Asked, asked_of}
use Rattle.quota_map.specs.AnyChange.{AnyMakes}
use Rattle.quota_map.specs.View.{IsView, fresh_seen}
use Rattle.set_edit.specs.Editing.{Edit}
use Rattle.refusals.specs.Outcome.{Passed}
use Rattle.command_words.specs.declared.command.Common.{Common}
use Rattle.run_steps.specs.Naming.{names_seen}
use Rattle.edit_commands.specs.EditWords.{edit_meant, edit_read, names_wanted}
use Rattle.edit_commands.specs.declared.edit.EditWords.{EditWords}
use Rattle.edit_commands.specs.declared.edit.FileEdit.{FileEdit}

-- Of whichever value the file was seen as, unless nothing was to be done, the files are what the change by which this
-- edit is made makes of them in a file of that format.
abbrev pub MakesEdit : Kind → Asked → Edit → List ℕ → (old new : World) → Type 0
MakesEdit kind asked edit file old new =
    (value : QuotaValue) → IsView (old file) kind asked (Ok value) → edit.is_idle value ≡ false
    → AnyMakes (fresh_seen file value.format) (edit.change value) file old new

-- so it is of the edit that words ask for with these names
abbrev pub MakesNamed : List NameLine → Kind → Asked → EditWords → List ℕ → (now : ℕ) → (old new : World) → Type 0
MakesNamed names kind asked words file now old new =
    (edit : FileEdit) × (edit_read names words ≡ Passed edit) × MakesEdit kind asked (edit_meant edit now) file old new

-- So it is of the edit that words ask for: they were read with the names that the files had at the start.
pub record MakesWords (common : Common) (words : EditWords) (file : List ℕ) (now : ℕ) (old new : World) : Type 0 where
  pub names : List NameLine
  pub known : names_seen common.kind (names_wanted words common.names) old ≡ Passed names
  pub made : MakesNamed names common.kind (asked_of common.format) words file now old new
