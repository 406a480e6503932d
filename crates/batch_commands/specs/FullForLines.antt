-- Whether there is room for the edits of lines: that all of them fit, and what is seen at the end of a file for which
-- one was refused since it would need too many blocks. Source: this project's own.
use Rattle.std.specs.Prelude.{◌≡◌, ℕ, ⊤, List, [], ◌∷◌, ◌++◌, Option}
use Rattle.id_names.specs.NamesFile.{NameLine}
use Rattle.quota_types.specs.declared.file_kind.Kind.{Kind}
use Rattle.quota_value.specs.QuotaValue.{QuotaValue}
use Rattle.outside.specs.World.{World}
use Rattle.refusals.specs.Outcome.{Passed}
use Rattle.command_words.specs.declared.command.Common.{Common}
use Rattle.run_steps.specs.Act.{Act, Follows, Way}
use Rattle.run_steps.specs.Done.{Outside}
use Rattle.run_steps.specs.Naming.{names_seen}
use Rattle.run_steps.specs.Taking.{input_said}
use Rattle.batch_commands.specs.Batch.{AskedEdits, batch_step, edit_of, way_behind}
use Rattle.edit_steps.specs.EditStep.{edit_step}
use Rattle.batch_commands.specs.declared.batch_line.LineEdit.{LineEdit}
use Rattle.edit_steps.specs.Fits.{Fits, IsFullFor}
use Rattle.quota_map.specs.Asked.{Asked, asked_of}

-- edits of lines of the file of this name fit, the first of which is done in this way, each in the value, and in the
-- file, whichever it is, that the ones before it left
abbrev pub AllFit : Way → List ℕ → ℕ → List LineEdit → World → QuotaValue → Type 0
AllFit way name now [] files value = ⊤
AllFit way name now (line ∷ lines) files value =
    (new : QuotaValue) × Fits (edit_of line now) (files name) value new
    × ((acts : List Act) (left : World) → edit_step way name (edit_of line now) (files name) value ≡ Passed acts
    → Follows acts files left
    → AllFit (way_behind way ((edit_of line now).is_idle value)) name now lines left new)

-- one of these lines asks for an edit for which a file has no room
pub record IsFullForOne (kind : Kind) (asked : Asked) (now : ℕ) (lines : List LineEdit) (file : Option (List ℕ))
    (blocks limit : ℕ) : Type 0 where
  pub before : List LineEdit
  pub line : LineEdit
  pub behind : List LineEdit
  pub whole : lines ≡ before ++ line ∷ behind
  pub full : IsFullFor kind asked (edit_of line now) file blocks limit

-- The files have no room for the edit of a line of an input, which was read with the names that the files had at the
-- start.
pub record IsFullForLine (common : Common) (from : Option (List ℕ)) (file : List ℕ) (now : ℕ) (old : Outside)
    (files : World) (blocks limit : ℕ) : Type 0 where
  pub names : List NameLine
  pub asked : AskedEdits
  pub known : names_seen common.kind common.names old.files ≡ Passed names
  pub said : input_said from (batch_step names from) old.files old.input ≡ Passed asked
  pub one : IsFullForOne common.kind (asked_of common.format) now asked.edits (files file) blocks limit
