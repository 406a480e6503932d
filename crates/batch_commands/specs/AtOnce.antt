-- When the edits of lines are made together, by one replacement of their file. Source: this project's own.
use Rattle.std.specs.Prelude.{◌≡◌, ◌≤◌, ◌+◌, ◌*◌, ◌^◌, ℕ, false, IsTrue, List, Ok, Option, None, length, true, Some}
use Rattle.id_names.specs.NamesFile.{NameLine}
use Rattle.file_blocks.specs.Block.{file_of}
use Rattle.outside.specs.Replacement.{replacement_name}
use Rattle.outside.specs.World.{World}
use Rattle.quota_value.specs.QuotaValue.{QuotaValue}
use Rattle.quota_map.specs.Asked.{Asked, asked_of}
use Rattle.quota_map.specs.View.{IsView, asks_tree}
use Rattle.refusals.specs.Outcome.{Passed}
use Rattle.command_words.specs.declared.command.Common.{Common}
use Rattle.run_steps.specs.Done.{Outside}
use Rattle.run_steps.specs.Naming.{names_seen}
use Rattle.run_steps.specs.Taking.{input_said}
use Rattle.batch_commands.specs.Batch.{AreWithin, AskedEdits, LeaveRoom, batch_step, way_of, BatchMayRefuse, BatchSteps}
use Rattle.batch_commands.specs.Batch.{batch_reads, batch_uses}
use Rattle.batch_commands.specs.FullForLines.{AllFit, IsFullForLine}
use Rattle.batch_commands.specs.declared.batch_line.LineEdit.{LineEdit}
use Rattle.refusals.specs.declared.reason.Refusal.{Refusal}
use Rattle.run_steps.specs.declared.invocation.Invocation.{Invocation}
use Rattle.descriptions.specs.Description.{Description, file_given, looks_at, row}

-- A file of this length may be written anew for lines, in no more pieces of 1,024 bytes than twelve for each of them: a
-- tree file of 8,192 bytes for each, less 2,048 for its header and its root, since a line may add 4,096; and a flat
-- file of 12,288 bytes for each, within which stand the records that the lines ask for, too. The lines leave room in
-- it.
pub record IsPaid (asked : Asked) (lines : List LineEdit) (size : ℕ) : Type 0 where
  pub tree : IsTrue (asks_tree asked) → size + 2048 ≤ 8192 * length lines
  pub flat : asks_tree asked ≡ false → (size ≤ 12288 * length lines) × AreWithin asked lines (12288 * length lines)
  pub within : 12288 * length lines ≤ 2 ^ 42
  pub room : LeaveRoom asked (length lines) size

-- The edits of lines are made together: there are several, each of which fits, no file has the name of this one with
-- `.new` added, and it may be written anew for so many.
pub record MakeTogether (asked : Asked) (file : List ℕ) (now : ℕ) (lines : List LineEdit) (files : World)
    (value : QuotaValue) : Type 0 where
  pub several : 2 ≤ length lines
  pub alone : files (replacement_name file) ≡ None
  pub paid : IsPaid asked lines (length (file_of files file))
  pub fit : AllFit (way_of lines) file now lines files value

-- So are those of the lines that are read, with the names that are read, of the value that is seen of the file.
abbrev pub AreMadeTogether : Common → (from : Option (List ℕ)) → (file : List ℕ) → (now : ℕ) → Outside → Type 0
AreMadeTogether common from file now old =
    (names : List NameLine) → names_seen common.kind common.names old.files ≡ Passed names
    → (value : QuotaValue) → IsView (old.files file) common.kind (asked_of common.format) (Ok value)
    → (asked : AskedEdits) → input_said from (batch_step names from) old.files old.input ≡ Passed asked
    → MakeTogether (asked_of common.format) file now asked.edits old.files value

-- The description.

-- edits of lines: the file is accepted, the lines are of the stated form and of names that are known, and the edits fit
abbrev pub CanEditLines : Common → Option (List ℕ) → List ℕ → Invocation → Outside → Type 0
CanEditLines common from file invocation old =
    (names : List NameLine) × (value : QuotaValue) × (asked : AskedEdits)
    × (names_seen common.kind common.names old.files ≡ Passed names)
    × IsView (old.files file) common.kind (asked_of common.format) (Ok value)
    × (input_said from (batch_step names from) old.files old.input ≡ Passed asked) × (asked.refusal ≡ None)
    × AllFit (way_of asked.edits) file invocation.now asked.edits old.files value

-- new limits of many identifiers, a line each
abbrev pub editing_lines : Common → Option (List ℕ) → List ℕ → Description
editing_lines common input file =
    record (row (BatchSteps common input file) (batch_uses input) (BatchMayRefuse common input file)) {
      unwritten = true;
      anew = Some file;
      most_reads = λ (old : Outside). batch_reads common input file old.files old.input;
      looks = looks_at (file_given common file) common.names input;
      needs_room = true;
      full = λ (invocation : Invocation) (old : Outside) (files : World) (refusal : Refusal) (blocks limit : ℕ).
          (refusal.name ≡ file) × IsFullForLine common input file invocation.now old files blocks limit;
      suffices = CanEditLines common input file;
      at_once = λ (invocation : Invocation). AreMadeTogether common input file invocation.now;
    }
