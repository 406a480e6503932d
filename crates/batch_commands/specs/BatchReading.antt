-- What was read of the lines of an input, and the answers that say so.
use Rattle.std.specs.Prelude.{◌≡◌, ℕ, false, List, Option, Some, None}
use Rattle.quota_value.specs.QuotaValue.{QuotaValue}
use Rattle.id_names.specs.NamesFile.{NameLine}
use Rattle.refusals.specs.declared.cause.Cause.{Cause}
use Rattle.refusals.specs.declared.cause.Cause.TheVariants.{Memory}
use Rattle.refusals.specs.declared.reason.Refusal.{Refusal}
use Rattle.refusals.specs.Outcome.{Outcome, Passed, Refused}
use Rattle.refusals.specs.Refusals.{stands_in_line}
use Rattle.run_steps.specs.Act.{Way}
use Rattle.run_steps.specs.Steps.{Steps}
use Rattle.batch_commands.specs.declared.batch_input.InputFault.{InputFault}
use Rattle.batch_commands.specs.declared.batch_input.InputFault.TheVariants.{Source, Memory as NoMemory}
use Rattle.batch_commands.specs.declared.batch_line.LineEdit.{LineEdit}
use Rattle.batch_commands.specs.declared.batch_line.BatchLineRead.{BatchLineRead}
use Rattle.batch_commands.specs.declared.batch_line.BatchLineRead.TheVariants.{Nothing, Edit as Found}
use Rattle.batch_commands.specs.declared.batch_line.BatchLineRead.TheVariants.{Refused as Faulty}
use Rattle.batch_commands.specs.Batch.{AskedEdits, ends_with, asks_then, EditsThen, LineMayRefuse}

-- the answer that says so
abbrev pub line_outcome : BatchLineRead → Outcome (Option LineEdit)
line_outcome Nothing = Passed None
line_outcome (Found edit) = Passed (Some edit)
line_outcome (Faulty refusal) = Refused refusal

-- what a line says that was read, or that there is none, and the lines behind it
abbrev pub read_then : Option BatchLineRead → AskedEdits → AskedEdits
read_then None more = ends_with None
read_then (Some read) more = asks_then (line_outcome read) more

-- the refusal of a line that was read
abbrev pub refusal_read : Option BatchLineRead → Option Refusal
refusal_read None = None
refusal_read (Some Nothing) = None
refusal_read (Some (Found edit)) = None
refusal_read (Some (Faulty refusal)) = Some refusal

-- what is said where an input was not read
abbrev pub input_cause : InputFault → Cause → Cause
input_cause Source failed = failed
input_cause NoMemory failed = Memory

-- edits are done, up to one that is refused
abbrev pub LineSteps : Way → List ℕ → ℕ → List LineEdit → QuotaValue → Steps
LineSteps way file now edits value = EditsThen way file now edits value None

-- A refusal that a line may have. It stands in no line of a script, and in none of an input unless its cause may stand
-- in one.
pub record IsOfInputLine (names : List NameLine) (place : List ℕ) (refusal : Refusal) : Type 0 where
  pub may : LineMayRefuse names place refusal.cause refusal.name
  pub line : refusal.place.line ≡ None
  pub input_line : stands_in_line refusal.cause ≡ false → refusal.place.input_line ≡ None
