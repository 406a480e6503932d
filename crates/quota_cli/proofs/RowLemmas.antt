-- The lines of a script as commands in a row, and that a script is read to its end.
use Rattle.std.proofs.Common.{◌≡◌, ◌⊎◌, ℕ, IsTrue, List, [], ◌∷◌, Option, None, Some, inl, inr, refl, ap}
use Rattle.std.specs.Prelude.{is_none, map}
use Rattle.refusals.specs.declared.reason.Refusal.{Refusal}
use Rattle.run_steps.specs.OneCommand.{ReadsToEnd}
use Rattle.run_steps.specs.Steps.{Before, Steps}
use Rattle.run_steps.specs.Carrying.{InARow}
use Rattle.run_steps.specs.declared.invocation.Invocation.{Invocation}
use Rattle.quota_cli.specs.Script.{LineSteps, LinesSteps, ScriptSteps}
use Rattle.script_lines.specs.Script.{LineSaid, script_said}

-- lines of a script that is not refused itself are commands in a row
pub lines_in_a_row : (now : ℕ) (lines : List LineSaid) → LinesSteps now lines None ≡ InARow (map (LineSteps now) lines)
lines_in_a_row now [] = refl
lines_in_a_row now (line ∷ lines) =
    ap (λ (others : Steps). Before (LineSteps now line) others) (lines_in_a_row now lines)

-- an input is read to its end where no line is refused
lines_read_on : (now : ℕ) (lines : List LineSaid) (refusal : Refusal) → ReadsToEnd (LinesSteps now lines (Some refusal))
lines_read_on now [] refusal = tt
lines_read_on now (line ∷ lines) refusal = inr (lines_read_on now lines refusal)

read_by : (now : ℕ) (lines : List LineSaid) (refusal : Option Refusal)
    → IsTrue (is_none refusal) ⊎ ReadsToEnd (LinesSteps now lines refusal)
read_by now lines None = inl refl
read_by now lines (Some refusal) = inr (lines_read_on now lines refusal)

pub script_reads : (invocation : Invocation) → ReadsToEnd (ScriptSteps invocation)
script_reads invocation = λ bytes. read_by invocation.now (script_said bytes).lines (script_said bytes).refusal
