-- The step of an edit that is met at a line, of one value in two files: it is the same, unless one of the files is
-- full.
use Rattle.std.proofs.Common.{inl, inr, ℕ, true, List, Option, ap}
use Rattle.quota_value.specs.QuotaValue.{QuotaValue}
use Rattle.set_edit.specs.Editing.{Edit}
use Rattle.refusals.specs.Outcome.{Outcome, Passed, Refused}
use Rattle.run_steps.specs.Act.{Act, Way}
use Rattle.run_steps.specs.OneCommand.{AreSameSteps}
use Rattle.run_steps.specs.Steps.{Steps, Then}
use Rattle.batch_commands.specs.Batch.{met_at}
use Rattle.edit_steps.specs.EditStep.{edit_step}
use Rattle.edit_steps.proofs.AlikeLemmas.{AreAlike, changed_alike, then_alike}

met_alike : (number : ℕ) (one other : Outcome (List Act)) → AreAlike one other
    → AreAlike (met_at number one) (met_at number other)
met_alike number one other (inl same) = inl (ap (met_at number) same)
met_alike number (Refused refusal) other (inr (inl full)) = inr (inl full)
met_alike number (Passed acts) other (inr (inl full)) = absurd full
met_alike number one (Refused refusal) (inr (inr full)) = inr (inr full)
met_alike number one (Passed acts) (inr (inr full)) = absurd full

-- and of one that is met at a line
pub line_steps_alike : (way : Way) (name : List ℕ) (edit : Edit) (one other : Option (List ℕ)) (value : QuotaValue)
    (number : ℕ) (next : List Act → Steps)
    → AreSameSteps true (Then (met_at number (edit_step way name edit one value)) next)
    (Then (met_at number (edit_step way name edit other value)) next)
line_steps_alike way name edit one other value number next =
    then_alike (met_at number (edit_step way name edit one value))
    (met_at number (edit_step way name edit other value)) next
    (met_alike number (edit_step way name edit one value) (edit_step way name edit other value)
    (changed_alike way name edit one other value (edit.edited value)))
