-- The step of an edit of one value in two files: it is the same, unless one of the files is full.
use Rattle.std.proofs.Common.{◌≡◌, ◌⊎◌, inl, inr, ℕ, Bool, true, false, List, Option, Ok, Err, Result, refl, ap}
use Rattle.quota_types.specs.declared.field.Field.{Field}
use Rattle.quota_value.specs.QuotaValue.{QuotaValue}
use Rattle.set_edit.specs.Editing.{Edit}
use Rattle.refusals.specs.Outcome.{Outcome, Passed, Refused}
use Rattle.run_steps.specs.Act.{Act, Way}
use Rattle.run_steps.specs.Changing.{written}
use Rattle.quota_map.specs.Size.{blocks_after}
use Rattle.run_steps.specs.OneCommand.{AreSameSteps, IsFullCause}
use Rattle.run_steps.specs.Steps.{Steps, Then}
use Rattle.edit_steps.specs.EditStep.{changed, is_too_large}

-- an outcome is a refusal for lack of room in blocks
abbrev WantsRoom : Outcome (List Act) → Type 0
WantsRoom (Passed acts) = ⊥
WantsRoom (Refused refusal) = IsFullCause refusal.cause

-- two outcomes are the same, or the one or the other is such a refusal
abbrev pub AreAlike : (one other : Outcome (List Act)) → Type 0
AreAlike one other = (one ≡ other) ⊎ (WantsRoom one ⊎ WantsRoom other)

written_alike : (way : Way) (name : List ℕ) (blocks more : ℕ) (new : QuotaValue) (idle large also : Bool)
    → AreAlike (written way name blocks new idle large) (written way name more new idle also)
written_alike way name blocks more new true large also = inl refl
written_alike way name blocks more new false true also = inr (inl tt)
written_alike way name blocks more new false false true = inr (inr tt)
written_alike way name blocks more new false false false = inl refl

pub changed_alike : (way : Way) (name : List ℕ) (edit : Edit) (one other : Option (List ℕ)) (value : QuotaValue)
    (edited : Result QuotaValue (Field × ℕ))
    → AreAlike (changed way name edit one value edited) (changed way name edit other value edited)
changed_alike way name edit one other value (Ok new) =
    written_alike way name (blocks_after one new) (blocks_after other new) new (edit.is_idle value)
    (is_too_large edit one new) (is_too_large edit other new)
changed_alike way name edit one other value (Err out) = inl refl

pub then_alike : (one other : Outcome (List Act)) (next : List Act → Steps) → AreAlike one other
    → AreSameSteps true (Then one next) (Then other next)
then_alike one other next (inl same) = inl (ap (λ (o : Outcome (List Act)). Then o next) same)
then_alike (Refused refusal) other next (inr (inl full)) = inr (refl, inl full)
then_alike (Passed acts) other next (inr (inl full)) = absurd full
then_alike one (Refused refusal) next (inr (inr full)) = inr (refl, inr full)
then_alike one (Passed acts) next (inr (inr full)) = absurd full
