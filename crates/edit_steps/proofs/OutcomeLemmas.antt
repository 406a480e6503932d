-- Outcomes that are refused only by some refusals.
use Rattle.std.proofs.Common.{Bool, true, false, cond}
use Rattle.std.specs.Prelude.{⊤}
use Rattle.refusals.specs.declared.reason.Refusal.{Refusal}
use Rattle.refusals.specs.Outcome.{Outcome, Passed, Refused, and_then}

-- an outcome that is refused only so
abbrev pub OnlyRefused : {V : Type 0} → (Refusal → Type 0) → Outcome V → Type 0
OnlyRefused so (Passed value) = ⊤
OnlyRefused so (Refused refusal) = so refusal

pub only_then : {V W : Type 0} (so : Refusal → Type 0) (outcome : Outcome V) (next : V → Outcome W)
    → OnlyRefused so outcome
    → ((value : V) → OnlyRefused so (next value)) → OnlyRefused so (and_then outcome next)
only_then so (Passed value) next one two = two value
only_then so (Refused refusal) next one two = one

pub only_if : {V : Type 0} (so : Refusal → Type 0) (test : Bool) (one other : Outcome V) → OnlyRefused so one
    → OnlyRefused so other
    → OnlyRefused so (cond test one other)
only_if so true one other a b = a
only_if so false one other a b = b
