-- Steps that have one answer and touch nothing.
use Rattle.std.specs.Prelude.{Option, Some, None}
use Rattle.refusals.specs.declared.reason.Refusal.{Refusal}

-- how a step ends: passed with a value, or refused
pub data Outcome (V : Type 0) : Type 0 where
  Passed : V → Outcome V
  Refused : Refusal → Outcome V

-- a step, and where it passed the next one
abbrev pub and_then : {V W : Type 0} → Outcome V → (V → Outcome W) → Outcome W
and_then (Passed value) next = next value
and_then (Refused refusal) next = Refused refusal

-- the refusal of a step that did not pass
abbrev pub refusal_in : {V : Type 0} → Outcome V → Option Refusal
refusal_in (Passed value) = None
refusal_in (Refused refusal) = Some refusal
