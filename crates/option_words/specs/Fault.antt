-- The first fault in words. Source: this project's own.
use Rattle.std.specs.Prelude.{ℕ, Bool, Option, Some, None, Result, Ok, Err, if◌then◌else◌}
use Rattle.refusals.specs.declared.cause.UsageKind.{UsageKind}
use Rattle.option_words.specs.declared.word_fault.Fault.{Fault}

-- this is wrong at this word
abbrev pub fault : UsageKind → ℕ → Fault
fault kind word = record { kind = kind; word = word }

infixl 10 ◌>>=◌
-- a step, and then the next one where it met no fault
abbrev pub ◌>>=◌ : {A B : Type 0} → Result A Fault → (A → Result B Fault) → Result B Fault
(Ok value) >>= next = next value
(Err fault) >>= next = Err fault

-- a fault where a condition holds, and otherwise the next step
abbrev pub unless : {A : Type 0} → Bool → Fault → Result A Fault → Result A Fault
unless wrong fault next = if wrong then Err fault else next

-- the next step over a value, and a fault where there is none
abbrev pub with_value : {A B : Type 0} → Option A → Fault → (A → Result B Fault) → Result B Fault
with_value (Some value) fault next = next value
with_value None fault next = Err fault
