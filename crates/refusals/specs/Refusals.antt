-- Refusals, by their cause and what it is about.
use Rattle.std.specs.Prelude.{List, ℕ, Bool, true, false, Option, Some, None}
use Rattle.refusals.specs.declared.cause.Cause.{Cause}
use Rattle.refusals.specs.declared.cause.Cause.TheVariants.{NoRoom, UnknownName, BadNumber}
use Rattle.refusals.specs.declared.reason.Place.{Place}
use Rattle.refusals.specs.declared.reason.Refusal.{Refusal}

-- neither a line of a script nor one of an input
abbrev pub nowhere : Place
nowhere = record { line = None; input_line = None }

-- the refusal for a cause about the file or the word of this name, where it stands in no line
abbrev pub refusal_of : Cause → List ℕ → Refusal
refusal_of cause name = record { cause = cause; name = name; place = nowhere }

-- what is said of a word, and of a value for which there is no room, may stand in a line of an input; no other cause
-- does
abbrev pub stands_in_line : Cause → Bool
stands_in_line UnknownName = true
stands_in_line BadNumber = true
stands_in_line (NoRoom out) = true
stands_in_line _ = false

-- a refusal, where there is one, of steps in a line of a script
abbrev pub in_line : ℕ → Option Refusal → Option Refusal
in_line line None = None
in_line line (Some refusal) =
    Some (record {
      cause = refusal.cause;
      name = refusal.name;
      place = record { line = Some line; input_line = refusal.place.input_line };
    })
