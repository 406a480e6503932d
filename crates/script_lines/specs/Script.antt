-- The lines of a script: the commands that an input gives, a line each, read whole before the first of them runs.
-- Source: this project's own.
use Rattle.std.specs.Prelude.{◌≡◌, ℕ, ◌+◌, List, [], ◌∷◌, codes, Option, Some, None, if◌then◌else◌}
use Rattle.std.specs.Str.{is_utf8}
use Rattle.input_text.specs.InputLines.{InputLines, NoLine, LineThen, LongNext, PastNext, input_lines}
use Rattle.refusals.specs.declared.cause.Cause.{Cause}
use Rattle.refusals.specs.declared.cause.Cause.TheVariants.{TooLarge, LongLine, BadLine}
use Rattle.refusals.specs.declared.reason.Refusal.{Refusal}
use Rattle.refusals.specs.Outcome.{Outcome, Passed, Refused}
use Rattle.refusals.specs.Refusals.{refusal_of}
use Rattle.run_steps.specs.InputLine.{says_nothing}

-- What a script says.

-- a line that says something: its number in the script, from 1 on, and its bytes without the newline
pub record LineSaid : Type 0 where
  pub number : ℕ
  pub text : List ℕ

-- the lines that say something, in order, up to the first line that is refused, and the refusal
pub record ScriptSaid : Type 0 where
  pub lines : List LineSaid
  pub refusal : Option Refusal

-- what refusals call a script
abbrev pub script_name : List ℕ
script_name = codes "script"

-- the refusal of a script itself, which stands in none of its lines
abbrev pub script_refusal : Cause → Refusal
script_refusal cause = refusal_of cause script_name

-- What a line says, by its number: nothing, a command, which is UTF-8, or else it is refused. A comment need not be
-- UTF-8.
abbrev pub line_says : ℕ → List ℕ → Outcome (Option LineSaid)
line_says number line =
    if says_nothing line then Passed None
    else if is_utf8 line then Passed (Some (record { number = number; text = line }))
    else Refused (script_refusal (BadLine number))

-- no more lines say something
abbrev pub ends_with : Option Refusal → ScriptSaid
ends_with refusal = record { lines = []; refusal = refusal }

-- what a line says, and the lines behind it
abbrev pub says_then : Outcome (Option LineSaid) → ScriptSaid → ScriptSaid
says_then (Passed None) more = more
says_then (Passed (Some line)) more = record { lines = line ∷ more.lines; refusal = more.refusal }
says_then (Refused refusal) more = ends_with (Some refusal)

-- what lines say, of which the first has this number
abbrev pub lines_say : ℕ → InputLines → ScriptSaid
lines_say number NoLine = ends_with None
lines_say number (LineThen line more) = says_then (line_says number line) (lines_say (number + 1) more)
lines_say number LongNext = ends_with (Some (script_refusal (LongLine number)))
lines_say number PastNext = ends_with (Some (script_refusal TooLarge))

-- what a script says: a line has 4,096 bytes at most, and the script 16,777,216
abbrev pub script_said : List ℕ → ScriptSaid
script_said bytes = lines_say 1 (input_lines 4096 16777216 bytes)

-- What was read.

-- the causes for which a script itself may be refused, whatever is told, with the name that is said
abbrev pub ScriptMayRefuse : Cause → List ℕ → Type 0
ScriptMayRefuse (BadLine line) name = name ≡ script_name
ScriptMayRefuse (LongLine line) name = name ≡ script_name
ScriptMayRefuse TooLarge name = name ≡ script_name
ScriptMayRefuse _ name = ⊥
