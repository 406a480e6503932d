-- What was read of a script, and the answers that say so.
use Rattle.std.specs.Prelude.{◌≡◌, map, string_bytes, Option, Some, None}
use Rattle.refusals.specs.declared.reason.Refusal.{Refusal}
use Rattle.refusals.specs.Outcome.{Outcome, Passed, Refused}
use Rattle.refusals.specs.Refusals.{nowhere}
use Rattle.script_lines.specs.declared.line.ScriptLineRead.{ScriptLineRead}
use Rattle.script_lines.specs.declared.line.ScriptLineRead.TheVariants.{Nothing, Line as Found, Refused as Faulty}
use Rattle.script_lines.specs.declared.script.Script.{Script}
use Rattle.script_lines.specs.declared.script.ScriptLine.{ScriptLine}
use Rattle.script_lines.specs.Script.{LineSaid, ScriptSaid, ends_with, says_then, ScriptMayRefuse}

-- what a line that was read says
abbrev pub line_read : ScriptLine → LineSaid
line_read line = record { number = line.number; text = string_bytes line.text }

-- what a script that was read says
abbrev pub script_read : Script → ScriptSaid
script_read script = record { lines = map line_read script.lines.items; refusal = script.refusal }

-- the answer that says what a line says
abbrev pub line_outcome : ScriptLineRead → Outcome (Option LineSaid)
line_outcome Nothing = Passed None
line_outcome (Found line) = Passed (Some (line_read line))
line_outcome (Faulty refusal) = Refused refusal

-- what a line says that was read, or that there is none, and the lines behind it
abbrev pub read_then : Option ScriptLineRead → ScriptSaid → ScriptSaid
read_then None more = ends_with None
read_then (Some read) more = says_then (line_outcome read) more

-- the refusal of a line that was read
abbrev pub refusal_read : Option ScriptLineRead → Option Refusal
refusal_read None = None
refusal_read (Some Nothing) = None
refusal_read (Some (Found line)) = None
refusal_read (Some (Faulty refusal)) = Some refusal

-- a refusal that a script itself may have, which stands in no line
pub record IsOfScript (refusal : Refusal) : Type 0 where
  pub may : ScriptMayRefuse refusal.cause refusal.name
  pub place : refusal.place ≡ nowhere
