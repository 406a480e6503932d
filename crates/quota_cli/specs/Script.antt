-- A script: the commands that the lines of the standard input ask for, one after another. Source: this project's own.
use Rattle.std.specs.Prelude.{◌≡◌, ◌⊎◌, ℕ, ⊤, Bool, true, false, ◌&&◌, nat_le, IsSome, IsTrue, List, [], ◌∷◌, Option}
use Rattle.std.specs.Prelude.{Some, None, is_none}
use Rattle.std.specs.List.{list_any}
use Rattle.outside.specs.Frame.{AreSynced}
use Rattle.outside.specs.Seen.{SourceSeen}
use Rattle.input_text.specs.Words.{words_of}
use Rattle.outside.specs.World.{World}
use Rattle.refusals.specs.declared.cause.Cause.{Cause}
use Rattle.refusals.specs.declared.cause.Cause.TheVariants.{LinkFault, Memory, SourceFault}
use Rattle.refusals.specs.declared.reason.Refusal.{Refusal}
use Rattle.refusals.specs.Refusals.{in_line}
use Rattle.command_words.specs.Asked.{command_of}
use Rattle.command_words.specs.declared.command.Command.{Command}
use Rattle.command_words.specs.declared.command.Command.TheVariants.{Script as ScriptCommand}
use Rattle.run_steps.specs.Act.{Act}
use Rattle.run_steps.specs.Done.{IsLater, IsWorldTold, Outside, RunSeen, RunTells}
use Rattle.run_steps.specs.Meaning.{EndsBy}
use Rattle.run_steps.specs.Run.{HasReason, HasSteps, IsDoneInPart, Uses}
use Rattle.run_steps.specs.Steps.{Before, Ending, InLine, Reading, Steps}
use Rattle.run_steps.specs.declared.invocation.Invocation.{Invocation}
use Rattle.script_lines.specs.Script.{LineSaid, ScriptMayRefuse, script_said}
use Rattle.descriptions.specs.Description.{Description, row}
use Rattle.command_table.specs.Table.{asked_by, described}

-- Lines.

-- What the words of a line ask for: in a script there is no other script, and what reads an input has to name it. There
-- may not be enough memory for the words of a line, whatever they ask for.
abbrev pub asked_in_script : (text : List ℕ) → Description
asked_in_script text =
    let command = asked_by described (command_of true (words_of text)) in
    record command { may = λ (cause : Cause) (name : List ℕ). (cause ≡ Memory) ⊎ command.may cause name }

-- a command in a line of a script, at a moment
abbrev pub line_invocation : (now : ℕ) → LineSaid → Invocation
line_invocation now line = record { now = now; line = Some line.number }

-- the steps of what a line asks for, in that line
abbrev pub LineSteps : (now : ℕ) → LineSaid → Steps
LineSteps now line = InLine line.number ((asked_in_script line.text).steps (line_invocation now line))

-- lines one after another, up to one that is refused, and behind the last one the refusal of the script itself, if
-- there is one
abbrev pub LinesSteps : (now : ℕ) → List LineSaid → Option Refusal → Steps
LinesSteps now [] refusal = Ending refusal
LinesSteps now (line ∷ lines) refusal = Before (LineSteps now line) (LinesSteps now lines refusal)

-- A script is read before the first of its lines is carried out, and to the end of the input where it is not refused
-- itself.
abbrev pub ScriptSteps : Invocation → Steps
ScriptSteps invocation =
    Reading (λ (bytes : List ℕ). is_none (script_said bytes).refusal)
    (λ (bytes : List ℕ). LinesSteps invocation.now (script_said bytes).lines (script_said bytes).refusal)

-- What a script does.

-- a script may do what any of its lines does
abbrev pub script_uses : Uses
script_uses = record {
  input = true;
  out = true;
  link = true;
  changes = true;
  all_or_nothing = false;
  warns = true;
  reads_commands = true;
  reads_edits = true;
}

-- The causes for which a script may be refused, whatever is told, with the name that is said: the input fails, memory
-- runs out, the script itself is refused, or what words in a line ask for is.
abbrev pub RunningMayRefuse : Cause → List ℕ → Type 0
RunningMayRefuse cause name =
    (cause ≡ SourceFault)
    ⊎ ((cause ≡ Memory) ⊎ (ScriptMayRefuse cause name ⊎ ((text : List ℕ) × (asked_in_script text).may cause name)))

-- A line was carried out: its steps ended well, what it wrote has been synced, and the link is as it was where the line
-- does not use it.
pub record IsLineDone (now : ℕ) (line : LineSaid) (tells : RunTells) (old new : RunSeen) : Type 0 where
  pub done : IsWorldTold tells → HasSteps (LineSteps now line) tells None old new
  pub synced : IsTrue tells.store → AreSynced old.store new.store
  pub unlinked : (asked_in_script line.text).uses.link ≡ false → new.link ≡ old.link
  pub later : IsLater old new

-- One of the lines was reached, once those before it were carried out, and this holds of it and of what they left.
abbrev pub ReachesLine : (holds : LineSaid → RunSeen → Type 0) → (now : ℕ) → List LineSaid → RunTells → RunSeen → Type 0
ReachesLine holds now [] tells old = ⊥
ReachesLine holds now (line ∷ lines) tells old =
    holds line old
    ⊎ ((middle : RunSeen) × IsLineDone now line tells old middle × ReachesLine holds now lines tells middle)

-- a line uses the link, and not all that was to be done with it was done
abbrev pub IsLineUnfinished : (now : ℕ) → LineSaid → RunTells → RunSeen → RunSeen → Type 0
IsLineUnfinished now line tells old new =
    IsTrue (asked_in_script line.text).uses.link
    × (asked_in_script line.text).unfinished (line_invocation now line) tells old new

-- One of the lines uses the link and was left unfinished, once those before it were carried out.
abbrev pub IsLeftUnfinished : (now : ℕ) → List LineSaid → RunTells → RunSeen → RunSeen → Type 0
IsLeftUnfinished now lines tells old new =
    ReachesLine (λ (line : LineSaid) (before : RunSeen). IsLineUnfinished now line tells before new) now lines tells old

-- One of the lines was refused since the file that it edits is full, once those before it were carried out: the one in
-- which the refusal stands.
abbrev pub IsFullInLine : (now : ℕ) → List LineSaid → Outside → World → Refusal → (blocks limit : ℕ) → Type 0
IsFullInLine now [] old files refusal blocks limit = ⊥
IsFullInLine now (line ∷ lines) old files refusal blocks limit =
    ((own : Refusal) × (Some refusal ≡ in_line line.number (Some own))
    × (asked_in_script line.text).full (line_invocation now line) old files own blocks limit)
    ⊎ ((acts : List Act) × (middle : Outside) × EndsBy (LineSteps now line) old acts middle None
    × IsFullInLine now lines middle files refusal blocks limit)

-- a line of this number is not behind the line of that number, if there is one
abbrev pub is_up_to : Option ℕ → (number : ℕ) → Bool
is_up_to None number = true
is_up_to (Some last) number = nat_le number last

-- a line is reached by a script that ends with this refusal, or with none: it is not behind the line in which the
-- refusal stands
abbrev pub is_come_to : Option Refusal → LineSaid → Bool
is_come_to None line = true
is_come_to (Some refusal) line = is_up_to refusal.place.line line.number

-- one of these lines is reached and uses the link
abbrev pub comes_to_link : List LineSaid → Option Refusal → Bool
comes_to_link lines refusal =
    list_any (λ (line : LineSaid). is_come_to refusal line && (asked_in_script line.text).uses.link) lines

-- each line asks for a command whose conditions hold in whatever those before it may leave
abbrev pub LinesSuffice : (now : ℕ) → List LineSaid → Outside → Type 0
LinesSuffice now [] old = ⊤
LinesSuffice now (line ∷ lines) old =
    (asked_in_script line.text).suffices (line_invocation now line) old
    × ((acts : List Act) (middle : Outside) → EndsBy (LineSteps now line) old acts middle None
    → LinesSuffice now lines middle)

-- How a refusal stands in a script.

-- A refusal is one of a line that was at hand: it names the line; what the line asks for may be refused so; where that
-- is a fault, a count of something that the line uses rose in it, and where it is one of the link, the line left it
-- unfinished; and the line's steps were done in part.
pub record IsOfLine (now : ℕ) (line : LineSaid) (tells : RunTells) (old new : RunSeen)
    (refusal : Refusal) : Type 0 where
  pub named : refusal.place.line ≡ Some line.number
  pub may : (asked_in_script line.text).may refusal.cause refusal.name
  pub reason : HasReason (asked_in_script line.text).uses old new ⊤ refusal.cause
  pub unfinished : refusal.cause ≡ LinkFault → IsLineUnfinished now line tells old new
  pub part : IsWorldTold tells → IsDoneInPart (LineSteps now line) tells (Some refusal.cause) old new

-- a refusal is that of one of the lines, which was at hand once those before it were carried out
abbrev pub IsOfLines : (now : ℕ) → List LineSaid → RunTells → (old new : RunSeen) → Refusal → Type 0
IsOfLines now lines tells old new refusal =
    ReachesLine (λ (line : LineSaid) (before : RunSeen). IsOfLine now line tells before new refusal) now lines tells old

-- the causes for which a script is refused outside of its lines, with the name that is said: it was not read, or it is
-- refused itself
abbrev pub IsOwnCause : Cause → List ℕ → Type 0
IsOwnCause cause name = (cause ≡ SourceFault) ⊎ ((cause ≡ Memory) ⊎ ScriptMayRefuse cause name)

-- How the refusal of a script stands in it. One that stands in no line is the script's own. A fault of the input stands
-- in no line, since no line reads the input. One that stands in a line is that of the line of the script that was at
-- hand, once those before it were carried out; and where the script is not refused itself, the input had been read to
-- its end by then.
pub record StandsInScript (now : ℕ) (tells : RunTells) (old new : RunSeen) (refusal : Refusal) : Type 0 where
  pub own : refusal.place.line ≡ None → IsOwnCause refusal.cause refusal.name
  pub unread : refusal.cause ≡ SourceFault → refusal.place.line ≡ None
  pub line : IsTrue tells.input → IsSome refusal.place.line
      → IsOfLines now (script_said old.input.left).lines tells (record old { input = new.input }) new refusal
  pub read : IsTrue tells.input → (script_said old.input.left).refusal ≡ None → IsSome refusal.place.line
      → new.input.left ≡ []

-- The commands of the command line.

-- The commands that the lines of the standard input ask for. The link is said to have failed only in a line that was
-- left unfinished; a script that is not refused itself takes the whole input, so its lines find nothing left of it.
abbrev pub scripting : Description
scripting = record (row ScriptSteps script_uses RunningMayRefuse) {
  unfinished = λ (invocation : Invocation) (tells : RunTells) (old new : RunSeen). IsTrue tells.input
      → (input : SourceSeen)
      × IsLeftUnfinished invocation.now (script_said old.input.left).lines tells (record old { input = input }) new;
  full =
      λ (invocation : Invocation) (old : Outside) (files : World) (refusal : Refusal) (blocks limit : ℕ).
      (left : List ℕ)
      × IsFullInLine invocation.now (script_said old.input).lines (record old { input = left }) files
      refusal blocks limit;
  links = λ (bytes : List ℕ). comes_to_link (script_said bytes).lines;
  suffices = λ (invocation : Invocation) (old : Outside). ((script_said old.input).refusal ≡ None)
      × LinesSuffice invocation.now (script_said old.input).lines (record old { input = [] });
  at_once = λ (invocation : Invocation) (old : Outside). ⊥;
}

-- a command is a script
abbrev pub is_script : Command → Bool
is_script ScriptCommand = true
is_script _ = false

-- a script, or else this command
abbrev pub script_or : (script : Bool) → Description → Description
script_or true command = scripting
script_or false command = command

-- the table of the command line: a script, and each command that may stand in one
abbrev pub commanded : Command → Description
commanded command = script_or (is_script command) (described command)
