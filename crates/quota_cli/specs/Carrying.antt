-- Lines of a script that were carried out, but for an error line.
use Rattle.std.specs.Prelude.{◌≡◌, ◌<◌, ℕ, ⊤, false, IfErr, IsSome, IsTrue, List, [], ◌∷◌, Option, None, Result, is_ok}
use Rattle.std.specs.Result.{result_err}
use Rattle.outside.specs.ManyCalls.{Syncs}
use Rattle.refusals.specs.declared.cause.Cause.{Cause}
use Rattle.refusals.specs.declared.cause.Cause.TheVariants.{Memory, SourceFault}
use Rattle.refusals.specs.declared.reason.Refusal.{Refusal}
use Rattle.run_steps.specs.Done.{RunSeen, RunTells}
use Rattle.run_steps.specs.Carrying.{CarriesOut}
use Rattle.script_lines.specs.Script.{LineSaid, ScriptMayRefuse}
use Rattle.script_lines.specs.declared.script.ScriptFault.{ScriptFault}
use Rattle.script_lines.specs.declared.script.ScriptFault.TheVariants.{Source, Memory as NoMemory}
use Rattle.quota_cli.specs.Script.{IsOfLine, IsOfLines, LineSteps, LinesSteps, RunningMayRefuse, asked_in_script}
use Rattle.quota_cli.specs.Script.{comes_to_link, script_uses}

-- A line was carried out: as its steps say, in its line; what it wrote has been synced where it ended well, and where
-- it did not too, unless a call on the store failed; its refusal is one of this line; and it left the link as it was
-- where it does not use it.
pub record IsLineCarried (now : ℕ) (line : LineSaid) (tells : RunTells) (old new : RunSeen)
    (result : Result (Unit {0}) Refusal) : Type 0 where
  pub carries : CarriesOut (LineSteps now line) script_uses RunningMayRefuse tells old new result
  pub synced : IsTrue tells.store → Syncs (is_ok result) old.store new.store
  pub unlinked : (asked_in_script line.text).uses.link ≡ false → new.link ≡ old.link
  pub of_line : IfErr result (IsOfLine now line tells old new)

-- the numbers of lines ascend from above this one
abbrev pub Ascends : (least : ℕ) → List LineSaid → Type 0
Ascends least [] = ⊤
Ascends least (line ∷ lines) = (least < line.number) × Ascends line.number lines

-- Lines were carried out one after another, with the refusal of the script behind the last one, if there is one. A
-- refusal that stands in a line is that of the one of these lines that was at hand, and one that stands in none is the
-- script's own. What the lines wrote has been synced, unless a call on the store failed and a line was refused; and the
-- link is as it was where no line that was reached uses it.
pub record AreCarried (now : ℕ) (lines : List LineSaid) (refusal : Option Refusal) (tells : RunTells)
    (old new : RunSeen) (result : Result (Unit {0}) Refusal) : Type 0 where
  pub carries : CarriesOut (LinesSteps now lines refusal) script_uses RunningMayRefuse tells old new result
  pub synced : IsTrue tells.store → Syncs (is_ok result) old.store new.store
  pub own : IfErr result (λ (said : Refusal). said.place.line ≡ None → ScriptMayRefuse said.cause said.name)
  pub within : IfErr result (λ (said : Refusal). IsSome said.place.line → IsOfLines now lines tells old new said)
  pub unlinked : (least : ℕ) → Ascends least lines → comes_to_link lines (result_err result) ≡ false
      → new.link ≡ old.link

-- the cause that is said where a script was not read
abbrev pub unread_cause : ScriptFault → Cause
unread_cause Source = SourceFault
unread_cause NoMemory = Memory
