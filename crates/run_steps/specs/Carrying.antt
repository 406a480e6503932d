-- How a command is carried out but for its error line, act by act.
use Rattle.std.specs.Prelude.{◌≡◌, ◌≢◌, ℕ, false, IsTrue, List, Option, Some, None, Result, Ok, Err, OnOk, IfErr, ◌++◌}
use Rattle.std.specs.Prelude.{take, [], ◌∷◌, ◌≤◌, ◌+◌}
use Rattle.outside.specs.Text.{AppendsPrefix}
use Rattle.outside.specs.World.{World, KeepsOthers}
use Rattle.outside.specs.Seen.{StoreSeen}
use Rattle.refusals.specs.declared.cause.Cause.{Cause}
use Rattle.refusals.specs.declared.reason.Refusal.{Refusal}
use Rattle.refusals.specs.Status.{status_of}
use Rattle.run_steps.specs.Done.{IsLater, IsUnwritten, IsWorldTold, RunSeen, RunTells}
use Rattle.run_steps.specs.Steps.{Steps, Ending, Before, Finish, DoingAll}
use Rattle.run_steps.specs.Run.{Uses, HasReason, IsPlacedBy, HasSteps, IsDoneInPart}
use Rattle.run_steps.specs.Act.{Act, Follows, FollowsInPart, answers, err_bytes, out_bytes, started_by}
use Rattle.run_steps.specs.Writes.{WritesInPart}

-- the cause for which a command was refused, if it was
abbrev pub cause_in : Result (Unit {0}) Refusal → Option Cause
cause_in (Ok passed) = None
cause_in (Err refusal) = Some refusal.cause

-- A command was carried out but for the error line. Where it ended well or was refused by a step, its steps say so and
-- its acts were done. Where it was stopped, there is a reason. In every case its steps were done in part, if not whole.
-- Nothing was said, unless it warns, and the refusal is in no line of a script, unless it reads commands.
pub record CarriesOut (steps : Steps) (uses : Uses) (may : Cause → List ℕ → Type 0) (tells : RunTells)
    (old new : RunSeen) (result : Result (Unit {0}) Refusal) : Type 0 where
  pub done : OnOk result (IsWorldTold tells → HasSteps steps tells None old new)
  pub refused : IfErr result
      (λ (refusal : Refusal).
      HasReason uses old new (IsWorldTold tells → HasSteps steps tells (Some refusal) old new) refusal.cause)
  pub part : IsWorldTold tells → IsDoneInPart steps tells (cause_in result) old new
  pub may_refuse : IfErr result (λ (refusal : Refusal). may refusal.cause refusal.name)
  pub placed : IfErr result (IsPlacedBy uses)
  pub only_reads : uses.changes ≡ false → IsUnwritten old.store new.store
  pub all_or_nothing : IsTrue uses.all_or_nothing
      → IfErr result (λ (refusal : Refusal). status_of refusal.cause ≢ 4 → IsUnwritten old.store new.store)
  pub quiet : uses.warns ≡ false → new.err ≡ old.err
  pub later : IsLater old new

-- Acts were done up to one that may have been done in part: bytes by a prefix of them, an edit as one that failed may
-- leave the file, and a replacement, a start of the link and an answer not at all.
pub record AreDoneInPart (tells : RunTells) (acts : List Act) (old new : RunSeen) : Type 0 where
  pub done : List Act
  pub rest : List Act
  pub whole : acts ≡ done ++ rest
  pub files : (middle : World) × Follows done old.store.files middle × FollowsInPart rest middle new.store.files
  pub out : IsTrue tells.out
      → AppendsPrefix (old.out.written ++ out_bytes done) new.out.written (out_bytes (take 1 rest))
  pub err : IsTrue tells.err
      → AppendsPrefix (old.err.written ++ err_bytes done) new.err.written (err_bytes (take 1 rest))
  pub answered : new.link.answers ≡ old.link.answers ++ answers done
  pub started : new.link.started ≡ started_by done old.link.started
  pub writes : WritesInPart (take 1 rest) (done ++ take 1 rest) old.store.writes new.store.writes

-- acts are done, and then comes a refusal, if there is one
abbrev pub AreDoneThen : List Act → Option Refusal → Steps
AreDoneThen acts refusal = DoingAll acts (Ending refusal)

-- commands one after another, up to one that is refused
abbrev pub InARow : List Steps → Steps
InARow [] = Finish
InARow (one ∷ others) = Before one (InARow others)

-- However an edit of the named file ended, and whatever is told, all other files are as they were, with twelve calls of
-- `write` at most.
pub record EditsAlone (name : List ℕ) (old new : StoreSeen) : Type 0 where
  pub others : KeepsOthers name old.files new.files
  pub writes : new.writes ≤ old.writes + 12
