-- How a command is carried out but for its error line.
use Rattle.std.specs.Prelude.{◌≡◌, ◌⊎◌, ℕ, Bool, false, None, IsTrue, IfErr, IfSome, OnErr, OnOk, List, Result, is_ok}
use Rattle.std.specs.Result.{result_err}
use Rattle.outside.specs.ManyCalls.{Syncs}
use Rattle.outside.specs.World.{World}
use Rattle.refusals.specs.declared.cause.Cause.{Cause}
use Rattle.refusals.specs.declared.cause.Cause.TheVariants.{LinkFault, Memory}
use Rattle.refusals.specs.declared.reason.Refusal.{Refusal}
use Rattle.refusals.specs.Status.{status_of}
use Rattle.run_steps.specs.Committed.{CommitsSteps}
use Rattle.run_steps.specs.Done.{IsUnwritten, Outside, RunSeen, RunTells, outside_of}
use Rattle.run_steps.specs.Carrying.{CarriesOut}
use Rattle.run_steps.specs.Run.{Uses}
use Rattle.run_steps.specs.Writes.{ReadsWithin}
use Rattle.run_steps.specs.declared.invocation.Invocation.{Invocation}
use Rattle.descriptions.specs.Description.{Description, IsOnlyRead, IsLeftByEdit, ChangesWithin, MayCommit}

-- a cause is a fault of something outside, or lack of memory
abbrev pub StopsIt : Cause → Type 0
StopsIt cause = (status_of cause ≡ 4) ⊎ (status_of cause ≡ 5)

-- What the bound of its calls of `read` rests on is told: the files, and the input where the command uses it.
pub record AreReadsTold (uses : Uses) (tells : RunTells) : Type 0 where
  pub store : IsTrue tells.store
  pub input : IsTrue uses.input → IsTrue tells.input

-- What a command reads from is told: the files, and the input and the datagrams where the command uses them.
pub record IsToldAsUsed (uses : Uses) (tells : RunTells) : Type 0 where
  pub store : IsTrue tells.store
  pub input : IsTrue uses.input → IsTrue tells.input
  pub link : IsTrue uses.link → IsTrue tells.link

-- A command was carried out but for its error line. Where it was refused, for whichever cause, a file that it replaces
-- as a whole is as it was, and one that it edits is as an edit leaves it by the status of that cause; and nothing was
-- written where there was not enough memory, where its description says so. What was written has been synced where it
-- was done, and where it was refused too, unless a call on the store failed. The link is said to have failed only where
-- not all was done with it; where memory ran out, a command that reads no commands did nothing with it; and a command
-- that did not come to use it left it as it was. Where commands were to be read, and what stopped that names no line,
-- nothing was done but that the input was read.
pub record IsCarriedOut (command : Description) (invocation : Invocation) (tells : RunTells) (old new : RunSeen)
    (result : Result (Unit {0}) Refusal) : Type 0 where
  pub carries : CarriesOut (command.steps invocation) command.uses command.may tells old new result
  pub named : IfSome command.replaces
      (λ (file : List ℕ). OnErr result (IsTrue tells.store → new.store.files file ≡ old.store.files file))
  pub edited : IfSome command.edits (λ (file : List ℕ). IfErr result (λ (refusal : Refusal). IsTrue tells.store
      → IsLeftByEdit (status_of refusal.cause) old.store.files new.store.files file))
  pub unwritten : IsTrue command.unwritten
      → IfErr result (λ (refusal : Refusal). refusal.cause ≡ Memory → IsUnwritten old.store new.store)
  pub within : ChangesWithin command old.store new.store
  pub reads : OnOk result
      (AreReadsTold command.uses tells → ReadsWithin (command.most_reads (outside_of old)) old.store new.store)
  pub made : OnOk result (IsTrue tells.store → command.made invocation (outside_of old) new.store.files)
  pub synced : IsTrue tells.store → Syncs (is_ok result) old.store new.store
  pub unfinished : IfErr result
      (λ (refusal : Refusal). refusal.cause ≡ LinkFault → command.unfinished invocation tells old new)
  pub untaken : command.uses.reads_commands ≡ false
      → IfErr result (λ (refusal : Refusal). status_of refusal.cause ≡ 5 → new.link ≡ old.link)
  pub unbegun : IsTrue command.uses.reads_commands
      → IfErr result (λ (refusal : Refusal). StopsIt refusal.cause → refusal.place.line ≡ None → IsOnlyRead old new)
  pub unlinked : IsTrue tells.input → command.links old.input.left (result_err result) ≡ false → new.link ≡ old.link

-- All that a command committed are files that its steps come to, in which no other file has changed than it changes,
-- and none where it changes none. Where the command changes files at one moment they are those of one moment alone: of
-- the end, where it was done.
abbrev pub CommandCommits : (command : Description) → Invocation → (ended : Bool) → Outside → World
    → (commits : List World → Type 0) → Type 0
CommandCommits command invocation ended old new commits =
    CommitsSteps (command.at_once invocation old) ended (command.steps invocation)
    (MayCommit command old.files) old new commits
