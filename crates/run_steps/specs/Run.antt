-- How a command is carried out, whichever it is.
use Rattle.std.specs.Prelude.{◌≡◌, ◌⊎◌, ◌&&◌, Bool, false, IsTrue, List, ◌∷◌, ◌++◌, Option, Some, None}
use Rattle.outside.specs.Count.{Rose}
use Rattle.outside.specs.Text.{AppendsPrefix}
use Rattle.refusals.specs.declared.cause.Cause.{Cause}
use Rattle.refusals.specs.declared.cause.Cause.TheVariants.{StoreFault, SourceFault, SinkFault, LinkFault}
use Rattle.refusals.specs.declared.reason.Refusal.{Refusal}
use Rattle.refusals.specs.Refusals.{stands_in_line}
use Rattle.refusals.specs.Status.{ByGroup, group_of}
use Rattle.run_steps.specs.Act.{Act, ToErr, ToOut, FollowsInPart, answers, err_bytes, out_bytes, started_by}
use Rattle.run_steps.specs.Done.{AreDone, Outside, RunSeen, RunTells, outside_of}
use Rattle.run_steps.specs.Meaning.{EndsBy, HasBegun}
use Rattle.run_steps.specs.Steps.{Steps}
use Rattle.run_steps.specs.Writes.{WritesInPart}

-- Which objects a command uses. A command that changes no file only reads the store; one that is all or nothing has
-- written nothing where it was refused, unless something outside failed. One that warns writes more to the error output
-- than the line of its refusal; one that reads commands, and one that reads edits, may be refused in one of their
-- lines.
pub record Uses : Type 0 where
  pub input : Bool
  pub out : Bool
  pub link : Bool
  pub changes : Bool
  pub all_or_nothing : Bool
  pub warns : Bool
  pub reads_commands : Bool
  pub reads_edits : Bool

-- An object outside failed: its count of faults rose. The error output counts as an output where the command warns, and
-- the link where the command uses it.
abbrev pub HasFailed : (warns link : Bool) → RunSeen → RunSeen → Cause → Type 0
HasFailed warns link old new StoreFault = Rose old.store.faults new.store.faults
HasFailed warns link old new SourceFault = Rose old.input.faults new.input.faults
HasFailed warns link old new SinkFault =
    Rose old.out.faults new.out.faults ⊎ (IsTrue warns × Rose old.err.faults new.err.faults)
HasFailed warns link old new LinkFault = IsTrue link × Rose old.link.faults new.link.faults
HasFailed warns link old new _ = ⊥

-- A cause that stops a command before its effect is whole is a fault of an object outside or lack of memory. Every
-- other cause belongs to the effect, and then `stated` holds.
abbrev pub HasReason : Uses → RunSeen → RunSeen → Type 0 → Cause → Type 0
HasReason uses old new stated cause = ByGroup (group_of cause) (HasFailed uses.warns uses.link old new cause) stated

-- A refusal stands in no line of a script, unless the command reads commands, and in no line of an input, unless it
-- reads edits and is one of a word or of a value for which there is no room.
pub record IsPlacedIn (commands edits : Bool) (refusal : Refusal) : Type 0 where
  pub line : commands ≡ false → refusal.place.line ≡ None
  pub input_line : (edits && stands_in_line refusal.cause) ≡ false → refusal.place.input_line ≡ None

-- the refusal of a command with these uses stands so
abbrev pub IsPlacedBy : Uses → Refusal → Type 0
IsPlacedBy uses refusal = IsPlacedIn uses.reads_commands uses.reads_edits refusal

-- the acts by which the steps of a command end with this refusal, or with none; they were done
pub record HasSteps (steps : Steps) (tells : RunTells) (refusal : Option Refusal) (old new : RunSeen) : Type 0 where
  pub acts : List Act
  pub by_steps : EndsBy steps (outside_of old) acts (outside_of new) refusal
  pub done : AreDone tells acts old new

-- bytes are at hand, and the output to which they go failed
abbrev pub FailsAtHand : (hand : List Act) → (out err : Type 0) → Type 0
FailsAtHand (ToOut bytes ∷ acts) out err = out
FailsAtHand (ToErr bytes ∷ acts) out err = err
FailsAtHand _ out err = ⊥

-- Steps were done in part: they have begun, and the act that is at hand, if there is one, may have been done in part:
-- bytes by a prefix of them, an edit as one that failed may leave the file, and a replacement and an answer not at all;
-- a link is never started in part. Nothing else was done, and there were no more calls of `write` to the store than
-- these acts take, with them the one at hand and the edits together with which it may be made. What is left of the
-- input is not said. Where it is an output that is said to have failed, bytes to it are at hand, and its count of
-- faults rose; this is known where the error output tells.
pub record IsDoneInPart (steps : Steps) (tells : RunTells) (why : Option Cause) (old new : RunSeen) : Type 0 where
  pub done : List Act
  pub hand : List Act
  pub now : Outside
  pub begun : HasBegun steps (outside_of old) done hand now
  pub files : FollowsInPart hand now.files new.store.files
  pub out : IsTrue tells.out → AppendsPrefix (old.out.written ++ out_bytes done) new.out.written (out_bytes hand)
  pub err : IsTrue tells.err → AppendsPrefix (old.err.written ++ err_bytes done) new.err.written (err_bytes hand)
  pub answered : new.link.answers ≡ old.link.answers ++ answers done
  pub started : new.link.started ≡ started_by done old.link.started
  pub datagrams : new.link.left ≡ now.datagrams
  pub writes : WritesInPart hand (done ++ hand) old.store.writes new.store.writes
  pub failed : why ≡ Some SinkFault → IsTrue tells.err
      → FailsAtHand hand (Rose old.out.faults new.out.faults) (Rose old.err.faults new.err.faults)
