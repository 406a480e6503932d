-- What a run of the program does to what is outside.
use Rattle.std.specs.Prelude.{◌≡◌, ◌≢◌, ◌≤◌, ◌⊎◌, ◌↔◌, ℕ, false, IsTrue, IfSome, IsErr, List, [], Option, Some, None, ⊤}
use Rattle.outside.specs.Count.{Rose}
use Rattle.outside.specs.Frame.{AreSynced}
use Rattle.outside.specs.Seen.{SinkSeen}
use Rattle.refusals.specs.declared.cause.Cause.TheVariants.{Full, LinkFault}
use Rattle.refusals.specs.declared.reason.Refusal.{Refusal}
use Rattle.refusals.specs.Line.{closing_line, error_line}
use Rattle.refusals.specs.Said.{AppendsUnless}
use Rattle.refusals.specs.Status.{end_status, status_of}
use Rattle.run_steps.specs.Act.{Act}
use Rattle.run_steps.specs.Done.{AreDone, IsLater, IsUnwritten, IsWorldTold, NoFault, Outside, RunSeen, RunTells}
use Rattle.run_steps.specs.Done.{outside_of}
use Rattle.run_steps.specs.Meaning.{HasEffectOf, IsSure}
use Rattle.run_steps.specs.Received.{AreReceived, Receives}
use Rattle.run_steps.specs.Run.{HasReason, HasSteps, IsDoneInPart, IsPlacedBy, Uses}
use Rattle.run_steps.specs.Steps.{Steps}
use Rattle.run_steps.specs.Writes.{ReadsWithin}
use Rattle.run_steps.specs.declared.invocation.Invocation.{Invocation}
use Rattle.command_words.specs.Asked.{command_of}
use Rattle.descriptions.specs.Description.{ChangesWithin, Description, IsLeftByEdit, IsOnlyRead}
use Rattle.command_table.specs.CarriedOut.{AreReadsTold}
use Rattle.command_table.specs.Table.{asked_by}
use Rattle.quota_cli.specs.Script.{StandsInScript, commanded}

-- what a run is given: the words, and when it takes place
pub record CommandLine : Type 0 where
  pub words : List (List ℕ)
  pub invocation : Invocation

-- words on the command line, at a moment in seconds since 1970
abbrev pub command_line : List (List ℕ) → ℕ → CommandLine
command_line words now = record { words = words; invocation = record { now = now; line = None } }

-- the command that words ask for
abbrev pub asked : CommandLine → Description
asked typed = asked_by commanded (command_of false typed.words)

-- its steps
abbrev pub steps_asked : CommandLine → Steps
steps_asked typed = (asked typed).steps typed.invocation

-- the objects that it uses
abbrev pub uses_asked : CommandLine → Uses
uses_asked typed = (asked typed).uses

-- the effect of words: from what is outside, by acts, to what is outside then, with a status
abbrev pub Effect : CommandLine → Outside → List Act → Outside → ℕ → Type 0
Effect typed = HasEffectOf (steps_asked typed)

-- The headline: there are acts that with the status are the effect of the words, and they were done: the output and the
-- error output got exactly their bytes, the link was started exactly as they say and sent their answers, and the files
-- follow. With status 0 nothing is left of an input that is used, and as many datagrams were taken as the steps
-- receive, the first ones. Where an edit was refused since its file is full, that file has no room for the edit as the
-- store has it at the end.
pub record HasEffect (typed : CommandLine) (tells : RunTells) (old new : RunSeen) (status : ℕ) : Type 0 where
  pub acts : List Act
  pub effect : Effect typed (outside_of old) acts (outside_of new) status
  pub done : AreDone tells acts old new
  pub input : status ≡ 0 → IsTrue (uses_asked typed).input → new.input.left ≡ []
  pub datagrams : (count : ℕ) → Receives count (steps_asked typed) → status ≡ 0
      → AreReceived count old.link.left new.link.left
  pub full : (refusal : Refusal) (blocks limit : ℕ) → effect.refusal ≡ Some refusal → refusal.cause ≡ Full blocks limit
      → (asked typed).full typed.invocation (outside_of old) new.store.files refusal blocks limit

-- The effect of the words, where the error output may have failed in the error line at the end: it then got a prefix of
-- that line, and all else was done.
pub record HasEffectUpToErr (typed : CommandLine) (tells : RunTells) (old new : RunSeen) (status : ℕ) : Type 0 where
  pub refusal : Option Refusal
  pub before : SinkSeen
  pub later : old.err.faults ≤ before.faults
  pub has : HasSteps (steps_asked typed) tells refusal old (record new { err = before })
  pub ended : status ≡ end_status refusal
  pub line : IsTrue tells.err → AppendsUnless (Rose before.faults new.err.faults) before.written new.err.written
      (closing_line refusal)

-- How a refusal stands in what the words ask to be read: in lines of that alone, and the refusal of a script as one
-- stands in a script.
pub record IsPlaced (typed : CommandLine) (tells : RunTells) (old new : RunSeen) (refusal : Refusal) : Type 0 where
  pub by_uses : IsPlacedBy (uses_asked typed) refusal
  pub in_script : IsTrue (uses_asked typed).reads_commands → StandsInScript typed.invocation.now tells old new refusal

-- the link is as it was where nothing that was reached uses it, up to the refusal that was said; this is known where
-- the input tells
abbrev pub LeavesLink : CommandLine → RunTells → RunSeen → RunSeen → Option Refusal → Type 0
LeavesLink typed tells old new refusal =
    IsTrue tells.input → (asked typed).links old.input.left refusal ≡ false → new.link ≡ old.link

-- A run that was refused: the status is the cause's, and at the end its error line went to the error output. Before
-- that line nothing was said, unless the command warns.
pub record IsRefusedRun (typed : CommandLine) (tells : RunTells) (old new : RunSeen) (status : ℕ) : Type 0 where
  pub refusal : Refusal
  pub before : SinkSeen
  pub later : old.err.faults ≤ before.faults
  pub may : (asked typed).may refusal.cause refusal.name
  pub placed : IsPlaced typed tells old (record new { err = before }) refusal
  pub reason : HasReason (uses_asked typed) old (record new { err = before }) ⊤ refusal.cause
  pub status_is : status ≡ status_of refusal.cause
  pub quiet : (uses_asked typed).warns ≡ false → before ≡ old.err
  pub line : IsTrue tells.err → AppendsUnless (Rose before.faults new.err.faults) before.written new.err.written
      (error_line refusal)
  pub unlinked : LeavesLink typed tells old new (Some refusal)

-- what is seen of a run before its error line
abbrev pub before_line : RunSeen → SinkSeen → RunSeen
before_line new before = record new { err = before }

-- With status 4 or 5 a run was refused for a fault or for lack of memory. Before the error line that says which its
-- steps had begun, and of the act that was at hand a part may have been done; where it is an output that is said to
-- have failed, bytes to it were at hand. The link is said to have failed only where not all was done with it. Of a
-- script, what stopped it outside of its lines came before the first of them, when nothing had been done but that the
-- input was read.
pub record IsStopped (typed : CommandLine) (tells : RunTells) (old new : RunSeen) (status : ℕ) : Type 0 where
  pub run : IsRefusedRun typed tells old new status
  pub reason : HasReason (uses_asked typed) old (before_line new run.before) ⊥ run.refusal.cause
  pub part : IsWorldTold tells
      → IsDoneInPart (steps_asked typed) tells (Some run.refusal.cause) old (before_line new run.before)
  pub unfinished : run.refusal.cause ≡ LinkFault
      → (asked typed).unfinished typed.invocation tells old (before_line new run.before)
  pub unbegun : IsTrue (uses_asked typed).reads_commands → run.refusal.place.line ≡ None
      → IsOnlyRead old (before_line new run.before)

-- A run that ended well: it said nothing but warnings.
pub record HasPassed (typed : CommandLine) (tells : RunTells) (old new : RunSeen) (status : ℕ) : Type 0 where
  pub status_is : status ≡ 0
  pub quiet : (uses_asked typed).warns ≡ false → IsTrue tells.err → new.err.written ≡ old.err.written
  pub unlinked : LeavesLink typed tells old new None

-- What the program says, whatever is told of all else: with status 0 nothing but warnings, and otherwise one error
-- line.
abbrev pub HasSaid : CommandLine → RunTells → RunSeen → RunSeen → ℕ → Type 0
HasSaid typed tells old new status = HasPassed typed tells old new status ⊎ IsRefusedRun typed tells old new status

-- Where a word is faulty, the run ends with the refusal of the first such word.
pub record IsRefusedWord (typed : CommandLine) (tells : RunTells) (old new : RunSeen) (status : ℕ)
    (refusal : Refusal) : Type 0 where
  pub status_is : status ≡ status_of refusal.cause
  pub line : IsTrue tells.err → AppendsUnless (Rose old.err.faults new.err.faults) old.err.written new.err.written
      (error_line refusal)

-- What else a run keeps.
pub record Keeps (typed : CommandLine) (tells : RunTells) (old new : RunSeen) (status : ℕ) : Type 0 where
  -- A status other than 4 and 5 is that of the effect, of which everything was done, except that the error output may
  -- have failed while the error line was written.
  pub done : IsWorldTold tells → status ≢ 4 → status ≢ 5 → HasEffectUpToErr typed tells old new status
  -- With status 4 or 5 the run was stopped by a fault or for lack of memory, and says which. Before that its steps had
  -- begun; the act that was at hand may have been done in part.
  pub stopped : (status ≡ 4) ⊎ (status ≡ 5) → IsStopped typed tells old new status
  -- Whatever the status, the steps have begun: some acts were done, of the one at hand at most a part, and nothing that
  -- no step does, the error output left aside.
  pub part : IsWorldTold tells → IsDoneInPart (steps_asked typed) (record tells { err = false }) None old new
  -- Where no step is refused, whatever is chosen, and nothing outside failed, the status is 0, unless memory runs out.
  pub complete : IsWorldTold tells → IsSure (steps_asked typed) (outside_of old) → NoFault old new
      → (status ≡ 0) ⊎ (status ≡ 5)
  -- Status 2 comes exactly where the words ask for nothing, unless they ask for commands to be read.
  pub usage : (uses_asked typed).reads_commands ≡ false → (status ≡ 2) ↔ IsErr (command_of false typed.words)
  -- Where a word is faulty, the first such word is refused, whatever is told, unless memory runs out.
  pub words : (refusal : Refusal) → (asked typed).faulty ≡ Some refusal
      → IsRefusedWord typed tells old new status refusal ⊎ (status ≡ 5)
  -- Whatever is told, status 0 says nothing but warnings, and any other one is that of a cause whose error line went
  -- out. The link is as it was where nothing that was reached uses it, up to the refusal that was said.
  pub says : HasSaid typed tells old new status
  -- A command that only reads changes no file and writes none, and neither does one that is all or nothing where it was
  -- refused by anything but a fault of something outside, whatever is told.
  pub writes : ((uses_asked typed).changes ≡ false)
      ⊎ (IsTrue (uses_asked typed).all_or_nothing × (status ≢ 0) × (status ≢ 4))
      → IsUnwritten old.store new.store
  -- With any status but 0 a file that the command replaces as a whole is as it was, after a fault of the store too.
  pub named : IfSome (asked typed).replaces (λ (file : List ℕ). status ≢ 0 → IsTrue tells.store
      → new.store.files file ≡ old.store.files file)
  -- With status 1, 2, 3 or 5 a file that the command edits is as it was; with status 4 it is as it was, or as an edit
  -- that failed may leave it. With status 0 nothing is said here.
  pub edited : IfSome (asked typed).edits (λ (file : List ℕ). IsTrue tells.store
      → IsLeftByEdit status old.store.files new.store.files file)
  -- With status 5 `setquota -b` has changed no file and made no call of `write`, whatever is told. Of all other
  -- commands but `generate` and `script` this is said by `writes`.
  pub unwritten : IsTrue (asked typed).unwritten → status ≡ 5 → IsUnwritten old.store new.store
  -- Whatever is told, and with any status, no other file has changed than the only one that the command changes, or
  -- than the only one that it makes anew and the one with `.new` added to that name. There were no more calls of
  -- `write` to the store than it makes: twelve at most where it edits a file once. What many edits add up to is said of
  -- the acts in `part`: twelve for each one that was done, twelve for the one at hand, and, where that is the first
  -- change of several that may be made together, twelve for each of the others.
  pub within : ChangesWithin (asked typed) old.store new.store
  -- With status 0 there were no more calls of `read` to the store than the command makes, where that is said: of
  -- `rquotad` those of opening each file, and five for each datagram; of `setquota -b` without a file of names and out
  -- of the standard input those of opening the file, and seventeen for each line that asks for an edit.
  pub reads : status ≡ 0 → AreReadsTold (uses_asked typed) tells
      → ReadsWithin ((asked typed).most_reads (outside_of old)) old.store new.store
  -- With status 0 the files are what a change of such a file makes of them, beside standing for the edited value, where
  -- the words ask for new limits, new times or new grace periods: of a tree file into which a record was put, that it
  -- has no more blocks than before unless none is free then, and that a block became a data block only where none had
  -- room.
  pub made : status ≡ 0 → IsTrue tells.store → (asked typed).made typed.invocation (outside_of old) new.store.files
  -- With status 0 what was written has been synced, and with any other one too where no call on the store failed: no
  -- name is unsynced that was not, and that of each file that has changed is not.
  pub synced : (status ≡ 0) ⊎ (¬ Rose old.store.faults new.store.faults) → IsTrue tells.store
      → AreSynced old.store new.store
  -- With status 5 nothing was done with the link: no datagram was taken. This is said of words that ask for no commands
  -- to be read.
  pub untaken : (uses_asked typed).reads_commands ≡ false → status ≡ 5 → new.link ≡ old.link
  -- No count of faults falls.
  pub later : IsLater old new
