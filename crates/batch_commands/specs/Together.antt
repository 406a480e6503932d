-- Edits of many lines that are made together: in memory, after which the file is replaced once. Source: this project's
-- own.
use Rattle.std.specs.Prelude.{◌≡◌, ◌⊎◌, ◌+◌, ◌*◌, ◌<◌, ◌≤◌, ◌^◌, ℕ, Bool, IsTrue, true, false, List, Option, Some, None}
use Rattle.std.specs.Prelude.{Result, Ok, Err, IfErr, OnOk, length, ⊤}
use Rattle.file_in_memory.specs.OneFile.{one_file_seen, only_file}
use Rattle.outside.specs.Count.{Rose}
use Rattle.outside.specs.Frame.{IsUnfailed}
use Rattle.outside.specs.Replacement.{replacement_name}
use Rattle.outside.specs.Seen.{LinkSeen, SinkSeen, SourceSeen, StoreSeen}
use Rattle.outside.specs.Unsynced.{AddsNone}
use Rattle.outside.specs.World.{World}
use Rattle.quota_value.specs.QuotaValue.{QuotaValue}
use Rattle.opened_file.specs.Replace.{pieces_of}
use Rattle.opened_file.specs.declared.quota_file.OpenFault.{OpenFault}
use Rattle.opened_file.specs.declared.quota_file.OpenFault.TheVariants.{Store as NotRead, Memory as NoMemory}
use Rattle.opened_file.specs.declared.replacement.ReplaceFault.{ReplaceFault}
use Rattle.opened_file.specs.declared.replacement.ReplaceFault.TheVariants.{Store as NotStored, Full, Memory as Wanting}
use Rattle.refusals.specs.declared.cause.Cause.{Cause}
use Rattle.refusals.specs.declared.cause.Cause.TheVariants.{StoreFault, Memory as WantOfMemory}
use Rattle.refusals.specs.declared.reason.Refusal.{Refusal}
use Rattle.refusals.specs.Status.{status_of}
use Rattle.run_steps.specs.Act.{Act, Way}
use Rattle.run_steps.specs.Done.{AreDone, Outside, RunSeen, RunTells, outside_of, seen_of}
use Rattle.run_steps.specs.Meaning.{EndsBy}
use Rattle.quota_map.specs.Asked.{Asked}
use Rattle.quota_map.specs.View.{asks_tree}
use Rattle.run_steps.specs.Run.{IsPlacedBy}
use Rattle.run_steps.specs.Steps.{Steps}
use Rattle.run_steps.specs.Writes.{edits_in}
use Rattle.batch_commands.specs.Batch.{AreWithin, LeaveRoom, line_uses}
use Rattle.batch_commands.specs.BatchReading.{LineSteps}
use Rattle.batch_commands.specs.declared.batch_line.LineEdit.{LineEdit}
use Rattle.batch_commands.specs.declared.together.Attempt.{Attempt}
use Rattle.batch_commands.specs.declared.together.Attempt.TheVariants.{Ended, NotMade}
use Rattle.batch_commands.specs.declared.together.Edited.{Edited}
use Rattle.batch_commands.specs.declared.together.GivenUp.{GivenUp}
use Rattle.batch_commands.specs.declared.together.GivenUp.TheVariants.{NoMemory as WithoutMemory, Failed, TooLong}
use Rattle.batch_commands.specs.declared.together.Whole.{Whole}

-- a fact of how edits that were to be made together ended, where they were made
abbrev pub IfEnded : Attempt → (Result (Unit {0}) Refusal → Type 0) → Type 0
IfEnded (Ended result) P = P result
IfEnded (NotMade name) P = ⊤

-- a fact of the name that is handed back, where they were not made
abbrev pub IfNotMade : Attempt → (List ℕ → Type 0) → Type 0
IfNotMade (Ended result) P = ⊤
IfNotMade (NotMade name) P = P name

-- the refusal with which edits ended, if one was refused
abbrev pub refusal_in : Result (Unit {0}) Refusal → Option Refusal
refusal_in (Ok passed) = None
refusal_in (Err refusal) = Some refusal

-- Calls that only read leave all files and make no call of `write`; where they were done, or no call on the store
-- failed, no name is unsynced that was not.
pub record IsOnlyRead (done : Bool) (old new : StoreSeen) : Type 0 where
  pub files : new.files ≡ old.files
  pub later : old.faults ≤ new.faults
  pub writes : new.writes ≡ old.writes
  pub synced : IsUnfailed done old new → AddsNone old.unsynced new.unsynced

-- The file of this name has these bytes, and there is none under the name that a new one would be written under.
pub record StandsAlone (files : World) (name bytes : List ℕ) : Type 0 where
  pub named : files name ≡ Some bytes
  pub no_other : files (replacement_name name) ≡ None

-- what is seen of one file in memory, after so many calls of `write`
abbrev pub memory_seen : (name bytes : List ℕ) (writes : ℕ) → StoreSeen
memory_seen name bytes writes =
    record { files = only_file name bytes; unsynced = λ _. false; faults = 0; reads = 0; writes = writes }

-- A store has one file, of this name and these bytes, and no call of `write` was made.
pub record HasBytes (name bytes : List ℕ) (seen : StoreSeen) : Type 0 where
  pub files : seen.files ≡ only_file name bytes
  pub unwritten : seen.writes ≡ 0

-- A line was refused by its edit, whatever is told: for one of these causes, and not since something failed or memory
-- ran out.
pub record IsOfEdit (may : Cause → List ℕ → Type 0) (refusal : Refusal) : Type 0 where
  pub allowed : may refusal.cause refusal.name
  pub placed : IsPlacedBy line_uses refusal
  pub own : status_of refusal.cause < 4

-- Lines were edited, so many of them: the acts by which their steps end with this refusal, or with none, were done, and
-- as many edits are among them.
pub record HasMade (steps : Steps) (tells : RunTells) (refusal : Option Refusal) (made : ℕ)
    (old new : RunSeen) : Type 0 where
  pub acts : List Act
  pub by_steps : EndsBy steps (outside_of old) acts (outside_of new) refusal
  pub done : AreDone tells acts old new
  pub counted : edits_in acts ≡ made

-- a fact of edits, unless they ended since something failed or there was not enough memory
abbrev pub IfOwn : Result (Unit {0}) Refusal → Type 0 → Type 0
IfOwn (Ok passed) P = P
IfOwn (Err refusal) P = status_of refusal.cause < 4 → P

-- Edits in memory of so many lines, of a file of these bytes: no more lines were edited; where nothing was written the
-- bytes are as they were, and a line that was refused was refused by its edit.
pub record IsEditOf (may : Cause → List ℕ → Type 0) (count : ℕ) (bytes : List ℕ) (edited : Edited) : Type 0 where
  pub few : edited.lines.made ≤ count
  pub same : edited.writes ≡ 0 → edited.bytes.items ≡ bytes
  pub refused : IfErr edited.lines.ended (IsOfEdit may)

-- what edits of a file of these bytes made in memory of it is what the steps do there, however they ended, whatever
-- else is seen
abbrev pub IsMadeInMemory : Steps → (name bytes : List ℕ) → Edited → Type 0
IsMadeInMemory steps name bytes edited =
    (input : SourceSeen) (out err : SinkSeen) (link : LinkSeen) (tells : RunTells)
    → HasMade steps tells (refusal_in edited.lines.ended) edited.lines.made
    (seen_of (memory_seen name bytes 0) input out err link)
    (seen_of (memory_seen name edited.bytes.items edited.writes) input out err link)

-- So many lines were to be edited in memory, by which a file may come to have this many bytes: it has no more; and
-- where no line was refused all of them were edited.
pub record IsWithin (most count : ℕ) (edited : Edited) : Type 0 where
  pub short : length edited.bytes.items ≤ most
  pub all : OnOk edited.lines.ended (edited.lines.made ≡ count)

-- So many lines of a file that was read whole may be edited together: what they may come to make of it can replace it,
-- in no more calls of `write` than twelve for each; and a tree file comes to have no more than 4,096 bytes for each
-- besides, and up to 2,048 of its header and its root, of which it may lack the end. They leave room in it.
pub record MayPay (asked : Asked) (count : ℕ) (whole : Whole) : Type 0 where
  pub few : pieces_of whole.most ≤ 12 * count
  pub within : whole.most ≤ 2 ^ 42
  pub grows : IsTrue (asks_tree asked) → whole.most ≤ length whole.bytes.items + 2048 + 4096 * count
  pub room : LeaveRoom asked count (length whole.bytes.items)

-- The edits of lines are not all done, whatever files there are, since one of them is refused.
abbrev pub AreNeverDone : (file : List ℕ) (now : ℕ) → List LineEdit → QuotaValue → Type 0
AreNeverDone file now lines value =
    (way : Way) (old new : Outside) (acts : List Act)
    → EndsBy (LineSteps way file now lines value) old acts new None → ⊥

-- a file is not opened for a fault of the store, or since there is not enough memory, and not for its bytes
abbrev pub is_of_call : OpenFault → Bool
is_of_call NotRead = true
is_of_call NoMemory = true
is_of_call _ = false

-- what is said where the file is not replaced
abbrev pub replace_cause : ReplaceFault → Cause
replace_cause NotStored = StoreFault
replace_cause (Full blocks limit) = StoreFault
replace_cause Wanting = WantOfMemory

-- Nothing was read, or a file of this length once, where so many lines may make as many calls of `write` as a
-- replacement of it.
abbrev pub ReadsWhole : (count length before now : ℕ) → Type 0
ReadsWhole count length before now =
    (now ≡ before) ⊎ ((pieces_of length ≤ 12 * count) × (now ≤ before + pieces_of length))

-- The least number of bytes in which a flat file that is asked for has room for as many as it has, and for the record
-- of each of these lines.
pub record IsFlatReach (asked : Asked) (size : ℕ) (lines : List LineEdit) (most : ℕ) : Type 0 where
  pub reaches : size ≤ most
  pub holds : AreWithin asked lines most
  pub least : (room : ℕ) → size ≤ room → AreWithin asked lines room → most ≤ room

-- Why lines are not edited in a copy of a file, which may have so many bytes, and of whose calls so many had failed:
-- one more of them failed, or it has more bytes; or there was not enough memory to come so far, where that may be.
abbrev pub IsGivenUp : (wanting : Type 0) (most faults : ℕ) → GivenUp → Type 0
IsGivenUp wanting most faults WithoutMemory = wanting
IsGivenUp wanting most faults (Failed copy) = Rose faults (one_file_seen copy).faults
IsGivenUp wanting most faults (TooLong bytes) = most < length bytes.items

-- a fact where there was not enough memory
abbrev pub IfWanting : Type 0 → Result (Unit {0}) Refusal → Type 0
IfWanting P result = IfErr result (λ (refusal : Refusal). refusal.cause ≡ WantOfMemory → P)
