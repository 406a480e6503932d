-- What is said of every edit of the value that an opened quota file holds, whatever it sets and whatever the format:
-- what it means that it was done, why it is refused, and what it leaves then. Source: this project's own.
use Rattle.std.specs.Prelude.{◌≡◌, ◌⊎◌, ℕ, ◌+◌, ◌<◌, ◌≤◌, Bool, true, false, IsTrue, is_ok, IsOk, IsOkAnd, IfOk, IfErr}
use Rattle.std.specs.Prelude.{IfSome, OnErr, OnOk, List, Option, Some, Result}
use Rattle.quota_types.specs.declared.file_kind.Format.{Format}
use Rattle.opened_file.specs.FileChange.{FileChange}
use Rattle.opened_file.specs.ValueEdits.{IsLeft, ValueEdit, edit_by}
use Rattle.opened_file.specs.EditsOne.{EditsOne}
use Rattle.outside.specs.Frame.{OnlyReads}
use Rattle.outside.specs.ManyCalls.{IsSynced}
use Rattle.opened_file.specs.QuotaFile.{CountsRefusal, IfFull, IsChangeFault, UnlessStoreFailed, is_store_fault}
use Rattle.opened_file.specs.FileSeen.{FileSeen}
use Rattle.quota_value.specs.QuotaValue.{QuotaValue}
use Rattle.outside.specs.Seen.{StoreSeen}
use Rattle.outside.specs.World.{World}
use Rattle.opened_file.specs.declared.quota_file.FileFault.{FileFault}

-- What the type of an opened file and that of its store say of all their calls: whether the store tells its files, for
-- which value a file of a format stands, what a change of an opened file makes of the files, what one that failed may
-- leave, for which values a change lacks room in a file, the faults that may come, how many calls of `read` and of
-- `write` a change makes at most, and how many of `write` one that succeeds makes at most on a file that holds a value.
pub record FileLaws : Type 1 where
  pub tells : Bool
  pub stands_for : Format → List ℕ → QuotaValue → Type 0
  pub makes : FileSeen → FileChange → List ℕ → World → World → Type 0
  pub may_leave : Format → FileChange → (old after left : Option (List ℕ)) → Type 0
  pub lacks_room : FileSeen → Option (List ℕ) → FileChange → QuotaValue → ℕ → ℕ → Type 0
  pub may_refuse : Format → FileFault → Type 0
  pub change_reads : FileSeen → FileChange → ℕ
  pub change_writes : FileSeen → FileChange → ℕ
  pub done_writes : FileSeen → QuotaValue → FileChange → ℕ

-- these laws
abbrev pub laws_of : Bool → (Format → List ℕ → QuotaValue → Type 0)
    → (FileSeen → FileChange → List ℕ → World → World → Type 0)
    → (Format → FileChange → Option (List ℕ) → Option (List ℕ) → Option (List ℕ) → Type 0)
    → (FileSeen → Option (List ℕ) → FileChange → QuotaValue → ℕ → ℕ → Type 0) → (Format → FileFault → Type 0)
    → (change_reads change_writes : FileSeen → FileChange → ℕ)
    → (done_writes : FileSeen → QuotaValue → FileChange → ℕ) → FileLaws
laws_of tells stands_for makes may_leave lacks_room may_refuse change_reads change_writes done_writes = record {
  tells = tells;
  stands_for = stands_for;
  makes = makes;
  may_leave = may_leave;
  lacks_room = lacks_room;
  may_refuse = may_refuse;
  change_reads = change_reads;
  change_writes = change_writes;
  done_writes = done_writes;
}

-- An opened file with its store at a moment: the values that it holds, and what is seen of both.
pub record FileAt : Type 1 where
  pub holds : QuotaValue → Type 0
  pub seen : FileSeen
  pub store : StoreSeen

-- the opened file with its store that hold these values and are seen so
abbrev pub file_at : (QuotaValue → Type 0) → FileSeen → StoreSeen → FileAt
file_at holds seen store = record { holds = holds; seen = seen; store = store }

-- the named file, where there is one
abbrev pub file_in : FileAt → Option (List ℕ)
file_in at = at.store.files at.seen.name

-- the file, as it is, lacks room for a change of it to a value: it would need the first number of blocks, and may have
-- only the second
abbrev pub LacksRoom : FileLaws → FileAt → FileChange → QuotaValue → ℕ → ℕ → Type 0
LacksRoom laws at = laws.lacks_room at.seen (file_in at)

-- the file lacks room for what the edit makes of each value that it holds
abbrev pub LacksRoomFor : ValueEdit → FileLaws → FileAt → ℕ → ℕ → Type 0
LacksRoomFor edit laws old blocks limit =
    IsTrue edit.needs_room × ((value : QuotaValue) → old.holds value
    → IsOkAnd (edit.edited value) (λ edited. LacksRoom laws old (edit.change value) edited blocks limit))

-- a file of the format of an opened one stands for what the edit makes of a value
abbrev pub StandsForEdited : ValueEdit → FileLaws → FileAt → QuotaValue → List ℕ → Type 0
StandsForEdited edit laws old value = λ bytes. IsOkAnd (edit.edited value) (laws.stands_for old.seen.format bytes)

-- An edit was done: the file holds what the edit makes of its value; unless nothing was to be done its bytes are what
-- the change makes of them, and there was room; what was written has been synced, by no more calls of `write` than one
-- that succeeds makes on a file of that value, and the opened file is seen as before.
pub record IsDone (edit : ValueEdit) (laws : FileLaws) (old new : FileAt) : Type 0 where
  pub set : (value : QuotaValue) → old.holds value → IsOkAnd (edit.edited value) new.holds
  pub makes : (value : QuotaValue) → old.holds value → edit.is_idle value ≡ false
      → laws.makes old.seen (edit.change value) old.seen.name old.store.files new.store.files
  pub room : IsTrue edit.needs_room → (value : QuotaValue) (blocks limit : ℕ) → old.holds value
      → edit.is_idle value ≡ false
      → IfOk (edit.edited value) (λ edited. ¬ (LacksRoom laws old (edit.change value) edited blocks limit))
  pub synced : IsTrue laws.tells → IsSynced old.seen.name old.store new.store
  pub writes : (value : QuotaValue) → old.holds value
      → new.store.writes ≤ old.store.writes + laws.done_writes old.seen value (edit.change value)
  pub same : new.seen ≡ old.seen

-- An edit was refused by a fault of the file. The fault has its cause, and may come in a file of this format; a file
-- that is full would have more blocks than it may have, which are those of the opened file; and where nothing was to be
-- done only a fault of the store comes. The refusal counts once. Only a fault of the store ends the use of the file:
-- while it may be used it holds what it held and nothing was written. Where it may not, the edit had room in the
-- format, and the named file is as it was, or lies between the old one and one that the change would have made and that
-- stands for the edited value. Over a store that tells, whatever the opened file holds, the named file is as it was, or
-- one that a change that failed may leave of it.
pub record IsRefused (edit : ValueEdit) (laws : FileLaws) (old new : FileAt) (fault : FileFault) : Type 0 where
  pub cause : IsChangeFault old.store.faults new.store.faults old.holds (LacksRoomFor edit laws old) fault
  pub may : laws.may_refuse old.seen.format fault
  pub passes : IfFull fault (λ blocks limit. (limit ≡ old.seen.limit) × (limit < blocks))
  pub busy : UnlessStoreFailed fault ((value : QuotaValue) → old.holds value → edit.is_idle value ≡ false)
  pub counted : CountsRefusal new.seen.usable old.seen new.seen
  pub usable : is_store_fault fault ≡ false → IsTrue new.seen.usable
  pub stays : IsTrue new.seen.usable → (value : QuotaValue) → old.holds value → new.holds value
  pub unwritten : IsTrue new.seen.usable → OnlyReads false old.seen.name old.store new.store
  pub fits : new.seen.usable ≡ false → (value : QuotaValue) → old.holds value → IsOk (edit.edited value)
  pub left : new.seen.usable ≡ false → (value : QuotaValue) → old.holds value
      → (new.store.files old.seen.name ≡ old.store.files old.seen.name)
      ⊎ IsLeft (laws.makes old.seen (edit.change value) old.seen.name) (StandsForEdited edit laws old value)
      (laws.may_leave old.seen.format (edit.change value)) old.seen.name old.store.files new.store.files
  pub between : IsTrue laws.tells → (new.store.files old.seen.name ≡ old.store.files old.seen.name)
      ⊎ ((change : FileChange) × (after : Option (List ℕ))
      × laws.may_leave old.seen.format change (old.store.files old.seen.name) after (new.store.files old.seen.name))

-- An edit of the value of an opened file, whose result may have a fault of the file: where it is Ok it was done, and
-- where it has one it was refused so. However it ended, and whatever the store tells, no file but the named one has
-- changed, and that one not either unless calls of `write` were counted, which are no more than some change of this
-- file may make; and nothing was written where nothing was to be done or the file lacks room.
pub record EditsValue {T E : Type 0} (fault_of : E → Option FileFault) (edit : ValueEdit) (laws : FileLaws)
    (old new : FileAt) (result : Result T E) : Type 0 where
  pub done : OnOk result (IsDone edit laws old new)
  pub refused : IfErr result (λ fault. IfSome (fault_of fault) (IsRefused edit laws old new))
  pub idle : (value : QuotaValue) → old.holds value → IsTrue (edit.is_idle value)
      → OnlyReads (is_ok result) old.seen.name old.store new.store
  pub full : IsTrue edit.needs_room → (value : QuotaValue) (blocks limit : ℕ) → old.holds value
      → IfOk (edit.edited value)
      (λ edited. LacksRoom laws old (edit.change value) edited blocks limit
      → OnlyReads (is_ok result) old.seen.name old.store new.store)
  pub leaves : EditsOne old.seen.name old.store new.store
  pub writes : (change : FileChange) × (new.store.writes ≤ old.store.writes + laws.change_writes old.seen change)

-- A change of an opened file: the edit of its value by that change. After a fault of the store the file is not used
-- again. Over a store that tells, whatever the opened file holds, a refusal leaves the named file as it was, or as this
-- change may leave it. It makes no more calls of `read` and of `write` than this change of such a file may.
pub record Changes (change : FileChange) (laws : FileLaws) (old new : FileAt)
    (result : Result (Unit {0}) FileFault) : Type 0 where
  pub edits : EditsValue Some (edit_by change) laws old new result
  pub ends : IfErr result (λ fault. is_store_fault fault ≡ true → new.seen.usable ≡ false)
  pub torn : OnErr result (IsTrue laws.tells → (new.store.files old.seen.name ≡ old.store.files old.seen.name)
      ⊎ ((after : Option (List ℕ))
      × laws.may_leave old.seen.format change (old.store.files old.seen.name) after (new.store.files old.seen.name)))
  pub reads : new.store.reads ≤ old.store.reads + laws.change_reads old.seen change
  pub writes : new.store.writes ≤ old.store.writes + laws.change_writes old.seen change
