-- What a call on a store leaves as it was.
use Rattle.std.specs.Prelude.{◌≡◌, ◌≤◌, ◌⊎◌, ℕ, Bool, false, IsTrue, List}
use Rattle.outside.specs.Count.{Rose}
use Rattle.outside.specs.Seen.{StoreSeen}
use Rattle.outside.specs.Unsynced.{AddsNone}
use Rattle.outside.specs.World.{KeepsOthers, KeepsOtherTwo}

-- Calls on a store were done, or they were not, and none of them failed: what stopped them was something else.
abbrev pub IsUnfailed : Bool → (old new : StoreSeen) → Type 0
IsUnfailed done old new = IsTrue done ⊎ (¬ (Rose old.faults new.faults))

-- A call that only reads or syncs one name leaves all files and makes no call of `write`; of the other names all are as
-- unsynced as they were, and where it was done, or no call on the store failed, no name is unsynced that was not.
pub record OnlyReads (done : Bool) (name : List ℕ) (old new : StoreSeen) : Type 0 where
  pub files : new.files ≡ old.files
  pub unsynced : KeepsOthers name old.unsynced new.unsynced
  pub later : old.faults ≤ new.faults
  pub writes : new.writes ≡ old.writes
  pub synced : IsUnfailed done old new → AddsNone old.unsynced new.unsynced

-- A change of one name leaves all other files, and all other names as unsynced as they were. It reads nothing.
pub record ChangesOne (name : List ℕ) (old new : StoreSeen) : Type 0 where
  pub files : KeepsOthers name old.files new.files
  pub unsynced : KeepsOthers name old.unsynced new.unsynced
  pub later : old.faults ≤ new.faults
  pub reads : new.reads ≡ old.reads

-- A change of two names leaves all other files, and all other names as unsynced as they were. It reads nothing.
pub record ChangesTwo (one two : List ℕ) (old new : StoreSeen) : Type 0 where
  pub files : KeepsOtherTwo one two old.files new.files
  pub unsynced : KeepsOtherTwo one two old.unsynced new.unsynced
  pub later : old.faults ≤ new.faults
  pub reads : new.reads ≡ old.reads

-- What was done has been synced: no name is unsynced that was not, and that of each file that has changed is not.
pub record AreSynced (old new : StoreSeen) : Type 0 where
  pub none : AddsNone old.unsynced new.unsynced
  pub changed : (name : List ℕ) → (new.unsynced name ≡ false) ⊎ (new.files name ≡ old.files name)
