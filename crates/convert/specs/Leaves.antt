-- What a conversion leaves of a store.
use Rattle.std.specs.Prelude.{◌≡◌, ◌≢◌, ◌≤◌, ◌⊎◌, ℕ, false, List}
use Rattle.outside.specs.Replacement.{ReplacesOnly, replacement_name}
use Rattle.outside.specs.Seen.{StoreSeen}
use Rattle.outside.specs.Unsynced.{AddsNone}
use Rattle.outside.specs.World.{KeepsOtherTwo}

-- Two names were only looked at: all files are as before, no call of `write` was made, and all other names are as
-- unsynced as they were.
pub record OnlyLooks (from to : List ℕ) (old new : StoreSeen) : Type 0 where
  pub files : new.files ≡ old.files
  pub writes : new.writes ≡ old.writes
  pub unsynced : KeepsOtherTwo from to old.unsynced new.unsynced
  pub later : old.faults ≤ new.faults

-- All files are as before but the new one and the one that it is written under first, and all names but those two and
-- that of the file that was read are as unsynced as they were.
pub record LeavesOthers (from to : List ℕ) (old new : StoreSeen) : Type 0 where
  pub files : ReplacesOnly to old.files new.files
  pub unsynced : (other : List ℕ) → other ≢ from → other ≢ to → other ≢ replacement_name to
      → new.unsynced other ≡ old.unsynced other
  pub later : old.faults ≤ new.faults

-- what was made has been kept safe: the new file is synced, no other name is unsynced that was not, and that of each
-- file that has changed is not
pub record IsKeptSafe (to : List ℕ) (old new : StoreSeen) : Type 0 where
  pub none : AddsNone old.unsynced new.unsynced
  pub changed : (name : List ℕ) → (new.unsynced name ≡ false) ⊎ (new.files name ≡ old.files name)
  pub named : new.unsynced to ≡ false
