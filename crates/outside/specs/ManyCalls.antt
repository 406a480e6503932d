-- What several calls on a store leave as it was, and what has been synced then.
use Rattle.std.specs.Prelude.{◌≡◌, ◌≤◌, ◌⊎◌, ℕ, Bool, false, List, None, Some}
use Rattle.outside.specs.Replacement.{ReplacesOnly, replacement_name}
use Rattle.outside.specs.Seen.{StoreSeen}
use Rattle.outside.specs.Unsynced.{AddsNone, UnsyncedNames, with_name}
use Rattle.outside.specs.Frame.{IsUnfailed, AreSynced}
use Rattle.outside.specs.World.{World, with_file}

-- A change of a file that may be written anew leaves all files but the named one and the one with `.new` added to its
-- name, and all other names as unsynced as they were.
pub record ReplacesOne (name : List ℕ) (old new : StoreSeen) : Type 0 where
  pub files : ReplacesOnly name old.files new.files
  pub unsynced : ReplacesOnly name old.unsynced new.unsynced
  pub later : old.faults ≤ new.faults

-- Where this was done what was written has been synced, and where it was not too, unless a call on the store failed.
pub record Syncs (done : Bool) (old new : StoreSeen) : Type 0 where
  pub later : old.faults ≤ new.faults
  pub synced : IsUnfailed done old new → AreSynced old new

-- A change that was done has been synced: all that it changed is, and the named file is, unless nothing was written.
pub record IsSynced (name : List ℕ) (old new : StoreSeen) : Type 0 where
  pub none : AddsNone old.unsynced new.unsynced
  pub changed : (other : List ℕ) → (new.unsynced other ≡ false) ⊎ (new.files other ≡ old.files other)
  pub named : (new.unsynced name ≡ false) ⊎ ((new.writes ≡ old.writes) × (new.files ≡ old.files))

-- the names that are unsynced once a file was replaced: neither the one of the file nor the one that the new file was
-- written under
abbrev pub replaced_names : UnsyncedNames → List ℕ → UnsyncedNames
replaced_names names name = with_name (with_name names (replacement_name name) false) name false

-- the files once the one of this name was replaced by these bytes, with none left under the name of the new file
abbrev pub replaced_files : World → List ℕ → List ℕ → World
replaced_files files name bytes = with_file (with_file files (replacement_name name) None) name (Some bytes)
