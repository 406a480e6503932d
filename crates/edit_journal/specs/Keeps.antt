-- What calls on a disk keep, however they end.
use Rattle.std.specs.Prelude.{◌≡◌, ◌≤◌, ℕ, List, [], drop, unwrap_or, OnErr, OnOk, Result}
use Rattle.outside.specs.Count.{Rose}
use Rattle.outside.specs.Unsynced.{UnsyncedNames}
use Rattle.outside.specs.World.{World}
use Rattle.disk.specs.DiskSeen.{DiskSeen, Passes}
use Rattle.edit_journal.specs.Recovery.{IsSame}

-- Calls fail only where the count of faults rose along them, and it does not fall.
pub record CountsFaults {T E : Type 0} (old new : DiskSeen) (result : Result T E) : Type 0 where
  pub cause : OnErr result (Rose old.faults new.faults)
  pub counted : old.faults ≤ new.faults

-- Calls that change which names are unsynced in one way alone: those that the way leaves out are as unsynced as they
-- were.
pub record Keeps {T E : Type 0} (Names : UnsyncedNames → UnsyncedNames → Type 0) (old new : DiskSeen)
    (result : Result T E) : Type 0 where
  pub names : Names old.unsynced new.unsynced
  pub counts : CountsFaults old new result

-- Calls that only look: at each moment all files are as they were, and all names as unsynced.
pub record OnlyLooks {T E : Type 0} (old new : DiskSeen) (result : Result T E) : Type 0 where
  pub passes : Passes IsSame old new
  pub names : new.unsynced ≡ old.unsynced
  pub counts : CountsFaults old new result

-- Calls that close the gate of an undo file in place: they pass by a step, change which names are unsynced in one way
-- alone, and where they were done the undo file is as it was behind its first byte.
pub record InPlace {T E : Type 0} (step : World → World → Type 0) (Names : UnsyncedNames → UnsyncedNames → Type 0)
    (undo : List ℕ) (old new : DiskSeen) (result : Result T E) : Type 0 where
  pub passes : Passes step old new
  pub names : Names old.unsynced new.unsynced
  pub rest : OnOk result (drop 1 (unwrap_or (new.files undo) []) ≡ drop 1 (unwrap_or (old.files undo) []))
