-- What a change of one file leaves as it was.
use Rattle.std.specs.Prelude.{◌≡◌, ◌⊎◌, ◌≤◌, ℕ, List}
use Rattle.outside.specs.Count.{Rose}
use Rattle.outside.specs.Seen.{StoreSeen}
use Rattle.outside.specs.World.{KeepsOthers}

-- no file has changed and no call of `write` was made, or such calls were counted
abbrev pub StaysUnlessWritten : (old new : StoreSeen) → Type 0
StaysUnlessWritten old new = ((new.files ≡ old.files) × (new.writes ≡ old.writes)) ⊎ Rose old.writes new.writes

-- However a change of one file ended, all other files are as they were, and all other names as unsynced as they were.
-- While nothing was written the one file is as it was too.
pub record EditsOne (name : List ℕ) (old new : StoreSeen) : Type 0 where
  pub files : KeepsOthers name old.files new.files
  pub unsynced : KeepsOthers name old.unsynced new.unsynced
  pub later : old.faults ≤ new.faults
  pub written : StaysUnlessWritten old new
