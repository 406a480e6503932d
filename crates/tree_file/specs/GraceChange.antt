-- Grace periods that are set where they stand in a file.
use Rattle.std.specs.Prelude.{◌≡◌, ◌⊎◌, List, ℕ, Some}
use Rattle.file_blocks.specs.Block.{file_of}
use Rattle.quota_types.specs.declared.record.Grace.{Grace}
use Rattle.outside.specs.World.{World, with_file}
use Rattle.tree_file.specs.TreeChange.{IsGraced, TreeLeaves}

-- The named file has these grace periods, and no other file has changed. Where it was not there it is made.
pub record GracesFile (grace : Grace) (name : List ℕ) (old new : World) : Type 0 where
  pub after : List ℕ
  pub files : new ≡ with_file old name (Some after)
  pub graced : IsGraced grace (file_of old name) after

-- The named file is as it was, or lies between the old one and one with these grace periods.
abbrev pub IsGraceLeft : Grace → List ℕ → World → World → Type 0
IsGraceLeft grace name old new =
    (new name ≡ old name)
    ⊎ ((after : World) × GracesFile grace name old after × TreeLeaves (old name) (after name) (new name))
