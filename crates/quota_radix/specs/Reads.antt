-- What blocks of the tree are read.
use Rattle.std.specs.Prelude.{ℕ, ◌+◌, ◌≤◌, Bool, List, ◌++◌, length}
use Rattle.file_blocks.specs.BlockSet.{AreFlagsOf}

-- Some blocks were marked behind others, and no more were read than those: the counts of reads are those before and
-- now.
pub record AreMarkedReads (blocks : ℕ) (flags : List Bool) (numbers : List ℕ) (before now : ℕ) : Type 0 where
  pub more : List ℕ
  pub marked : AreFlagsOf blocks flags (numbers ++ more)
  pub few : now ≤ before + length more
