-- Files that are alike but for some blocks.
use Rattle.std.specs.Prelude.{◌≡◌, ℕ, ◌*◌, ◌<◌, ◌≤◌, List, length, max}
use Rattle.quota_types.specs.Times.{StandsIn, times}
use Rattle.file_blocks.specs.Block.{block_of}

-- Of a file's blocks all but those of a list have the bytes that they had, and the file grows no further than to the
-- end of the last of those.
pub record KeepsBlocksBut (numbers : List ℕ) (old new : List ℕ) : Type 0 where
  pub others : (number : ℕ) → times numbers number ≡ 0 → block_of new number ≡ block_of old number
  pub longer : length old ≤ length new
  pub within : (blocks : ℕ) → ((number : ℕ) → StandsIn numbers number → number < blocks)
      → length new ≤ max (length old) (1024 * blocks)
