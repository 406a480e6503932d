-- What a change leaves of the bytes behind the last block of a file, which may be longer than its blocks.
use Rattle.std.specs.Prelude.{ℕ, ◌*◌, ◌≤◌, max, List, length}
use Rattle.quota_types.specs.KeptBytes.{KeepsOutside}

-- A file of `was` blocks became one of `now`, no fewer: all bytes behind the last block are as before, and the file is
-- no shorter than it was, and no longer than it was or than up to the end of the last block.
pub record KeepsBehind (was now : ℕ) (old new : List ℕ) : Type 0 where
  pub at_least : was ≤ now
  pub behind : KeepsOutside 0 (1024 * now) old new
  pub longer : length old ≤ length new
  pub within : length new ≤ max (length old) (1024 * now)
