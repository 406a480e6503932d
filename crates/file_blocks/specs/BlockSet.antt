-- A set of blocks, kept as a flag for each block.
use Rattle.std.specs.Prelude.{◌≡◌, ℕ, ◌<◌, ◌≤◌, Bool, false, nat_le, List, length}
use Rattle.std.specs.List.{slice_index_or}
use Rattle.quota_types.specs.Times.{StandsIn, times}

-- Of this many blocks, the flags tell which stand in a list; the list has each number once at most, and only numbers of
-- blocks.
pub record AreFlagsOf (blocks : ℕ) (flags : List Bool) (numbers : List ℕ) : Type 0 where
  pub len : length flags ≡ blocks
  pub each : (number : ℕ) → number < blocks → slice_index_or flags number false ≡ nat_le 1 (times numbers number)
  pub distinct : (number : ℕ) → times numbers number ≤ 1
  pub inside : (number : ℕ) → StandsIn numbers number → number < blocks
