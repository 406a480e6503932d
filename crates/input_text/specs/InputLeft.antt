-- What is left of a file that is read from a place on.
use Rattle.std.specs.Prelude.{ℕ, ◌-◌, ◌^◌, List, Option}
use Rattle.outside.specs.World.{bytes_from}

-- The bytes of a file that are left from a place on. They end at the last place that a number of 64 bits has, which no
-- file passes that a system can hold. Source: off_t in <sys/types.h>.
abbrev pub left_from : Option (List ℕ) → ℕ → List ℕ
left_from file at = bytes_from file at (2 ^ 64 - 1 - at)
