-- Counts of calls and of faults, each a counter of 64 bits that stands still at its last value.
use Rattle.std.specs.Prelude.{ℕ, ◌+◌, ◌-◌, ◌^◌, ◌≤◌, min}

-- a count after one more
abbrev pub counted : ℕ → ℕ
counted count = min (count + 1) (2 ^ 64 - 1)

-- a count is greater now than before, or stands at the last value of its counter
abbrev pub Rose : ℕ → ℕ → Type 0
Rose before now = counted before ≤ now
