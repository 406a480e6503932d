-- The memory that a file in memory has taken, in bytes.
use Rattle.std.specs.Prelude.{◌≡◌, ◌≤◌, ◌*◌, ◌⊎◌, ℕ}

-- The room of a file once it was to reach as far as was needed: it is as before, or at least twice that, and at most
-- twice what was needed. So all that is ever copied because a file grows is no more than the room that it has at last.
abbrev pub IsCapacityAfter : (before now needed : ℕ) → Type 0
IsCapacityAfter before now needed = (now ≡ before) ⊎ ((2 * before ≤ now) × (now ≤ 2 * needed))
