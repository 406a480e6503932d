-- Identifiers one after another, each greater than the one before it, and whether one begins otherwise than that.
use Rattle.std.specs.Prelude.{◌≡◌, ℕ, ◌+◌, ◌/◌, ◌≤◌, ◌==◌, if◌then◌else◌, List, [], Option, Some, None}
use Rattle.std.specs.List.{AllByRecursion}
use Rattle.quota_types.specs.Times.{StandsIn}

-- how many more beginnings there are once an identifier comes after the last one: none where both begin alike, and
-- otherwise one
abbrev pub new_beginnings : (divisor : ℕ) → Option ℕ → ℕ → ℕ
new_beginnings divisor None id = 1
new_beginnings divisor (Some last) id = if last / divisor == id / divisor then 0 else 1

-- how many identifiers there are up to the last one
abbrev pub room_up_to : Option ℕ → ℕ
room_up_to None = 0
room_up_to (Some last) = last + 1

-- the last of the numbers so far, which is the greatest
abbrev pub IsLastOf : Option ℕ → List ℕ → Type 0
IsLastOf None numbers = numbers ≡ []
IsLastOf (Some last) numbers = StandsIn numbers last × AllByRecursion (λ number. number ≤ last) numbers
