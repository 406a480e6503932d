-- How often numbers stand in lists.
use Rattle.std.specs.Prelude.{ℕ, ◌≤◌, ◌==◌, List}
use Rattle.std.specs.List.{count_by}

-- how often a number stands in a list
abbrev pub times : List ℕ → ℕ → ℕ
times numbers number = count_by (λ other. other == number) numbers

-- a number stands in a list
abbrev pub StandsIn : List ℕ → ℕ → Type 0
StandsIn numbers number = 1 ≤ times numbers number

-- a number stands in a list at two places or more
abbrev pub StandsTwiceIn : List ℕ → ℕ → Type 0
StandsTwiceIn numbers number = 2 ≤ times numbers number
