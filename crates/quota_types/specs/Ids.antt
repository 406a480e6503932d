-- The order of identifiers.
use Rattle.std.specs.Prelude.{ℕ, ◌<◌, Option, Some, None}

-- an identifier comes after another one, or after none
abbrev pub IsAfter : Option ℕ → ℕ → Type 0
IsAfter None id = Unit {0}
IsAfter (Some after) id = after < id
