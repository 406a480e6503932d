-- The parts of a word.
use Rattle.std.specs.Prelude.{ℕ, ◌+◌, ◌==◌, List, take, drop, position, Option}
use Rattle.std.specs.Option.{option_map}

-- what stands before and behind the first of these bytes, where there is one
abbrev pub parted : (at : ℕ) → List ℕ → Option (List ℕ × List ℕ)
parted at text = option_map (λ place. (take place text, drop (place + 1) text)) (position (λ byte. byte == at) text)
