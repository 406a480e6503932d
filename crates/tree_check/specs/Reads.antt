-- What blocks a check of a tree file reads.
use Rattle.std.specs.Prelude.{ℕ, nat_le, List, length}
use Rattle.std.specs.List.{count_by}

-- the number of the data blocks: of those to which identifiers lead, by the identifiers of each
abbrev pub led_blocks : List (List ℕ) → ℕ
led_blocks groups = count_by (λ ids. nat_le 1 (length ids)) groups
