-- Ranges that have bytes in common.
use Rattle.std.specs.Prelude.{ℕ, ◌+◌, Bool, ◌&&◌, nat_lt, List, length}
use Rattle.std.specs.List.{list_any}
use Rattle.edit_journal.specs.ByteRanges.{ByteRange, range_of}
use Rattle.edit_journal.specs.declared.kept.KeptRange.{KeptRange}

-- whether a range has a byte in common with one of this many bytes at a place
abbrev pub overlaps : (at count : ℕ) → ByteRange → Bool
overlaps at count span = nat_lt span.at (at + count) && nat_lt at (span.at + length span.bytes)

-- whether one of these kept ranges has
abbrev pub overlaps_any : (at count : ℕ) → List KeptRange → Bool
overlaps_any at count ranges = list_any (λ (range : KeptRange). overlaps at count (range_of range)) ranges
