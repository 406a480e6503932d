-- Units of a datagram, which is a list of bytes. Source: RFC 4506, section 3: data stands in units of four bytes.
use Rattle.std.specs.Prelude.{ℕ, zero, suc, ◌+◌, ◌*◌, ◌/◌, Bool, ◌&&◌, nat_le, List, [], ◌∷◌, slice_range}
use Rattle.std.specs.Int.{w32, from_be_bytes}

-- the number of the unit at a place, the highest byte first (RFC 4506, section 4.2)
unfoldable pub unit_at : List ℕ → ℕ → ℕ
unit_at bytes at = from_be_bytes w32 (slice_range bytes at (at + 4))

-- the numbers of this many units from a place on (RFC 4506, section 4.13)
unfoldable pub units_from : List ℕ → ℕ → ℕ → List ℕ
units_from bytes at zero = []
units_from bytes at (suc count) = unit_at bytes at ∷ units_from bytes (at + 4) count

-- a number of bytes with their padding to whole units
abbrev pub padded : ℕ → ℕ
padded len = (len + 3) / 4 * 4

-- the place behind variable-length data: behind its length, its bytes and their padding (RFC 4506, section 4.10)
unfoldable pub opaque_end : List ℕ → ℕ → ℕ
opaque_end bytes at = at + 4 + padded (unit_at bytes at)

-- Variable-length data or a string of at most this many bytes stands at a place, all of it before the end (RFC 4506,
-- sections 4.10 and 4.11).
unfoldable pub is_opaque : List ℕ → ℕ → ℕ → ℕ → Bool
is_opaque bytes at most end = nat_le (at + 4) end && nat_le (unit_at bytes at) most && nat_le (opaque_end bytes at) end
