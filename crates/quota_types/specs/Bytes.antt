-- Bytes and numbers of a file. A file is a list of bytes, which are numbers below 256; bytes past its end count as 0.
use Rattle.std.specs.Prelude.{ℕ, zero, suc, ◌+◌, ◌*◌, List, slice_index}

-- the byte at a place, or 0 past the end
abbrev pub byte_at : List ℕ → ℕ → ℕ
byte_at file at = slice_index file at

-- the number that this many bytes from a place on spell, the lowest first
unfoldable pub number_at : ℕ → List ℕ → ℕ → ℕ
number_at zero file at = 0
number_at (suc width) file at = byte_at file at + 256 * number_at width file (suc at)
