-- The undo file of a file that is changed in place. Numbers are stored with the lowest byte first, and bytes past the
-- end of the undo file count as 0.
--
-- Byte 0 is the gate: 1 is open, and any other value is closed, as is the gate of an undo file that is not there. At
-- byte 8 stands the length of the old file in eight bytes, and at byte 16 the number of saved ranges in four. Range k,
-- counted from 0, stands at byte 1,024 + 1,040 k: its place in eight bytes, the number of its saved bytes in two, six
-- bytes 0, and the saved bytes.
use Rattle.std.specs.Prelude.{ℕ, zero, suc, ◌+◌, ◌*◌, ◌^◌, Bool, ◌&&◌, ◌||◌, true, nat_eq, nat_le, if◌then◌else◌, List}
use Rattle.std.specs.Prelude.{[], ◌∷◌, length, take, Option, None, Some}
use Rattle.quota_types.specs.Bytes.{byte_at, number_at}
use Rattle.edit_journal.specs.ByteRanges.{ByteRange, laid}

-- this many bytes from a place on
abbrev pub bytes_at : List ℕ → ℕ → ℕ → List ℕ
bytes_at file at zero = []
bytes_at file at (suc count) = byte_at file at ∷ bytes_at file (suc at) count

-- where a saved range stands
abbrev pub range_at : ℕ → ℕ
range_at k = 1024 + 1040 * k

-- a saved range
abbrev pub saved_range : List ℕ → ℕ → ByteRange
saved_range undo k = record {
  at = number_at 8 undo (range_at k);
  bytes = bytes_at undo (range_at k + 16) (number_at 2 undo (range_at k + 8));
}

-- this many saved ranges, from one on
abbrev pub saved_ranges : List ℕ → ℕ → ℕ → List ByteRange
saved_ranges undo k zero = []
saved_ranges undo k (suc count) = saved_range undo k ∷ saved_ranges undo (suc k) count

-- whether a saved range has at most 1,024 bytes and a place of at most 2^42, and stands within the old length where it
-- has any byte
abbrev pub range_fits : ℕ → ByteRange → Bool
range_fits old_length span =
    nat_le (length span.bytes) 1024
    && nat_le span.at (2 ^ 42)
    && (nat_eq (length span.bytes) 0 || nat_le (span.at + length span.bytes) old_length)

-- whether all these ranges do
abbrev pub ranges_fit : ℕ → List ByteRange → Bool
ranges_fit old_length [] = true
ranges_fit old_length (span ∷ rest) = range_fits old_length span && ranges_fit old_length rest

-- Whether an undo file changes a file: its gate is open, the file is no shorter than the old one was, there are at most
-- 12 saved ranges, and each of them fits.
abbrev pub is_usable : List ℕ → List ℕ → Bool
is_usable file undo =
    nat_eq (byte_at undo 0) 1
    && nat_le (number_at 8 undo 8) (length file)
    && nat_le (number_at 4 undo 16) 12
    && ranges_fit (number_at 8 undo 8) (saved_ranges undo 0 (number_at 4 undo 16))

-- a file with the saved ranges of an undo file laid over it in order, and cut to the old length
abbrev pub undone : List ℕ → List ℕ → List ℕ
undone file undo = take (number_at 8 undo 8) (laid (saved_ranges undo 0 (number_at 4 undo 16)) file)

-- The file that a recovery makes of a file and its undo file: the old one where the undo file says how it was, and
-- otherwise the file as it stands.
abbrev pub recovered : Option (List ℕ) → Option (List ℕ) → Option (List ℕ)
recovered None undo = None
recovered (Some file) None = Some file
recovered (Some file) (Some undo) = Some (if is_usable file undo then undone file undo else file)
