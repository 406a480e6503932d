-- What an undo file saves of a file.
use Rattle.std.specs.Prelude.{◌≡◌, ◌≢◌, ℕ, suc, ◌+◌, ◌^◌, ◌<◌, ◌≤◌, List, [], ◌∷◌, length, Option, unwrap_or, take}
use Rattle.std.specs.Prelude.{drop}
use Rattle.quota_types.specs.Bytes.{byte_at, number_at}
use Rattle.disk.specs.DiskCalls.{IsOutside}
use Rattle.edit_journal.specs.ByteRanges.{ByteRange}
use Rattle.edit_journal.specs.Undo.{bytes_at, range_at}

-- An undo file holds its ranges: it has room for its head, and each saved range that the head names ends within it.
-- Where the head names more than 12, a recovery reads none of them.
pub record HoldsItsRanges (undo : List ℕ) : Type 0 where
  pub room : 1024 ≤ length undo
  pub within : number_at 4 undo 16 ≤ 12 → (k : ℕ) → k < number_at 4 undo 16
      → range_at k + 16 + number_at 2 undo (range_at k + 8) ≤ length undo

-- an undo file with room for its head, and a gate that is closed
abbrev pub IsClosed : Option (List ℕ) → Type 0
IsClosed undo = (1024 ≤ length (unwrap_or undo [])) × (byte_at (unwrap_or undo []) 0 ≢ 1)

-- the bytes that a file has in a range, as far as the file goes
abbrev pub saved_bytes : List ℕ → (at len : ℕ) → List ℕ
saved_bytes file at len = take len (drop at file)

-- range k of an undo file saves what the old file has in a range
pub record SavesOne (old : List ℕ) (k at len : ℕ) (undo : List ℕ) : Type 0 where
  pub low : at ≤ 2 ^ 42
  pub few : len ≤ 1024
  pub place : number_at 8 undo (range_at k) ≡ at
  pub number : number_at 2 undo (range_at k + 8) ≡ length (saved_bytes old at len)
  pub rest : number_at 6 undo (range_at k + 10) ≡ 0
  pub bytes : bytes_at undo (range_at k + 16) (length (saved_bytes old at len)) ≡ saved_bytes old at len
  pub whole : range_at k + 16 + length (saved_bytes old at len) ≤ length undo

-- the ranges of an undo file from range k on save what the old file has in these ranges
abbrev pub SavesFrom : List ℕ → ℕ → List ByteRange → List ℕ → Type 0
SavesFrom old k [] undo = Unit {0}
SavesFrom old k (range ∷ rest) undo =
    SavesOne old k range.at (length range.bytes) undo × SavesFrom old (suc k) rest undo

-- An undo file saves what the old file has in these ranges, and its length; where the ranges go past the end of the old
-- file nothing is saved, since a recovery cuts the file.
pub record Saves (old : List ℕ) (ranges : List ByteRange) (undo : List ℕ) : Type 0 where
  pub long : 1024 ≤ length undo
  pub old_length : number_at 8 undo 8 ≡ length old
  pub count : number_at 4 undo 16 ≡ length ranges
  pub most : length ranges ≤ 12
  pub saved : SavesFrom old 0 ranges undo

-- a place that is in none of these ranges
abbrev pub IsOutsideAll : List ByteRange → ℕ → Type 0
IsOutsideAll [] place = Unit {0}
IsOutsideAll (span ∷ rest) place = IsOutside span.at (length span.bytes) place × IsOutsideAll rest place
