-- Ranges of bytes at places of a file, and a file over which they are laid.
use Rattle.std.specs.Prelude.{ℕ, List, [], ◌∷◌, map}
use Rattle.outside.specs.World.{overwritten}
use Rattle.edit_journal.specs.declared.kept.KeptRange.{KeptRange}

-- bytes, and the place of a file at which the first of them stands
pub record ByteRange : Type 0 where
  pub at : ℕ
  pub bytes : List ℕ

-- a file once bytes were laid over it at a place; no bytes change nothing
abbrev pub with_laid : List ℕ → ℕ → List ℕ → List ℕ
with_laid file at [] = file
with_laid file at (byte ∷ rest) = overwritten file at (byte ∷ rest)

-- a file once ranges were laid over it, one after the other
abbrev pub laid : List ByteRange → List ℕ → List ℕ
laid [] file = file
laid (span ∷ rest) file = laid rest (with_laid file span.at span.bytes)

-- a kept range
abbrev pub range_of : KeptRange → ByteRange
range_of range = record { at = range.at; bytes = range.bytes.items }

-- kept ranges
abbrev pub ranges_of : List KeptRange → List ByteRange
ranges_of ranges = map range_of ranges
