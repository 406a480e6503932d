-- What a recovery makes of a file, call by call.
use Rattle.std.specs.Prelude.{◌≡◌, ◌<◌, ◌≤◌, ◌⊎◌, ℕ, Bool, true, false, min, List, [], length, Option, None, Some}
use Rattle.std.specs.Prelude.{IsSome, slice_index, unwrap_or}
use Rattle.outside.specs.World.{KeepsOtherTwo, KeepsOthers, World}
use Rattle.disk.specs.DiskSeen.{DiskSeen, IsDurable}
use Rattle.disk.specs.DiskCalls.{ChangesFile, IsOutside, TearsRange, Torn}
use Rattle.quota_types.specs.Bytes.{byte_at, number_at}
use Rattle.edit_journal.specs.Settled.{MakesUndo}
use Rattle.edit_journal.specs.ByteRanges.{ByteRange}
use Rattle.edit_journal.specs.UndoSaves.{IsOutsideAll, HoldsItsRanges}
use Rattle.edit_journal.specs.Undo.{is_usable, recovered, saved_ranges, ranges_fit}

-- no file changes
abbrev pub IsSame : World → World → Type 0
IsSame old new = new ≡ old

-- whether a recovery changes a file
abbrev pub is_mended : Option (List ℕ) → Option (List ℕ) → Bool
is_mended None undo = false
is_mended (Some file) None = false
is_mended (Some file) (Some undo) = is_usable file undo

-- A file is mended within ranges, and cut to a length: it is there if it was, it has at least the lesser of both
-- lengths, and below the length it is the same outside of the ranges.
pub record Mends (len : ℕ) (ranges : List ByteRange) (old new : Option (List ℕ)) : Type 0 where
  pub there : IsSome old → IsSome new
  pub no_shorter : min len (length (unwrap_or old [])) ≤ length (unwrap_or new [])
  pub same : (place : ℕ) → place < len → place < length (unwrap_or old []) → IsOutsideAll ranges place
      → slice_index (unwrap_or new []) place ≡ slice_index (unwrap_or old []) place

-- one name's file is mended by what an undo file saves
abbrev pub MendsFile : List ℕ → List ℕ → World → World → Type 0
MendsFile name undo = ChangesFile (Mends (number_at 8 undo 8) (saved_ranges undo 0 (number_at 4 undo 16))) name

-- A recovery of the new files makes of one what a recovery of the old files makes of it, and all other files stay.
abbrev pub Restores : (name undo : List ℕ) → World → World → Type 0
Restores name undo old new =
    (recovered (new name) (new undo) ≡ recovered (old name) (old undo)) × KeepsOthers name old new

-- A file is recovered in place: a recovery of the new files makes of it what a recovery of the old files makes of it,
-- its undo file is no shorter, and the same behind its first byte, within its old end; and all other files stay, so
-- there is no new undo file, nor a file under the first name of one.
abbrev pub RecoversInPlace : (name undo : List ℕ) → World → World → Type 0
RecoversInPlace name undo old new =
    (recovered (new name) (new undo) ≡ recovered (old name) (old undo)) × Torn (IsOutside 0 1) (old undo) (new undo)
    × KeepsOtherTwo name undo old new

-- The gate of an undo file is being closed: a new undo file takes its name, or does not, or the first byte of the undo
-- file is torn, which is done where it holds its ranges alone.
abbrev pub ClosesGate : (und undo : List ℕ) → World → World → Type 0
ClosesGate und undo old new =
    MakesUndo und undo old new ⊎ (HoldsItsRanges (unwrap_or (old undo) []) × TearsRange undo 0 1 old new)

-- an undo file begins with this gate, this length of the old file and this number of saved ranges
pub record BeginsSo (gate old_length count : ℕ) (undo : List ℕ) : Type 0 where
  pub gate_byte : gate ≡ byte_at undo 0
  pub long : old_length ≡ number_at 8 undo 8
  pub many : count ≡ number_at 4 undo 16

-- a file is kept, as its undo file is, which begins so
pub record IsRead (name undo : List ℕ) (gate old_length count : ℕ) (disk : DiskSeen) : Type 0 where
  pub file : IsDurable name disk
  pub saved : IsDurable undo disk
  pub begins : BeginsSo gate old_length count (unwrap_or (disk.files undo) [])

-- an undo file says that the old file had this length, and saves this many ranges, each of which fits
pub record StatesSaved (old_length count : ℕ) (undo : List ℕ) : Type 0 where
  pub long : number_at 8 undo 8 ≡ old_length
  pub many : number_at 4 undo 16 ≡ count
  pub fit : ranges_fit old_length (saved_ranges undo 0 count) ≡ true
