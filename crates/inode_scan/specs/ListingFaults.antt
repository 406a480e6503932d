-- Why a listing was not read.
use Rattle.std.specs.Prelude.{◌≡◌, ℕ, Bool, IsTrue, List, Result, Err, ⊤}
use Rattle.outside.specs.Count.{Rose}
use Rattle.input_text.specs.InputLines.{InputLines, LongNext, PastNext}
use Rattle.input_text.specs.LineReading.{lines_left, LinesSeen}
use Rattle.input_text.specs.declared.line_reader.LineFault.{LineFault}
use Rattle.input_text.specs.declared.line_reader.LineFault.TheVariants.{Source as SourceFailed, Long}
use Rattle.input_text.specs.declared.line_reader.LineFault.TheVariants.{TooLarge as PastTotal}
use Rattle.inode_scan.specs.declared.scan_fault.ScanFault.{ScanFault}
use Rattle.inode_scan.specs.declared.scan_fault.ScanFault.TheVariants.{Source, TooLarge, BadLine, LongLine, Conflict}
use Rattle.inode_scan.specs.declared.scan_fault.ScanFault.TheVariants.{Memory}
use Rattle.inode_scan.specs.Usage.{UsageMap}

-- The source's count of faults rose; or memory ran out, which is left open; or, of a source that tells what is left in
-- it, the listing leads to this fault.
abbrev pub IsScanFault : (before now : ℕ) → Bool → Result UsageMap ScanFault → ScanFault → Type 0
IsScanFault before now tells comes_to Source = Rose before now
IsScanFault before now tells comes_to TooLarge = IsTrue tells → comes_to ≡ Err TooLarge
IsScanFault before now tells comes_to (BadLine number) = IsTrue tells → comes_to ≡ Err (BadLine number)
IsScanFault before now tells comes_to (LongLine number) = IsTrue tells → comes_to ≡ Err (LongLine number)
IsScanFault before now tells comes_to (Conflict line first) = IsTrue tells → comes_to ≡ Err (Conflict line first)
IsScanFault before now tells comes_to Memory = ⊤

-- why a line was not given, as a fault of the listing
abbrev pub line_fault : LineFault → ScanFault
line_fault SourceFailed = Source
line_fault (Long number) = LongLine number
line_fault PastTotal = TooLarge

-- the lines that a reader has still to give, where its source has these bytes left
abbrev pub listing_left : LinesSeen → List ℕ → InputLines
listing_left seen left = lines_left 256 1099511627776 seen left

-- The source's count of faults rose; or, of a source that tells what is left in it, the next line is too long and has
-- this number, or it does not end within the bytes that may be read.
abbrev pub IsEndFault : (before now : ℕ) → Bool → (number : ℕ) → InputLines → LineFault → Type 0
IsEndFault before now tells number left SourceFailed = Rose before now
IsEndFault before now tells number left (Long named) = (named ≡ number) × (IsTrue tells → left ≡ LongNext)
IsEndFault before now tells number left PastTotal = IsTrue tells → left ≡ PastNext
