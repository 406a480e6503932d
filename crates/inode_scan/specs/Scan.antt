-- What a listing adds up to: lines of at most 256 bytes, and 1,099,511,627,776 bytes in all. Source: the bounds are
-- this project's own.
use Rattle.std.specs.Prelude.{ℕ, ◌+◌, List, [], ◌∷◌, ◌++◌, Option, Some, None, Result, slice_get}
use Rattle.std.specs.Option.{option_to_list}
use Rattle.quota_types.specs.declared.file_kind.Kind.{Kind}
use Rattle.input_text.specs.InputLines.{InputLines, NoLine, LineThen, LongNext, PastNext, input_lines}
use Rattle.inode_scan.specs.declared.scan_fault.ScanFault.{ScanFault}
use Rattle.inode_scan.specs.declared.scan_fault.ScanFault.TheVariants.{TooLarge, LongLine}
use Rattle.inode_scan.specs.Faults.{unless}
use Rattle.inode_scan.specs.Listing.{counted_lines, faults_of, usage_of}
use Rattle.inode_scan.specs.Usage.{UsageMap}

-- the lines of an input that can be read, in order
abbrev pub read_lines : InputLines → List (List ℕ)
read_lines NoLine = []
read_lines (LineThen line more) = line ∷ read_lines more
read_lines LongNext = []
read_lines PastNext = []

-- why no more lines can be read behind those, the first of which has this number, unless the input is at its end
abbrev pub end_fault : (number : ℕ) → InputLines → Option ScanFault
end_fault number NoLine = None
end_fault number (LineThen line more) = end_fault (number + 1) more
end_fault number LongNext = Some (LongLine number)
end_fault number PastNext = Some TooLarge

-- the first thing that is wrong with a listing: with a line that can be read, or behind those
abbrev pub first_fault : Option ℕ → InputLines → Option ScanFault
first_fault device lines = slice_get (faults_of device (read_lines lines) ++ option_to_list (end_fault 1 lines)) 0

-- the usage that the lines of a listing add up to, or the first thing that is wrong with it
abbrev pub scanned_lines : Kind → Option ℕ → InputLines → Result UsageMap ScanFault
scanned_lines kind device lines =
    unless (first_fault device lines) (usage_of kind (counted_lines device (read_lines lines)))

-- the usage that the listing in these bytes adds up to, or the first thing that is wrong with it
unfoldable pub scanned : Kind → (device : Option ℕ) → List ℕ → Result UsageMap ScanFault
scanned kind device bytes = scanned_lines kind device (input_lines 256 1099511627776 bytes)
