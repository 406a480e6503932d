-- What is kept of the lines of a listing that were read. It is the code's own, and no contract of a public call speaks
-- of it.
use Rattle.std.specs.Prelude.{◌≡◌, ℕ, ◌+◌, ◌*◌, ◌^◌, ◌<◌, ◌≤◌, ◌&&◌, ◌==◌, Bool, IfSome, List, [], ◌∷◌, ◌++◌, Some}
use Rattle.std.specs.Prelude.{None, length, ⊤}
use Rattle.std.specs.FinMap as map
use Rattle.std.specs.List.{AllByRecursion}
use Rattle.std.specs.Option.{option_map}
use Rattle.inode_scan.specs.declared.scan_fault.ScanFault.{ScanFault}
use Rattle.inode_scan.specs.declared.scan_fault.ScanFault.TheVariants.{Source, TooLarge, BadLine, LongLine, Conflict}
use Rattle.inode_scan.specs.declared.scan_fault.ScanFault.TheVariants.{Memory}
use Rattle.inode_scan.specs.declared.inode.Inode.{Inode}
use Rattle.inode_scan.specs.declared.inode.FirstLine.{FirstLine}
use Rattle.inode_scan.specs.declared.row.Row.{Row}
use Rattle.inode_scan.specs.declared.tally.Tally.{Tally}
use Rattle.inode_scan.specs.Firsts.{kept_in}
use Rattle.inode_scan.specs.Listing.{Counted, conflict_of, counted_lines, fault_of, faults_of, first_of, usage_of}
use Rattle.inode_scan.specs.Usage.{UsageMap}

-- a row of an inode, and of nothing else
abbrev pub row_at : Inode → Row
row_at inode = record { owner = 0; group = 0; device = inode.device; inode = inode.number; blocks = 0 }

-- what is kept of the first line of an inode
abbrev pub first_kept : Counted → FirstLine
first_kept line =
    record { owner = line.row.owner; group = line.row.group; blocks = line.row.blocks; number = line.number }

-- no usage is more than this many inodes, or more than their greatest number of blocks
abbrev pub IsBounded : ℕ → UsageMap → Type 0
IsBounded count usage =
    (id : ℕ) → IfSome (map.get usage id) (λ used. (used.inodes ≤ count) × (used.space ≤ 2 ^ 73 * used.inodes))

-- what is kept of a first line agrees with a row
abbrev pub agrees : FirstLine → Row → Bool
agrees first row = first.owner == row.owner && first.group == row.group && first.blocks == row.blocks

-- a row that counts, as the line of this number
abbrev pub counted_at : ℕ → Row → Counted
counted_at number row = record { number = number; row = row }

-- what is kept is that of these lines
pub record KeepsLines (tally : Tally) (lines : List Counted) : Type 0 where
  pub firsts : (inode : Inode) → kept_in tally.firsts inode ≡ option_map first_kept (first_of lines (row_at inode))
  pub sums : tally.sums ≡ usage_of tally.kind lines

-- lines that stand before one of this number
abbrev pub AreBefore : ℕ → List Counted → Type 0
AreBefore number lines = AllByRecursion (λ line. line.number < number) lines

-- a row is taken behind the lines before it, and conflicts with none
abbrev pub TakesRow : (old new : Tally) → Row → ℕ → Type 0
TakesRow old new row number = (lines : List Counted) → AreBefore number lines → KeepsLines old lines
    → KeepsLines new (lines ++ counted_at number row ∷ [])
    × (conflict_of (lines ++ counted_at number row ∷ []) (counted_at number row) ≡ None)

-- this is what is wrong with a row that stands behind other lines
abbrev pub ConflictsAs : Tally → Row → ℕ → ScanFault → Type 0
ConflictsAs tally row number fault = (lines : List Counted) → KeepsLines tally lines
    → conflict_of (lines ++ counted_at number row ∷ []) (counted_at number row) ≡ Some fault

-- a row is refused for a conflict, or for lack of memory
abbrev pub IsRefusedRow : Tally → Row → ℕ → ScanFault → Type 0
IsRefusedRow tally row number Source = ⊥
IsRefusedRow tally row number TooLarge = ⊥
IsRefusedRow tally row number (BadLine _) = ⊥
IsRefusedRow tally row number (LongLine _) = ⊥
IsRefusedRow tally row number (Conflict line first) = ConflictsAs tally row number (Conflict line first)
IsRefusedRow tally row number Memory = ⊤

-- what is kept is that of the lines that count among these, with none of which anything is wrong
pub record IsOf (tally : Tally) (lines : List (List ℕ)) : Type 0 where
  pub kept : KeepsLines tally (counted_lines tally.device lines)
  pub clean : faults_of tally.device lines ≡ []

-- this is what is wrong with a line that stands behind other lines, with which nothing is
abbrev pub IsWrongAs : Tally → List ℕ → ℕ → ScanFault → Type 0
IsWrongAs tally line number fault = (lines : List (List ℕ)) → length lines + 1 ≡ number → IsOf tally lines
    → fault_of tally.device (counted_lines tally.device (lines ++ line ∷ [])) (number, line) ≡ Some fault

-- a line is refused since it is bad or conflicts, or for lack of memory
abbrev pub IsRefusedLine : Tally → List ℕ → ℕ → ScanFault → Type 0
IsRefusedLine tally line number Source = ⊥
IsRefusedLine tally line number TooLarge = ⊥
IsRefusedLine tally line number (BadLine named) = IsWrongAs tally line number (BadLine named)
IsRefusedLine tally line number (LongLine _) = ⊥
IsRefusedLine tally line number (Conflict named first) = IsWrongAs tally line number (Conflict named first)
IsRefusedLine tally line number Memory = ⊤
