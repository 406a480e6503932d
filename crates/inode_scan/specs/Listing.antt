-- What the lines of a listing add up to, and what is wrong with them, over all of its lines. Source: quotacheck(8),
-- which counts each inode once, however many names it has; 512 bytes are the unit of `%b` of find(1).
use Rattle.std.specs.Prelude.{ℕ, ◌*◌, Bool, true, false, ◌&&◌, ◌==◌, if◌then◌else◌, List, map, filter, find, length}
use Rattle.std.specs.Prelude.{sum_by, Option, Some, None}
use Rattle.std.specs.FinMap.{from_entries}
use Rattle.std.specs.List.{enumerate_from, filter_map}
use Rattle.std.specs.Option.{option_and_then, option_map}
use Rattle.quota_types.specs.declared.file_kind.Kind.{Kind}
use Rattle.quota_types.specs.declared.file_kind.Kind.TheVariants.{User, Group, Project}
use Rattle.inode_scan.specs.declared.scan_fault.ScanFault.{ScanFault}
use Rattle.inode_scan.specs.declared.scan_fault.ScanFault.TheVariants.{BadLine, Conflict}
use Rattle.inode_scan.specs.declared.row.Row.{Row}
use Rattle.inode_scan.specs.declared.used.Used.{Used}
use Rattle.inode_scan.specs.Line.{is_bad, row_in}
use Rattle.inode_scan.specs.Usage.{UsageMap}

-- a line that counts: its number in the listing, from 1 on, and what it says
pub record Counted : Type 0 where
  pub number : ℕ
  pub row : Row

-- the row is of the device that is asked for, where one is
abbrev pub is_asked : Option ℕ → Row → Bool
is_asked None row = true
is_asked (Some device) row = row.device == device

-- what a line says, where it counts
abbrev pub counted_row : Option ℕ → List ℕ → Option Row
counted_row device line = option_and_then (λ row. if is_asked device row then Some row else None) (row_in line)

-- a line with its number, where it counts
abbrev pub counted_line : Option ℕ → ℕ × List ℕ → Option Counted
counted_line device line = option_map (λ row. record { number = line.0; row = row }) (counted_row device line.1)

-- the lines of a listing that count
unfoldable pub counted_lines : Option ℕ → List (List ℕ) → List Counted
counted_lines device lines = filter_map (counted_line device) (enumerate_from 1 lines)

-- two rows are of one inode: an inode's number is its own on its device alone
abbrev pub is_same_inode : Row → Row → Bool
is_same_inode one other = one.device == other.device && one.inode == other.inode

-- the first of the lines that is of the row's inode
unfoldable pub first_of : List Counted → Row → Option Counted
first_of lines row = find (λ line. is_same_inode row line.row) lines

-- there is a line, and it has this number
abbrev pub has_number : ℕ → Option Counted → Bool
has_number number None = false
has_number number (Some line) = line.number == number

-- a line is the first of its inode
abbrev pub is_first : List Counted → Counted → Bool
is_first lines line = has_number line.number (first_of lines line.row)

-- the first line of each inode
unfoldable pub first_lines : List Counted → List Counted
first_lines lines = filter (is_first lines) lines

-- whose usage a row adds to: its owner's, or that of its second word, which is the group or the project
abbrev pub owner_of : Kind → Row → ℕ
owner_of User row = row.owner
owner_of Group row = row.group
owner_of Project row = row.group

-- those of the lines that an identifier owns
abbrev pub owned : Kind → List Counted → ℕ → List Counted
owned kind lines id = filter (λ line. owner_of kind line.row == id) lines

-- what lines use: the sum of their blocks, in bytes, and their number
abbrev pub used_in : List Counted → Used
used_in lines = record { space = 512 * sum_by (λ line. line.row.blocks) lines; inodes = length lines }

-- the usage of each identifier that owns the first line of an inode
unfoldable pub usage_of : Kind → List Counted → UsageMap
usage_of kind lines =
    let firsts : List Counted = first_lines lines in
    from_entries (map (λ first. let id : ℕ = owner_of kind first.row in (id, used_in (owned kind firsts id))) firsts)

-- two rows tell the same owner, group or project, and number of blocks
abbrev pub is_agreed : Row → Row → Bool
is_agreed one other = one.owner == other.owner && one.group == other.group && one.blocks == other.blocks

-- a line tells another owner, group or project, or number of blocks than the first line of its inode
abbrev pub conflict_of : List Counted → Counted → Option ScanFault
conflict_of lines line =
    option_and_then (λ first. if is_agreed first.row line.row then None else Some (Conflict line.number first.number))
    (first_of lines line.row)

-- what is wrong with a line, given with its number, of a listing in which these lines count
abbrev pub fault_of : Option ℕ → List Counted → ℕ × List ℕ → Option ScanFault
fault_of device lines line =
    if is_bad line.1 then Some (BadLine line.0) else option_and_then (conflict_of lines) (counted_line device line)

-- what is wrong with the lines of a listing, in their order
unfoldable pub faults_of : Option ℕ → List (List ℕ) → List ScanFault
faults_of device lines = filter_map (fault_of device (counted_lines device lines)) (enumerate_from 1 lines)
