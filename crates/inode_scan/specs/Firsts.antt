-- How the first lines of inodes are kept. It is the code's own, and no contract of a public call speaks of it.
use Rattle.std.specs.Prelude.{ℕ, ◌^◌, ◌&&◌, ◌==◌, Bool, if◌then◌else◌, Option, Some, None}
use Rattle.std.specs.HashMap.{get}
use Rattle.std.specs.Option.{option_map, option_or}
use Rattle.inode_scan.specs.declared.firsts.Firsts.{Firsts}
use Rattle.inode_scan.specs.declared.inode.FirstLine.{FirstLine}
use Rattle.inode_scan.specs.declared.inode.Inode.{Inode}
use Rattle.inode_scan.specs.declared.narrow.NarrowInode.{NarrowInode}
use Rattle.inode_scan.specs.declared.narrow.NarrowLine.{NarrowLine}
use Rattle.inode_scan.specs.Line.{below}

-- two inodes are one
abbrev pub inode_eq : Inode → Inode → Bool
inode_eq one other = one.device == other.device && one.number == other.number

-- two inodes with numbers of 32 bits are one
abbrev pub narrow_eq : NarrowInode → NarrowInode → Bool
narrow_eq one other = one.device == other.device && one.number == other.number

-- two numbers of an inode, where both are there
abbrev pub narrow_from : (device number : Option ℕ) → Option NarrowInode
narrow_from (Some device) (Some number) = Some (record { device = device; number = number })
narrow_from device number = None

-- an inode, where each of its numbers has 32 bits
abbrev pub narrow_inode : Inode → Option NarrowInode
narrow_inode inode = narrow_from (below (2 ^ 32) inode.device) (below (2 ^ 32) inode.number)

-- what is kept of a first line, where its blocks and its number are there
abbrev pub narrow_with : FirstLine → (blocks number : Option ℕ) → Option NarrowLine
narrow_with line (Some blocks) (Some number) =
    Some (record { owner = line.owner; group = line.group; blocks = blocks; number = number })
narrow_with line blocks number = None

-- what is kept of a first line, where each of its numbers has 32 bits
abbrev pub narrow_line : FirstLine → Option NarrowLine
narrow_line line = narrow_with line (below (2 ^ 32) line.blocks) (below (2 ^ 32) line.number)

-- a first line with numbers of 32 bits, as one with room for all numbers
abbrev pub widened : NarrowLine → FirstLine
widened line = record { owner = line.owner; group = line.group; blocks = line.blocks; number = line.number }

-- the first line with narrow numbers that is kept of an inode
abbrev pub narrow_kept : Firsts → Option NarrowInode → Option FirstLine
narrow_kept firsts None = None
narrow_kept firsts (Some inode) = option_map widened (get narrow_eq firsts.narrow inode)

-- the first line that is kept of an inode
abbrev pub kept_in : Firsts → Inode → Option FirstLine
kept_in firsts inode = option_or (get inode_eq firsts.wide inode) (narrow_kept firsts (narrow_inode inode))

-- the first line that is kept of an inode, where this line is the first one of another inode unless that has one
abbrev pub kept_or : Firsts → Inode → FirstLine → Inode → Option FirstLine
kept_or firsts inode line other = option_or (kept_in firsts other) (if inode_eq inode other then Some line else None)
