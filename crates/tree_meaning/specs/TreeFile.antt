-- What a tree file stands for. Source: vfsv0 and vfsv1, the version 2 quota files of the quota tools and the kernel
-- (`fs/quota/quota_v2.c` and `fs/quota/quota_tree.c`).
use Rattle.std.specs.Prelude.{◌≡◌, ℕ, ◌*◌, ◌<◌, ◌≤◌, ◌==◌, List, length, find, Option, Some}
use Rattle.std.specs.FinMap.{get}
use Rattle.std.specs.Option.{option_and_then, option_map}
use Rattle.quota_types.specs.declared.file_kind.Format.{Format}
use Rattle.quota_types.specs.declared.record.Entry.{Entry}
use Rattle.quota_types.specs.declared.record.Rec.{Rec}
use Rattle.quota_value.specs.QuotaValue.{QuotaValue}
use Rattle.entry_codec.specs.Header.{HeaderNumbers, format_of, header_of, magic_of}
use Rattle.quota_radix.specs.declared.tree_path.TreePath.{TreePath}
use Rattle.byte_order.specs.declared.order.Order.{Order}
use Rattle.byte_order.specs.declared.order.Order.TheVariants.{Little}
use Rattle.byte_order.specs.Words.{in_order}
use Rattle.file_blocks.specs.Block.{block_of}
use Rattle.tree_meaning.specs.Entries.{entries_in, stated_count, stated_in}
use Rattle.tree_meaning.specs.Loose.{nothing_loose}
use Rattle.tree_meaning.specs.Roles.{Chained, FilledBy, OneRole}
use Rattle.quota_radix.specs.Tree.{leaves}

-- the record of a block's used entry of an identifier, where there is one, in a file that is read in an order
abbrev pub record_read : Order → Format → List ℕ → ℕ → Option Rec
record_read order format block id =
    option_map (λ (entry : Entry). entry.rec) (find (λ (entry : Entry). entry.id == id) (entries_in order format block))

-- the record of an identifier by some leaves: that of the entry in the data block to which the identifier leads
abbrev pub record_read_by : Order → Format → List ℕ → List TreePath → ℕ → Option Rec
record_read_by order format file leaves id =
    option_and_then (λ (leaf : TreePath). record_read order format (block_of file leaf.block) id)
    (find (λ (leaf : TreePath). leaf.number == id) leaves)

-- the same of a little-endian file
abbrev pub record_in : Format → List ℕ → ℕ → Option Rec
record_in format block id = record_read Little format block id

abbrev pub record_by_leaves : Format → List ℕ → List TreePath → ℕ → Option Rec
record_by_leaves format file leaves id = record_read_by Little format file leaves id

-- the record of an identifier by the leaves of a file that is read in an order
abbrev pub tree_record_in : Order → Format → List ℕ → ℕ → ℕ → Option Rec
tree_record_in order format file blocks id =
    record_read_by order format file (leaves (in_order order file) blocks) id

-- the same of a little-endian file
abbrev pub tree_record : Format → List ℕ → ℕ → ℕ → Option Rec
tree_record format file blocks id = tree_record_in Little format file blocks id

-- The blocks and entries of a file of this many bytes are sound: it has header and root; where it has more blocks it is
-- as long as they; and its roles, its entry list and its entries are in order. The file is that of its words in the
-- order in which it is read, which don't tell how many entries a block states.
pub record IsSoundBy (stated : ℕ → ℕ) (format : Format) (file : List ℕ) (len : ℕ)
    (numbers : HeaderNumbers) : Type 0 where
  pub two : 2 ≤ numbers.blocks
  pub long : 2 < numbers.blocks → 1024 * numbers.blocks ≤ len
  pub roles : OneRole nothing_loose file numbers.blocks numbers.free
  pub chained : Chained nothing_loose format file numbers.blocks numbers.first
  pub filled : FilledBy stated nothing_loose format file numbers.blocks

-- a file that is read in an order is sound
abbrev pub IsSoundIn : Order → Format → List ℕ → HeaderNumbers → Type 0
IsSoundIn order format file numbers =
    IsSoundBy (stated_in order file) format (in_order order file) (length file) numbers

-- a little-endian file is, of which this many bytes count
abbrev pub IsSound : Format → List ℕ → (len : ℕ) → HeaderNumbers → Type 0
IsSound format file len numbers = IsSoundBy (stated_count file) format file len numbers

-- A tree file that is read in an order stands for a value: its header has the kind, the format, the grace periods and
-- the flags, it is sound, and its records are those of the identifiers that have a leaf.
pub record TreeStandsForIn (order : Order) (file : List ℕ) (value : QuotaValue) : Type 0 where
  pub magic : (header_of (in_order order file)).magic ≡ magic_of value.kind
  pub version : format_of (header_of (in_order order file)).version ≡ Some value.format
  pub block_grace : value.grace.block ≡ (header_of (in_order order file)).block_grace
  pub inode_grace : value.grace.inode ≡ (header_of (in_order order file)).inode_grace
  pub flags : value.flags ≡ (header_of (in_order order file)).flags
  pub sound : IsSoundIn order value.format file (header_of (in_order order file))
  pub records : (id : ℕ) → get value.records id
      ≡ tree_record_in order value.format file (header_of (in_order order file)).blocks id

-- the same of a little-endian file
abbrev pub TreeStandsFor : List ℕ → QuotaValue → Type 0
TreeStandsFor file value = TreeStandsForIn Little file value
