-- What the bytes of a tree file are between two steps of a change, and how that is tied to the value that a whole file
-- stands for. Source: the kernel's `fs/quota/quota_tree.c`, which changes one block after another.
use Rattle.std.specs.Prelude.{◌≡◌, ℕ, ◌*◌, ◌^◌, ◌<◌, ◌≤◌, IsTrue, IfSome, List}
use Rattle.std.specs.FinMap.{get}
use Rattle.quota_types.specs.declared.file_kind.Format.{Format}
use Rattle.quota_types.specs.Times.{times}
use Rattle.file_blocks.specs.Block.{leads}
use Rattle.quota_value.specs.QuotaValue.{QuotaValue, Records}
use Rattle.entry_codec.specs.declared.header.Header.{Header}
use Rattle.quota_radix.specs.declared.tree_path.TreePath.{TreePath}
use Rattle.quota_radix.specs.Tree.{leaves, numbers_of}
use Rattle.free_chains.specs.declared.heads.Heads.{Heads}
use Rattle.tree_meaning.specs.Loose.{Loose}
use Rattle.tree_meaning.specs.Roles.{Chained, Filled, OneRole, counted_leaves}
use Rattle.tree_meaning.specs.TreeFile.{record_by_leaves}

-- An awaited leaf has an identifier of four bytes that no leaf of the tree has, and names a block other than that of
-- the header.
pub record IsAwaited (file : List ℕ) (blocks : ℕ) (leaf : TreePath) : Type 0 where
  pub small : leaf.number < 2 ^ 32
  pub absent : times (numbers_of (leaves file blocks)) leaf.number ≡ 0
  pub inside : IsTrue (leads blocks leaf.block)

-- The bytes of a file of this length are a tree with these heads and records, but for what is loose: it has header and
-- root; where it has more blocks it is as long as they; its roles, its entry list and its entries are in order; and the
-- records are those of the identifiers that have a leaf, or whose leaf is awaited.
pub record IsTree (loose : Loose) (format : Format) (file : List ℕ) (len : ℕ) (heads : Heads)
    (records : Records) : Type 0 where
  pub two : 2 ≤ heads.blocks
  pub long : 2 < heads.blocks → 1024 * heads.blocks ≤ len
  pub awaited : IfSome loose.awaited (IsAwaited file heads.blocks)
  pub roles : OneRole loose file heads.blocks heads.free
  pub chained : Chained loose format file heads.blocks heads.first
  pub filled : Filled loose format file heads.blocks
  pub each_record : (id : ℕ) → get records id ≡ record_by_leaves format file (counted_leaves loose file heads.blocks) id

-- the header of a file of a value with these heads
abbrev pub header_with : QuotaValue → Heads → Header
header_with value heads = record {
  kind = value.kind;
  format = value.format;
  grace = value.grace;
  flags = value.flags;
  blocks = heads.blocks;
  free = heads.free;
  first = heads.first;
}
