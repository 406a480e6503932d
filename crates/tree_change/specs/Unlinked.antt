-- A leaf that was unlinked for a change, and the tree blocks that were emptied by it.
use Rattle.std.specs.Prelude.{◌≡◌, ℕ, List, ◌++◌, length, reverse, slice_index, Option, None, Some, IsSome}
use Rattle.std.specs.FinMap.{get}
use Rattle.quota_types.specs.Times.{StandsIn, times}
use Rattle.quota_types.specs.declared.file_kind.Format.{Format}
use Rattle.file_blocks.specs.Block.{block_of}
use Rattle.quota_value.specs.QuotaValue.{Records}
use Rattle.quota_radix.specs.Descent.{leaf_block}
use Rattle.quota_radix.specs.OnWay.{blocks_on_way}
use Rattle.quota_radix.specs.declared.tree_path.TreePath.{TreePath}
use Rattle.free_chains.specs.declared.heads.Heads.{Heads}
use Rattle.tree_meaning.specs.Entries.{stated_count, used_ids}
use Rattle.tree_meaning.specs.Loose.{Loose, loose_of}
use Rattle.tree_meaning.specs.Roles.{data_with}
use Rattle.tree_meaning.specs.TreeFile.{record_in}
use Rattle.tree_change.specs.Freed.{FreesBlocks, lost_blocks}
use Rattle.tree_change.specs.FreedTree.{FreesBeside}
use Rattle.tree_change.specs.Shows.{IsWholeTree}

-- Bytes are a tree of which other things are loose than of another one. It has the same records, the same data blocks,
-- and the same header.
pub record TreeStays (was now : Loose) (format : Format) (old new : List ℕ) (heads next : Heads)
    (records : Records) : Type 0 where
  pub tree : IsWholeTree now format new next records
  pub same_data : data_with now new next.blocks ≡ data_with was old heads.blocks
  pub header : block_of new 0 ≡ block_of old 0

-- Blocks were given, one after another: a tree that holds them besides, and of which no block is misplaced, holds them
-- no longer, and has the same records and data blocks. The last one is the first of the free blocks.
abbrev pub GivesHeld : (given : List ℕ) → (old new : List ℕ) → (heads now : Heads) → Type 0
GivesHeld given old new heads now =
    (held : List ℕ) (awaited : Option TreePath) (format : Format) (records : Records)
    → IsWholeTree (loose_of (given ++ held) awaited None) format old heads records
    → TreeStays (loose_of (given ++ held) awaited None) (loose_of held awaited None) format old new heads now records
    × FreesBeside (reverse given) old new heads now

-- The leaf of an identifier was unlinked: a tree that has this whole way of it, and of which no leaf is awaited and no
-- block misplaced, awaits the leaf, holds no other blocks, and has the same records and data blocks. The tree blocks
-- that the way has lost are free.
abbrev pub UnlinksLeaf : (way : List ℕ) → (id : ℕ) → (old new : List ℕ) → (heads now : Heads) → Type 0
UnlinksLeaf way id old new heads now =
    (held : List ℕ) (format : Format) (records : Records) → way ≡ blocks_on_way old heads.blocks id
    → IsWholeTree (loose_of held None None) format old heads records
    → TreeStays (loose_of held None None)
    (loose_of held (Some (record { number = id; block = slice_index way 4 })) None) format old new heads now records
    × FreesBlocks (lost_blocks old new now.blocks id) old new heads now

-- The block of a leaf that is awaited is a data block, with as many used entries as it states. One of them is of the
-- leaf's identifier, which has its record, and no path of the tree leads to it.
pub record HasAwaited (loose : Loose) (format : Format) (file : List ℕ) (heads : Heads) (records : Records)
    (leaf : TreePath) : Type 0 where
  pub named : StandsIn (data_with loose file heads.blocks) leaf.block
  pub stated : length (used_ids format (block_of file leaf.block)) ≡ stated_count file leaf.block
  pub entry : times (used_ids format (block_of file leaf.block)) leaf.number ≡ 1
  pub kept : IsSome (get records leaf.number)
  pub rec : get records leaf.number ≡ record_in format (block_of file leaf.block) leaf.number
  pub gone : leaf_block file heads.blocks leaf.number ≡ None
