-- What becomes of a tree of which blocks were freed.
use Rattle.std.specs.Prelude.{◌≡◌, ℕ, ◌<◌, ◌^◌, List}
use Rattle.quota_types.specs.declared.file_kind.Format.{Format}
use Rattle.quota_value.specs.QuotaValue.{Records}
use Rattle.file_blocks.specs.Block.{block_of}
use Rattle.quota_radix.specs.Tree.{data_blocks}
use Rattle.quota_radix.specs.OnWay.{blocks_on_way}
use Rattle.free_chains.specs.declared.heads.Heads.{Heads}
use Rattle.tree_meaning.specs.Loose.{Loose}
use Rattle.tree_change.specs.Shows.{IsWholeTree}
use Rattle.tree_change.specs.Freed.{FreesBlocks}

-- Blocks were freed so. The way of each identifier, the blocks to which leaves lead and the header's block are as
-- before.
pub record FreesBeside (freed : List ℕ) (old new : List ℕ) (heads now : Heads) : Type 0 where
  pub frees : FreesBlocks freed old new heads now
  pub ways : (id : ℕ) → id < 2 ^ 32 → blocks_on_way new now.blocks id ≡ blocks_on_way old heads.blocks id
  pub named : data_blocks new now.blocks ≡ data_blocks old heads.blocks
  pub header : block_of new 0 ≡ block_of old 0

-- Bytes are a whole tree with these records now, but for what is loose, and blocks were freed beside it.
abbrev pub BecomesTree : Loose → (freed : List ℕ) → Format → (old new : List ℕ) → (heads now : Heads) → Records → Type 0
BecomesTree loose freed format old new heads now records =
    IsWholeTree loose format new now records × FreesBeside freed old new heads now
