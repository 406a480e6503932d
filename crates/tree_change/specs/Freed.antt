-- Blocks that a change frees: they are put before the list of free blocks.
use Rattle.std.specs.Prelude.{◌≡◌, ℕ, ◌≤◌, ◌==◌, List, ◌++◌, length, take, drop}
use Rattle.std.specs.List.{filter}
use Rattle.quota_types.specs.Bytes.{byte_at}
use Rattle.quota_types.specs.Times.{StandsIn, times}
use Rattle.file_blocks.specs.Block.{block_of}
use Rattle.quota_radix.specs.Tree.{data_blocks}
use Rattle.quota_radix.specs.OnWay.{blocks_on_way}
use Rattle.free_chains.specs.Chain.{chain_from}
use Rattle.free_chains.specs.declared.heads.Heads.{Heads}
use Rattle.tree_change.specs.Behind.{KeepsBehind}

-- the free blocks of a file with these heads, in the order of their list
abbrev pub free_blocks : List ℕ → Heads → List ℕ
free_blocks file heads = chain_from file heads.blocks heads.free heads.blocks

-- a block has its link and nothing else: all bytes behind that are 0
abbrev pub HasLinkAlone : List ℕ → (block : ℕ) → Type 0
HasLinkAlone file block = (at : ℕ) → 4 ≤ at → byte_at (block_of file block) at ≡ 0

-- These blocks stand now before those that were free, and have their links and nothing else. The blocks that were free
-- are as before, and so is what lies behind the last block.
pub record FreesBlocks (freed : List ℕ) (old new : List ℕ) (heads now : Heads) : Type 0 where
  pub list : free_blocks new now ≡ freed ++ free_blocks old heads
  pub blank : (block : ℕ) → StandsIn freed block → HasLinkAlone new block
  pub kept : (block : ℕ) → StandsIn (free_blocks old heads) block → block_of new block ≡ block_of old block
  pub behind : KeepsBehind heads.blocks now.blocks old new

-- those of some blocks to which no leaf of a file leads, among this many blocks
abbrev pub unnamed_of : List ℕ → (blocks : ℕ) → List ℕ → List ℕ
unnamed_of file blocks numbers = filter (λ number. times (data_blocks file blocks) number == 0) numbers

-- the tree blocks that the way of an identifier has lost, from the top down
abbrev pub lost_blocks : (old new : List ℕ) → (blocks id : ℕ) → List ℕ
lost_blocks old new blocks id = drop (length (blocks_on_way new blocks id)) (take 4 (blocks_on_way old blocks id))

-- The blocks that the removal of an identifier's record frees, in the order of the list: the data block to which its
-- leaf led, where no leaf leads to that now, and then the tree blocks that its way has lost, from the top down.
abbrev pub freed_blocks : (old new : List ℕ) → (blocks id : ℕ) → List ℕ
freed_blocks old new blocks id =
    unnamed_of new blocks (drop 4 (blocks_on_way old blocks id)) ++ lost_blocks old new blocks id
