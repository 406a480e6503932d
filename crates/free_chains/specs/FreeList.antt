-- What calls do with the list of free blocks. Source: `get_free_dqblk` and `put_free_dqblk` of the kernel's
-- `fs/quota/quota_tree.c`.
use Rattle.std.specs.Prelude.{◌≡◌, ◌≢◌, ◌⊎◌, ℕ, ◌+◌, ◌<◌, ◌≤◌, IsTrue, List, [], ◌∷◌, length, min, replicate, take}
use Rattle.quota_types.specs.Bytes.{byte_at}
use Rattle.quota_types.specs.Times.{times}
use Rattle.file_blocks.specs.Block.{block_of, leads, next_of}
use Rattle.quota_pages.specs.Page.{Page}
use Rattle.quota_pages.specs.Used.{missing_among}
use Rattle.free_chains.specs.Chain.{IsChain}
use Rattle.free_chains.specs.declared.heads.Heads.{Heads}

-- The list of free blocks was empty, and the block behind the last one was taken.
pub record TakesNew (old new : Heads) (block : ℕ) : Type 0 where
  pub block_is : block ≡ old.blocks
  pub blocks : new.blocks ≡ old.blocks + 1
  pub free : new.free ≡ 0

-- The first block of the list of free blocks was taken. Neither the head nor the link of that block led past the last
-- block.
pub record TakesListed (old new : Heads) (block : ℕ) : Type 0 where
  pub block_is : block ≡ old.free
  pub inside : old.free < old.blocks
  pub blocks : new.blocks ≡ old.blocks
  pub free : new.free < old.blocks

-- The heads once a block was taken, with or without a list of free blocks.
pub record TakesHead (old new : Heads) (block : ℕ) : Type 0 where
  pub first : new.first ≡ old.first
  pub none : old.free ≡ 0 → TakesNew old new block
  pub some : old.free ≢ 0 → TakesListed old new block

-- a list of free blocks was empty and is, or it lost this block, which was its first
abbrev pub LosesFirst : (new : List ℕ) (now : Heads) (block : ℕ) (chain : List ℕ) → Type 0
LosesFirst new now block chain =
    ((chain ≡ []) × IsChain new now.blocks now.free [] 0)
    ⊎ ((rest : List ℕ) × (chain ≡ block ∷ rest) × IsChain new now.blocks now.free rest 0)

-- A block was taken: its bytes are all 0, its link became the head if it was the head, and the list of free blocks,
-- where that ends, lost it.
pub record TakesBlock (old new : List ℕ) (heads now : Heads) (block : ℕ) : Type 0 where
  pub blank : block_of new block ≡ replicate 1024 0
  pub link : heads.free ≢ 0 → now.free ≡ next_of old block
  pub chain : (chain : List ℕ) → IsChain old heads.blocks heads.free chain 0 → LosesFirst new now block chain

-- The number that stops the taking of a block: the head, or, where that leads to a block, the link of that.
pub record StopsTaking (file : List ℕ) (heads : Heads) (number : ℕ) : Type 0 where
  pub head : heads.blocks ≤ heads.free → number ≡ heads.free
  pub link : heads.free < heads.blocks → number ≡ next_of file heads.free

-- A block was put before the list of free blocks: it has the old head as its link, and all its other bytes are 0.
pub record GivesBlock (old new : List ℕ) (heads : Heads) (block : ℕ) : Type 0 where
  pub link : next_of new block ≡ heads.free
  pub blank : (at : ℕ) → 4 ≤ at → byte_at (block_of new block) at ≡ 0
  pub chain : (chain : List ℕ) (end : ℕ) → IsChain old heads.blocks heads.free chain end → times chain block ≡ 0
      → IsTrue (leads heads.blocks block) → IsChain new heads.blocks block (block ∷ chain) end

-- The blocks of the list of free blocks were counted, as far as a number of them. Where that has fewer, its end is not
-- past the last block.
pub record CountsFree (file : List ℕ) (heads : Heads) (most count : ℕ) : Type 0 where
  pub is : (chain : List ℕ) (end : ℕ) → IsChain file heads.blocks heads.free chain end → count ≡ min most (length chain)
  pub inside : (chain : List ℕ) (end : ℕ) → IsChain file heads.blocks heads.free chain end → length chain < most
      → end < heads.blocks

-- Each of the first blocks of the list of free blocks, up to this many, is buffered, or there is room for it.
abbrev pub CountsWithin : (file : List ℕ) → Heads → (most : ℕ) → List Page → Type 0
CountsWithin file heads most pages =
    (chain : List ℕ) (end : ℕ) → IsChain file heads.blocks heads.free chain end
    → length pages + missing_among pages (take most chain) ≤ 12

-- The list of free blocks ends at this number, and before that it has fewer blocks than were asked for.
pub record EndsBefore (file : List ℕ) (heads : Heads) (most number : ℕ) : Type 0 where
  pub few : (chain : List ℕ) (end : ℕ) → IsChain file heads.blocks heads.free chain end → length chain < most
  pub at : (chain : List ℕ) (end : ℕ) → IsChain file heads.blocks heads.free chain end → end ≡ number
