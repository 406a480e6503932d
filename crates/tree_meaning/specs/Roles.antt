-- What makes a tree file a sound one: each block has one role, the entry list has the data blocks with room, and the
-- entries are those of the leaves. Source: the kernel's `fs/quota/quota_tree.c`, which keeps files so.
use Rattle.std.specs.Prelude.{◌≡◌, ℕ, ◌<◌, Bool, ◌&&◌, nat_le, nat_lt, if◌then◌else◌, List, ◌∷◌, ◌++◌, length, map}
use Rattle.std.specs.Prelude.{take}
use Rattle.std.specs.List.{filter, range_with_len}
use Rattle.quota_types.specs.declared.file_kind.Format.{Format}
use Rattle.file_blocks.specs.Block.{block_of, previous_of, word_at}
use Rattle.free_chains.specs.Chain.{IsChain}
use Rattle.quota_types.specs.Times.{StandsIn, times}
use Rattle.quota_radix.specs.declared.tree_path.TreePath.{TreePath}
use Rattle.tree_meaning.specs.Entries.{has_unused, stated_count, used_ids}
use Rattle.tree_meaning.specs.Loose.{Loose, but_misplaced, leaves_with}
use Rattle.quota_radix.specs.Tree.{blocks_of, ids_at, leaves, lower_blocks, tree_blocks}
use Rattle.quota_radix.specs.TreeDefect.{IsEmpty}

-- These definitions take what is loose of the file, while it is being changed. Of a file as a whole nothing is. The
-- file is that of its words in the order in which it is read, which don't tell how many entries a block states.

-- the leaves that count: those of the tree, and the awaited one
abbrev pub counted_leaves : Loose → List ℕ → ℕ → List TreePath
counted_leaves loose file blocks = leaves_with loose.awaited (leaves file blocks)

-- a block is data: a leaf that counts names it
abbrev pub counts_as_data : Loose → List ℕ → ℕ → ℕ → Bool
counts_as_data loose file blocks block = nat_le 1 (times (blocks_of (counted_leaves loose file blocks)) block)

-- the data blocks: those that leaves that count name, each once
abbrev pub data_with : Loose → List ℕ → ℕ → List ℕ
data_with loose file blocks = filter (counts_as_data loose file blocks) (range_with_len 0 blocks)

-- the blocks role by role: those that are held and have none, the header, the tree, the data blocks, the free blocks
abbrev pub roles : Loose → List ℕ → ℕ → List ℕ → List ℕ
roles loose file blocks free = loose.held ++ 0 ∷ tree_blocks file blocks ++ data_with loose file blocks ++ free

-- No reference of the tree passes the last block, the free list ends, and each block has one role or is held.
pub record OneRole (loose : Loose) (file : List ℕ) (blocks free_head : ℕ) : Type 0 where
  pub references : (block : ℕ) → StandsIn (tree_blocks file blocks) block → (digit : ℕ) → digit < 256
      → word_at file block digit < blocks
  pub free : List ℕ
  pub is_free : IsChain file blocks free_head free 0
  pub once : (block : ℕ) → times (roles loose file blocks free) block ≡ (if nat_lt block blocks then 1 else 0)

-- a block is a data block with an unused entry
abbrev pub has_room : Loose → Format → List ℕ → ℕ → ℕ → Bool
has_room loose format file blocks block =
    counts_as_data loose file blocks block && has_unused format (block_of file block)

-- The entry list ends, it has the data blocks that have room and no other, but for the misplaced block, and each of its
-- blocks names the block before it, the first one 0.
pub record Chained (loose : Loose) (format : Format) (file : List ℕ) (blocks first : ℕ) : Type 0 where
  pub chain : List ℕ
  pub is_chain : IsChain file blocks first chain 0
  pub has_those : (block : ℕ)
      → times chain block
      ≡ (if but_misplaced loose.misplaced block (has_room loose format file blocks block) then 1 else 0)
  pub previous : map (previous_of file) chain ≡ take (length chain) (0 ∷ chain)

-- No tree block below the root is empty; each data block has one used entry of each identifier that leads to it, and
-- its used entries are as many as it states, and as many as the leaves that name it.
pub record FilledBy (states : ℕ → ℕ) (loose : Loose) (format : Format) (file : List ℕ) (blocks : ℕ) : Type 0 where
  pub not_empty : (block : ℕ) → StandsIn (lower_blocks file blocks) block → ¬ IsEmpty file block
  pub one_entry : (block id : ℕ) → StandsIn (ids_at (counted_leaves loose file blocks) block) id
      → times (used_ids format (block_of file block)) id ≡ 1
  pub stated : (block : ℕ) → StandsIn (data_with loose file blocks) block
      → length (used_ids format (block_of file block)) ≡ states block
  pub counted : (block : ℕ) → StandsIn (data_with loose file blocks) block
      → length (used_ids format (block_of file block)) ≡ length (ids_at (counted_leaves loose file blocks) block)

-- the same of a little-endian file
abbrev pub Filled : Loose → Format → List ℕ → ℕ → Type 0
Filled loose format file blocks = FilledBy (stated_count file) loose format file blocks
