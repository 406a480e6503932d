-- What a step of a change makes of a file of which it writes, overwrites or clears one entry of a data block. Source:
-- the kernel's `fs/quota/quota_tree.c` (`find_free_dqentry`, `qtree_write_dquot`, `free_dqentry`) and
-- `struct qt_disk_dqdbheader` of `fs/quota/quota_tree.h` (links in bytes 0 to 7, the number of used entries in bytes 8
-- and 9).
use Rattle.std.specs.Prelude.{◌≡◌, ℕ, List, [], ◌∷◌, length}
use Rattle.quota_types.specs.KeptBytes.{KeepsOutside}
use Rattle.quota_types.specs.declared.file_kind.Format.{Format}
use Rattle.quota_types.specs.declared.record.Entry.{Entry}
use Rattle.file_blocks.specs.Block.{block_of}
use Rattle.quota_pages.specs.KeptBlocks.{KeepsBlocksBut}
use Rattle.tree_meaning.specs.Entries.{stated_count, used_ids}
use Rattle.tree_meaning.specs.EntryPlaces.{ClearsEntry, OverwritesEntry, PutsEntry}

-- An entry was written at an unused place of a block: the block states how many it uses then, its links stay, and so do
-- all other blocks.
pub record WritesEntry (format : Format) (block place : ℕ) (entry : Entry) (old new : List ℕ) : Type 0 where
  pub puts : PutsEntry format place entry (block_of old block) (block_of new block)
  pub stated : stated_count new block ≡ length (used_ids format (block_of new block))
  pub links : KeepsOutside 8 1024 (block_of old block) (block_of new block)
  pub keeps : KeepsBlocksBut (block ∷ []) old new

-- An entry of a block was overwritten by one of its identifier: the block's head stays, and so do all other blocks.
pub record RewritesEntry (format : Format) (block place : ℕ) (entry : Entry) (old new : List ℕ) : Type 0 where
  pub overwrites : OverwritesEntry format place entry (block_of old block) (block_of new block)
  pub head : KeepsOutside 16 1024 (block_of old block) (block_of new block)
  pub keeps : KeepsBlocksBut (block ∷ []) old new

-- The entry of an identifier in a block was cleared: the block states how many it uses then, its links stay, and so do
-- all other blocks.
pub record LosesEntry (format : Format) (block place id : ℕ) (old new : List ℕ) : Type 0 where
  pub clears : ClearsEntry format place id (block_of old block) (block_of new block)
  pub stated : stated_count new block ≡ length (used_ids format (block_of new block))
  pub links : KeepsOutside 8 1024 (block_of old block) (block_of new block)
  pub keeps : KeepsBlocksBut (block ∷ []) old new
