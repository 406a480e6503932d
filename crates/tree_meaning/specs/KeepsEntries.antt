-- What the steps of a change have in common that move blocks from list to list: the tree and the entries stay.
use Rattle.std.specs.Prelude.{◌≡◌, ℕ, ◌<◌, ◌≤◌, List}
use Rattle.quota_types.specs.declared.file_kind.Format.{Format}
use Rattle.quota_types.specs.Times.{StandsIn}
use Rattle.file_blocks.specs.Block.{block_of, word_at}
use Rattle.quota_radix.specs.Tree.{blocks_of, tree_blocks}
use Rattle.tree_meaning.specs.Entries.{stated_count}
use Rattle.tree_meaning.specs.EntryPlaces.{HasSameEntries}
use Rattle.tree_meaning.specs.Loose.{Loose}
use Rattle.tree_meaning.specs.Roles.{counted_leaves}

-- a leaf that counts names a block
abbrev pub IsNamed : Loose → List ℕ → ℕ → ℕ → Type 0
IsNamed loose file blocks block = StandsIn (blocks_of (counted_leaves loose file blocks)) block

-- The blocks of the tree keep their references, the data blocks their entries and the number of these that they state,
-- and there may be more blocks.
pub record KeepsEntries (loose : Loose) (format : Format) (blocks more : ℕ) (old new : List ℕ) : Type 0 where
  pub at_least : blocks ≤ more
  pub words : (block : ℕ) → StandsIn (tree_blocks old blocks) block → (digit : ℕ) → digit < 256
      → word_at new block digit ≡ word_at old block digit
  pub entries : (block : ℕ) → IsNamed loose old blocks block
      → HasSameEntries format (block_of old block) (block_of new block)
  pub stated : (block : ℕ) → IsNamed loose old blocks block → stated_count new block ≡ stated_count old block
