-- What may be wrong with a block of the tree. Source: the rules of `fs/quota/quota_tree.c`, each turned round.
use Rattle.std.specs.Prelude.{◌≡◌, ℕ, ◌<◌, List, ◌≤◌}
use Rattle.file_blocks.specs.Block.{word_at}
use Rattle.quota_types.specs.Times.{StandsIn}
use Rattle.quota_radix.specs.Tree.{lower_blocks, tree_blocks}

-- every reference of a tree block is 0
abbrev pub IsEmpty : List ℕ → ℕ → Type 0
IsEmpty file block = (digit : ℕ) → digit < 256 → word_at file block digit ≡ 0

-- a tree block has a reference past the last block
pub record IsRefOut (file : List ℕ) (blocks block : ℕ) : Type 0 where
  pub tree : StandsIn (tree_blocks file blocks) block
  pub digit : ℕ
  pub is_digit : digit < 256
  pub out : blocks ≤ word_at file block digit

-- a tree block below the root has no reference
pub record IsEmptyTree (file : List ℕ) (blocks block : ℕ) : Type 0 where
  pub lower : StandsIn (lower_blocks file blocks) block
  pub empty : IsEmpty file block
