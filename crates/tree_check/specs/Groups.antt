-- Identifiers by the block to which they lead.
use Rattle.std.specs.Prelude.{◌≡◌, ℕ, ◌<◌, ◌≤◌, ◌++◌, nat_le, All, List, map}
use Rattle.std.specs.List.{filter, range_with_len}
use Rattle.std.specs.List.Sorted.{IsNonDecreasingBy}
use Rattle.quota_radix.specs.declared.tree_path.TreePath.{TreePath}
use Rattle.quota_types.specs.Times.{times}
use Rattle.quota_radix.specs.Tree.{blocks_of, ids_at}

-- for each of this many blocks, the identifiers of those leaves that name it
abbrev pub groups_of : ℕ → List TreePath → List (List ℕ)
groups_of blocks leaves = map (ids_at leaves) (range_with_len 0 blocks)

-- these are, for each of this many blocks, the identifiers of those leaves that name it
abbrev pub AreGroupsOf : ℕ → List TreePath → List (List ℕ) → Type 0
AreGroupsOf blocks leaves groups = groups ≡ groups_of blocks leaves

-- the leaves that name one block stand side by side, and the blocks ascend
abbrev pub AreByBlock : List TreePath → Type 0
AreByBlock leaves = IsNonDecreasingBy (λ leaf. leaf.block) leaves

-- what is left of leaves that stand by their blocks, once those of all blocks below a given one are taken off
pub record AreLeftFrom (leaves : List TreePath) (block : ℕ) (rest : List TreePath) : Type 0 where
  pub front : List TreePath
  pub split : leaves ≡ front ++ rest
  pub below : All (λ (leaf : TreePath). leaf.block < block) front
  pub from : All (λ (leaf : TreePath). block ≤ leaf.block) rest
  pub by_block : AreByBlock rest

-- the blocks that leaves name, each once
abbrev pub named_blocks : ℕ → List TreePath → List ℕ
named_blocks blocks leaves = filter (λ block. nat_le 1 (times (blocks_of leaves) block)) (range_with_len 0 blocks)
