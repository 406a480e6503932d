-- What a look-up in a tree file meets on its way down the tree, and what may be wrong with what it reads. Source: the
-- kernel's `fs/quota/quota_tree.c` (`find_tree_dqentry` and `find_next_id`).
use Rattle.std.specs.Prelude.{◌≡◌, ℕ, ◌+◌, ◌^◌, ◌<◌, List}
use Rattle.quota_types.specs.declared.damage.Damage.{Damage}
use Rattle.quota_types.specs.declared.damage.DamageKind.{DamageKind}
use Rattle.quota_types.specs.declared.damage.DamageKind.TheVariants.{RefOut, EmptyTree}
use Rattle.quota_radix.specs.declared.tree_path.TreePath.{TreePath}
use Rattle.quota_types.specs.Times.{StandsIn}
use Rattle.quota_radix.specs.TreeDefect.{IsEmptyTree, IsRefOut}
use Rattle.quota_radix.specs.Tree.{level}

-- a path is one through the tree of a file, this many digits short of a leaf
pub record IsOnWay (file : List ℕ) (blocks to_go : ℕ) (path : TreePath) : Type 0 where
  pub gone : ℕ
  pub four : gone + to_go ≡ 4
  pub stands : StandsIn (level file blocks gone) path.block
  pub small : path.number < 256 ^ gone

-- a path through the tree that has gone below the root
abbrev pub IsBelowRoot : List ℕ → ℕ → ℕ → TreePath → Type 0
IsBelowRoot file blocks to_go path = (to_go < 4) × IsOnWay file blocks to_go path

-- what a kind of damage on the way down says of a block: it has a reference past the last block, or, below the root,
-- none
abbrev pub IsWayFaultOf : List ℕ → ℕ → DamageKind → ℕ → Type 0
IsWayFaultOf file blocks RefOut block = IsRefOut file blocks block
IsWayFaultOf file blocks EmptyTree block = IsEmptyTree file blocks block
IsWayFaultOf file blocks _ block = ⊥

-- a damage is one of a block of the tree, and names no identifier
pub record IsWayFault (file : List ℕ) (blocks : ℕ) (damage : Damage) : Type 0 where
  pub fault : IsWayFaultOf file blocks damage.kind damage.block
  pub no_id : damage.id ≡ 0
