-- The levels of the tree as they are found one after another, and what is wrong with a block of one.
use Rattle.std.specs.Prelude.{◌≡◌, ◌≢◌, ℕ, ◌<◌, ◌≤◌, IsTrue, All, List, ◌++◌}
use Rattle.quota_types.specs.declared.damage.Damage.{Damage}
use Rattle.quota_types.specs.declared.damage.DamageKind.{DamageKind}
use Rattle.quota_types.specs.declared.damage.DamageKind.TheVariants.{RefOut, EmptyTree, TwoRoles}
use Rattle.quota_radix.specs.declared.tree_path.TreePath.{TreePath}
use Rattle.file_blocks.specs.Block.{word_at, leads}
use Rattle.quota_types.specs.Times.{StandsIn, StandsTwiceIn}
use Rattle.quota_radix.specs.TreeDefect.{IsEmptyTree, IsRefOut, IsEmpty}
use Rattle.quota_radix.specs.Tree.{lower_blocks, tree_blocks}

-- each of some paths has a number below a bound, and leads to a block other than that of the header
abbrev pub AreWithin : ℕ → ℕ → List TreePath → Type 0
AreWithin blocks bound paths = All (λ (path : TreePath). (path.number < bound) × IsTrue (leads blocks path.block)) paths

-- no reference of a tree block leads past the last block, and one below the root has a reference
pub record IsWhole (file : List ℕ) (blocks block : ℕ) : Type 0 where
  pub references : (digit : ℕ) → digit < 256 → word_at file block digit < blocks
  pub not_empty : block ≢ 1 → ¬ IsEmpty file block

-- a kind of damage that reading one block of the tree finds
abbrev pub IsBlockDefect : List ℕ → ℕ → ℕ → DamageKind → Type 0
IsBlockDefect file blocks block RefOut = (digit : ℕ) × (digit < 256) × (blocks ≤ word_at file block digit)
IsBlockDefect file blocks block EmptyTree = (block ≢ 1) × IsEmpty file block
IsBlockDefect file blocks block _ = ⊥

-- a damage of one of some tree blocks: a reference past the last block, or, below the root, no reference
pub record IsLevelDefect (file : List ℕ) (blocks : ℕ) (level : List ℕ) (damage : Damage) : Type 0 where
  pub stands : StandsIn level damage.block
  pub defect : IsBlockDefect file blocks damage.block damage.kind
  pub no_id : damage.id ≡ 0

-- a damage is a second role of a block that stands in a list twice
pub record IsSecondRole (numbers : List ℕ) (damage : Damage) : Type 0 where
  pub kind : damage.kind ≡ TwoRoles
  pub twice : StandsTwiceIn numbers damage.block
  pub no_id : damage.id ≡ 0

-- each block of a file's tree is whole
pub record AreTreeBlocksWhole (file : List ℕ) (blocks : ℕ) : Type 0 where
  pub references : (block : ℕ) → StandsIn (tree_blocks file blocks) block → (digit : ℕ) → digit < 256
      → word_at file block digit < blocks
  pub not_empty : (block : ℕ) → StandsIn (lower_blocks file blocks) block → block ≢ 1 → ¬ IsEmpty file block

-- A damage of a file's tree: a block with a reference past the last block, one below the root without a reference, or
-- one that stands twice among the blocks that were met before and those of the tree.
abbrev pub IsTreeFaultOf : List ℕ → ℕ → List ℕ → DamageKind → ℕ → Type 0
IsTreeFaultOf file blocks numbers RefOut block = IsRefOut file blocks block
IsTreeFaultOf file blocks numbers EmptyTree block = IsEmptyTree file blocks block
IsTreeFaultOf file blocks numbers TwoRoles block = StandsTwiceIn (numbers ++ tree_blocks file blocks) block
IsTreeFaultOf file blocks numbers _ block = ⊥

-- a damage of a file's tree, with no identifier
abbrev pub IsTreeFault : List ℕ → ℕ → List ℕ → Damage → Type 0
IsTreeFault file blocks numbers damage = IsTreeFaultOf file blocks numbers damage.kind damage.block × (damage.id ≡ 0)
