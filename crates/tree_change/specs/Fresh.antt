-- Blocks that were taken one after another for a change.
use Rattle.std.specs.Prelude.{◌≡◌, ℕ, ◌<◌, ◌^◌, ◌+◌, max, ⊤, List, ◌++◌, length, replicate, Option, None}
use Rattle.quota_types.specs.Times.{StandsIn, times}
use Rattle.quota_types.specs.declared.file_kind.Format.{Format}
use Rattle.file_blocks.specs.Block.{block_of}
use Rattle.quota_value.specs.QuotaValue.{Records}
use Rattle.quota_radix.specs.Link.{AreDistinct}
use Rattle.quota_radix.specs.OnWay.{blocks_on_way}
use Rattle.quota_radix.specs.declared.tree_path.TreePath.{TreePath}
use Rattle.free_chains.specs.declared.heads.Heads.{Heads}
use Rattle.tree_meaning.specs.Loose.{loose_of}
use Rattle.tree_meaning.specs.Roles.{data_with}
use Rattle.tree_change.specs.declared.change_fault.ChangeFault.{ChangeFault}
use Rattle.tree_change.specs.declared.change_fault.ChangeFault.TheVariants.{Store, Damage as Damaged, Full}
use Rattle.tree_change.specs.ChangeFault.{IsChangeFault}
use Rattle.tree_change.specs.Putting.{TakesCounted}
use Rattle.tree_change.specs.Room.{FileHasRoom}
use Rattle.tree_change.specs.Shows.{IsNoTree, IsWholeTree}

-- A tree has fresh blocks: they are held besides, no two are the same, and all their bytes are 0. The way of each
-- identifier, the data blocks and the header's block are as before.
pub record HasFresh (fresh held : List ℕ) (awaited : Option TreePath) (format : Format) (old new : List ℕ)
    (heads now : Heads) (records : Records) : Type 0 where
  pub tree : IsWholeTree (loose_of (fresh ++ held) awaited None) format new now records
  pub blank : (block : ℕ) → StandsIn fresh block → block_of new block ≡ replicate 1024 0
  pub distinct : AreDistinct fresh
  pub ways : (id : ℕ) → id < 2 ^ 32 → blocks_on_way new now.blocks id ≡ blocks_on_way old heads.blocks id
  pub same_data : (block : ℕ)
      → times (data_with (loose_of (fresh ++ held) awaited None) new now.blocks) block
      ≡ times (data_with (loose_of held awaited None) old heads.blocks) block
  pub header : block_of new 0 ≡ block_of old 0

-- Blocks were taken, free ones first: a tree of which no block is misplaced has them fresh.
pub record TakesFresh (fresh : List ℕ) (old new : List ℕ) (heads now : Heads) : Type 0 where
  pub each : (held : List ℕ) (awaited : Option TreePath) (format : Format) (records : Records)
      → IsWholeTree (loose_of held awaited None) format old heads records
      → HasFresh fresh held awaited format old new heads now records
  pub counted : TakesCounted (length fresh) old new heads now

-- Where it was refused since the file is full, the file would have one block more than there are, or than there may be,
-- whichever is more.
abbrev pub TellsOneMore : Heads → (limit : ℕ) → ChangeFault → Type 0
TellsOneMore heads limit Store = ⊤
TellsOneMore heads limit (Damaged damage) = ⊤
TellsOneMore heads limit (Full blocks most) = blocks ≡ 1 + max heads.blocks limit

-- A step that takes this many blocks was refused: where the file is known, a damage shows that it is no tree of any
-- format, and it is told to be full only where there is no room for that many within the limit.
abbrev pub IsTakeFault : (before now : ℕ) → (known : Type 0) → List ℕ → Heads → (limit count : ℕ) → ChangeFault → Type 0
IsTakeFault before now known file heads limit count fault =
    IsChangeFault before now (known → (format : Format) → IsNoTree format file heads)
    (λ blocks most. (most ≡ limit) × (limit < blocks) × (known → ¬ FileHasRoom file heads limit count)) fault
