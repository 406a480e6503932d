-- A way that is led to an awaited leaf.
use Rattle.std.specs.Prelude.{◌≡◌, ℕ, List, Some, None}
use Rattle.quota_types.specs.Times.{times}
use Rattle.quota_types.specs.declared.file_kind.Format.{Format}
use Rattle.file_blocks.specs.Block.{block_of}
use Rattle.quota_value.specs.QuotaValue.{Records}
use Rattle.quota_radix.specs.OnWay.{blocks_on_way}
use Rattle.quota_radix.specs.declared.tree_path.TreePath.{TreePath}
use Rattle.free_chains.specs.declared.heads.Heads.{Heads}
use Rattle.tree_meaning.specs.Loose.{loose_of}
use Rattle.tree_meaning.specs.Roles.{data_with}
use Rattle.tree_change.specs.Putting.{TakesCounted}
use Rattle.tree_change.specs.Shows.{IsWholeTree}

-- The way to a leaf was made, for which this many blocks were taken: the leaf is awaited no longer. The records, the
-- data blocks and the header's block are as before.
pub record LeadsLeaf (count : ℕ) (leaf : TreePath) (held : List ℕ) (format : Format) (old new : List ℕ)
    (heads now : Heads) (records : Records) : Type 0 where
  pub tree : IsWholeTree (loose_of held None None) format new now records
  pub counted : TakesCounted count old new heads now
  pub same_data : (block : ℕ)
      → times (data_with (loose_of held None None) new now.blocks) block
      ≡ times (data_with (loose_of held (Some leaf) None) old heads.blocks) block
  pub header : block_of new 0 ≡ block_of old 0

-- The way to a leaf was made so in each tree in which it is awaited, and in which these blocks are all that are on the
-- way.
abbrev pub LeadsEachTree : (found : List ℕ) → (count : ℕ) → (leaf : TreePath) → (old new : List ℕ)
    → (heads now : Heads) → Type 0
LeadsEachTree found count leaf old new heads now =
    (held : List ℕ) (format : Format) (records : Records) → found ≡ blocks_on_way old heads.blocks leaf.number
    → IsWholeTree (loose_of held (Some leaf) None) format old heads records
    → LeadsLeaf count leaf held format old new heads now records
