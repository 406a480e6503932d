-- A record that is overwritten in a tree.
use Rattle.std.specs.Prelude.{◌≡◌, ℕ, List, None, Some}
use Rattle.std.specs.FinMap.{insert}
use Rattle.quota_types.specs.Times.{times}
use Rattle.quota_types.specs.declared.file_kind.Format.{Format}
use Rattle.quota_types.specs.declared.record.Rec.{Rec}
use Rattle.file_blocks.specs.Block.{block_of}
use Rattle.quota_value.specs.QuotaValue.{Records}
use Rattle.quota_radix.specs.Descent.{leaf_block}
use Rattle.free_chains.specs.declared.heads.Heads.{Heads}
use Rattle.tree_meaning.specs.Loose.{loose_of}
use Rattle.tree_meaning.specs.Roles.{data_with}
use Rattle.tree_change.specs.Putting.{TakesCounted}
use Rattle.tree_change.specs.Shows.{IsWholeTree}

-- The record of an identifier was overwritten: all others are as before, and so are the free blocks, the data blocks
-- and the header's block.
pub record OverwritesRecord (id : ℕ) (rec : Rec) (held : List ℕ) (format : Format) (old new : List ℕ) (heads : Heads)
    (records : Records) : Type 0 where
  pub tree : IsWholeTree (loose_of held None None) format new heads (insert records id rec)
  pub counted : TakesCounted 0 old new heads heads
  pub same_data : (block : ℕ)
      → times (data_with (loose_of held None None) new heads.blocks) block
      ≡ times (data_with (loose_of held None None) old heads.blocks) block
  pub header : block_of new 0 ≡ block_of old 0

-- The record of an identifier was overwritten so in each tree of which no leaf is awaited, and in which its leaf leads
-- to a block.
abbrev pub OverwritesEachTree : (block id : ℕ) → Rec → Format → (old new : List ℕ) → Type 0
OverwritesEachTree block id rec format old new =
    (held : List ℕ) (heads : Heads) (records : Records) → leaf_block old heads.blocks id ≡ Some block
    → IsWholeTree (loose_of held None None) format old heads records
    → OverwritesRecord id rec held format old new heads records
