-- A record that is entered into a tree before a path leads to it.
use Rattle.std.specs.Prelude.{◌≡◌, ℕ, ◌<◌, ◌^◌, List, Some, None}
use Rattle.std.specs.FinMap.{get, insert}
use Rattle.quota_types.specs.Times.{times}
use Rattle.quota_types.specs.declared.file_kind.Format.{Format}
use Rattle.quota_types.specs.declared.record.Rec.{Rec}
use Rattle.file_blocks.specs.Block.{block_of}
use Rattle.quota_value.specs.QuotaValue.{Records}
use Rattle.quota_radix.specs.OnWay.{blocks_on_way}
use Rattle.free_chains.specs.declared.heads.Heads.{Heads}
use Rattle.tree_meaning.specs.Loose.{loose_of}
use Rattle.tree_meaning.specs.Roles.{data_with}
use Rattle.tree_change.specs.Putting.{TakesCounted}
use Rattle.tree_change.specs.Shows.{IsWholeTree}

-- The record of an identifier was entered in a block: its leaf is awaited, and all else is as it was. This many blocks
-- were taken for it, and where none was the data blocks are those that were. The way of each identifier and the
-- header's block are as before.
pub record EntersRecord (block id : ℕ) (rec : Rec) (taken : ℕ) (held : List ℕ) (format : Format) (old new : List ℕ)
    (heads now : Heads) (records : Records) : Type 0 where
  pub tree : IsWholeTree (loose_of held (Some (record { number = id; block = block })) None) format new now
      (insert records id rec)
  pub ways : (other : ℕ) → other < 2 ^ 32 → blocks_on_way new now.blocks other ≡ blocks_on_way old heads.blocks other
  pub counted : TakesCounted taken old new heads now
  pub same_data : taken ≡ 0 → (number : ℕ)
      → times (data_with (loose_of held (Some (record { number = id; block = block })) None) new now.blocks) number
      ≡ times (data_with (loose_of held None None) old heads.blocks) number
  pub header : block_of new 0 ≡ block_of old 0

-- The record of an identifier was entered so into each tree of which no leaf is awaited, and in which it has none.
abbrev pub EntersEachTree : (block id : ℕ) → Rec → (taken : ℕ) → Format → (old new : List ℕ)
    → (heads now : Heads) → Type 0
EntersEachTree block id rec taken format old new heads now =
    (held : List ℕ) (records : Records) → IsWholeTree (loose_of held None None) format old heads records
    → get records id ≡ None → EntersRecord block id rec taken held format old new heads now records
