-- A data block of which an entry was cleared.
use Rattle.std.specs.Prelude.{◌≡◌, ◌≢◌, ℕ, true, false, List, []}
use Rattle.quota_types.specs.declared.file_kind.Format.{Format}
use Rattle.file_blocks.specs.Block.{block_of}
use Rattle.tree_meaning.specs.Entries.{has_unused, used_ids}
use Rattle.block_changes.specs.EntryChanges.{LosesEntry}
use Rattle.tree_change.specs.declared.clearing.Cleared.{Cleared}
use Rattle.tree_change.specs.declared.clearing.Cleared.TheVariants.{Last, WasFull, HadRoom}

-- the block uses no entry now, or it uses others, and had no unused one before, or had one
abbrev pub IsCleared : Format → (old new : List ℕ) → Cleared → Type 0
IsCleared format old new Last = used_ids format new ≡ []
IsCleared format old new WasFull = (used_ids format new ≢ []) × (has_unused format old ≡ false)
IsCleared format old new HadRoom = (used_ids format new ≢ []) × (has_unused format old ≡ true)

-- The entry of an identifier in a block was cleared, and this is what the block had and has.
pub record LosesRecord (format : Format) (block id : ℕ) (cleared : Cleared) (old new : List ℕ) : Type 0 where
  pub place : ℕ
  pub loses : LosesEntry format block place id old new
  pub left : IsCleared format (block_of old block) (block_of new block) cleared
