-- What linking a leaf and unlinking one change of the bytes of a file.
use Rattle.std.specs.Prelude.{◌≡◌, ℕ, ◌-◌, List, [], ◌∷◌, ◌++◌, length, slice_index}
use Rattle.quota_pages.specs.KeptBlocks.{KeepsBlocksBut}
use Rattle.quota_radix.specs.Link.{LeadsAlong, changed_blocks, whole_way}
use Rattle.quota_radix.specs.Unlink.{AreAllWithoutOther, ClearsAlong, lowest_blocks}

-- A leaf was linked behind the blocks that were found on its way, by the fresh ones: their references lead along it,
-- and nothing else changed.
pub record SetsWay (found fresh : List ℕ) (id leaf_block : ℕ) (old new : List ℕ) : Type 0 where
  pub words : LeadsAlong (whole_way found fresh leaf_block) (length found - 1) id old new
  pub keeps : KeepsBlocksBut (changed_blocks found fresh) old new

-- A leaf was unlinked from the blocks of its whole way, and these were emptied: their references and the one above them
-- are 0, and nothing else changed.
pub record ClearsWay (way emptied : List ℕ) (id : ℕ) (old new : List ℕ) : Type 0 where
  pub answered : emptied ≡ lowest_blocks way (length emptied)
  pub all : AreAllWithoutOther way (length emptied) id old
  pub words : ClearsAlong way (3 - length emptied) id old new
  pub keeps : KeepsBlocksBut (emptied ++ slice_index way (3 - length emptied) ∷ []) old new
