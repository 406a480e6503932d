-- For which causes a file of a value is not written.
use Rattle.std.specs.Prelude.{◌≡◌, ◌<◌, ℕ, List, ⊤}
use Rattle.quota_types.specs.Format.{IsTreeFormat}
use Rattle.quota_types.specs.declared.file_kind.Format.{Format}
use Rattle.quota_map.specs.View.{most_blocks}
use Rattle.refusals.specs.declared.cause.Cause.{Cause}
use Rattle.refusals.specs.declared.cause.Cause.TheVariants.{StoreFault, Full, Memory}

-- The causes for which a file of a format may not be replaced, whatever is told, with the name that is said. A flat
-- file has no blocks.
abbrev pub WritingMayRefuse : Format → List ℕ → Cause → List ℕ → Type 0
WritingMayRefuse format file StoreFault name = ⊤
WritingMayRefuse format file Memory name = ⊤
WritingMayRefuse format file (Full blocks limit) name =
    IsTreeFormat format × (limit ≡ most_blocks) × (limit < blocks) × (name ≡ file)
WritingMayRefuse format file _ name = ⊥
