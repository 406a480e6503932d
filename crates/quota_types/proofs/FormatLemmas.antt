-- What holds of each format of trees.
use Rattle.std.proofs.Common.{true≢false}
use Rattle.quota_types.specs.Format.{IsTreeFormat}
use Rattle.quota_types.specs.declared.file_kind.Format.{Format}
use Rattle.quota_types.specs.declared.file_kind.Format.TheVariants.{V1, V1R32, V2R0, V2R1}

-- what holds of both formats of trees holds of each format that is one of trees
pub by_tree : (P : Format → Type 0) → P V2R0 → P V2R1 → (format : Format) → IsTreeFormat format → P format
by_tree P r0 r1 V1 tree = absurd (true≢false tree)
by_tree P r0 r1 V1R32 tree = absurd (true≢false tree)
by_tree P r0 r1 V2R0 tree = r0
by_tree P r0 r1 V2R1 tree = r1
