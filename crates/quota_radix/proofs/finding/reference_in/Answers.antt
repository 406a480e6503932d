use Rattle.std.proofs.Common.{false, arith}
use Rattle.quota_radix.proofs.WalkLemmas.{looks_within}
use Rattle.quota_pages.proofs.UsedLemmas.{looks_none}
use Rattle.quota_radix.proofs.finding.reference_in.Goals as goal

-- the block was read, though its reference leads past the last block
pub returns-else-reference-blocks-clause-looked : goal.returns-else-reference-blocks-clause-looked
returns-else-reference-blocks-clause-looked g c =
    looks_within c.in_ok-reference.ensures.looked (looks_none {ok = false} _ _ _) (omega arith)
