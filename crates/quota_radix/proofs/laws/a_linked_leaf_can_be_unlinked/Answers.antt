use Rattle.quota_radix.proofs.UnlinkLawLemmas.{linked_unlinkable}
use Rattle.quota_radix.proofs.laws.a_linked_leaf_can_be_unlinked.Goals as goal

pub returns : goal.returns
returns c =
    λ old new found fresh blocks id leaf some five small can had gains.
    linked_unlinkable old new found fresh blocks id leaf some five small can had gains
