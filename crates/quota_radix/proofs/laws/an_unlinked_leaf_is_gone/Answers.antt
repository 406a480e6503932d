use Rattle.std.proofs.Common.{sym}
use Rattle.quota_radix.proofs.LinkLeafLemmas.{leaf_of_other}
use Rattle.quota_radix.proofs.UnlinkLawLemmas.{unlinked_gone}
use Rattle.quota_radix.proofs.laws.an_unlinked_leaf_is_gone.Goals as goal

pub returns-clause-gone : goal.returns-clause-gone
returns-clause-gone c = λ old new way emptied blocks id loses. unlinked_gone old new way emptied blocks id loses

pub returns-clause-others : goal.returns-clause-others
returns-clause-others c =
    λ old new way emptied blocks id other loses small ne.
    sym (leaf_of_other new old blocks id _ other small ne loses.leaves)
