use Rattle.quota_radix.proofs.UnlinkLawLemmas.{redone_words}
use Rattle.quota_radix.proofs.laws.linking_undoes_unlinking.Goals as goal

pub returns : goal.returns
returns c =
    λ old between new way emptied blocks id five clears loses sets.
    redone_words old between new way emptied blocks id five clears loses sets
