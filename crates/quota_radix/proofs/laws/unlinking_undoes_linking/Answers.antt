use Rattle.quota_radix.proofs.UnlinkLawLemmas.{undone_answered, undone_words}
use Rattle.quota_radix.proofs.laws.unlinking_undoes_linking.Goals as goal

pub returns-clause-answered : goal.returns-clause-answered
returns-clause-answered c =
    λ old between new found fresh emptied blocks id leaf some five small can inside full sets clears.
    undone_answered old between new found fresh emptied blocks id leaf some five small can inside full sets clears

pub returns-clause-words : goal.returns-clause-words
returns-clause-words c =
    λ old between new found fresh emptied blocks id leaf some five small can inside full sets clears.
    undone_words old between new found fresh emptied blocks id leaf some five small can inside full sets clears
