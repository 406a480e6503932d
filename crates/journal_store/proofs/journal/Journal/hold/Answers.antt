use Rattle.journal_store.proofs.MomentLemmas.{nothing-recovered}
use Rattle.journal_store.proofs.journal.Journal.hold.Goals as goal

pub returns-clause-moments : goal.returns-clause-moments
returns-clause-moments g c told =
    nothing-recovered c.args.name.now _ _ _ c.requires.plain (c.take.ensures.moments told)
