use Rattle.std.proofs.Common.{rules}
use Rattle.journal_store.proofs.journal.Journal.recover.Goals as goal

pub returns-in_err-take-clause-moments : goal.returns-in_err-take-clause-moments
returns-in_err-take-clause-moments g c told =
    let moments = c.take.ensures.moments told in
    record { stops = moments.stops; done = search rules; commits = moments.commits }
