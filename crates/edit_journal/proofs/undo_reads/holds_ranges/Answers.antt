use Rattle.std.proofs.Common.{arith}
use Rattle.edit_journal.proofs.InPlaceLemmas.{holds-sized}
use Rattle.edit_journal.proofs.undo_reads.holds_ranges.Goals as goal

pub returns-clause-holds : goal.returns-clause-holds
returns-clause-holds g c told many =
    holds-sized c.args.undo.now _ c.unwrap_or-length.result c.args.count c.in_ok-within.within _ _
    (c.in_ok-size.ensures.found told) c.unwrap_or-length.ensures c.size.ensures.leaves.files
    (omega (arith, c.if-length-lt1024.false)) (omega (arith, c.if-count-gt12.false)) many
    (c.in_ok-within.ensures.within told)
