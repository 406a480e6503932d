use Rattle.edit_journal.specs.Settled.{RecoversToEither}
use Rattle.edit_journal.specs.ByteRanges.{laid, ranges_of}
use Rattle.edit_journal.proofs.CommitStopLemmas.{either-old, only-then}
use Rattle.edit_journal.proofs.commit.commit_file.Goals as goal

pub returns-in_err-commit_ranges-clause-leaves : goal.returns-in_err-commit_ranges-clause-leaves
returns-in_err-commit_ranges-clause-leaves g c told old can =
    only-then (RecoversToEither c.args.name.now c.args.undo.now old (laid (ranges_of c.args.ranges.now) old)) _ _ _
    (either-old c.args.name.now c.args.undo.now old (laid (ranges_of c.args.ranges.now) old) _ _
    (c.ready_undo.ensures.leaves told c.args.name.now old c.requires.unmade c.requires.apart can))
    (c.commit_ranges.ensures.leaves told old
    (c.in_ok-ready_undo.ensures.settled told c.args.name.now old c.requires.unmade c.requires.apart can))

pub returns-clause-leaves : goal.returns-clause-leaves
returns-clause-leaves g c told old can =
    only-then (RecoversToEither c.args.name.now c.args.undo.now old (laid (ranges_of c.args.ranges.now) old)) _ _ _
    (either-old c.args.name.now c.args.undo.now old (laid (ranges_of c.args.ranges.now) old) _ _
    (c.ready_undo.ensures.leaves told c.args.name.now old c.requires.unmade c.requires.apart can))
    (c.commit_ranges.ensures.leaves told old
    (c.in_ok-ready_undo.ensures.settled told c.args.name.now old c.requires.unmade c.requires.apart can))

pub returns-clause-settled : goal.returns-clause-settled
returns-clause-settled g c told old can =
    c.in_ok-commit_ranges.ensures.settled told old
    (c.in_ok-ready_undo.ensures.settled told c.args.name.now old c.requires.unmade c.requires.apart can)
