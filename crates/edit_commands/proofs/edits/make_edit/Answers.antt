use Rattle.edit_commands.proofs.EditFileLemmas.{edits_unskipped}
use Rattle.edit_commands.proofs.edits.make_edit.Goals as goal

pub returns-in-Limits-clause-edits : goal.returns-in-Limits-clause-edits
returns-in-Limits-clause-edits g c =
    let S = g.S.Store in
    rw (c.in-Limits.is, c.unskipped.ensures)
    (edits_unskipped _ S.tells c.args.opened.now c.set_limits.new.file (S.seen c.args.store.now)
    (S.seen c.set_limits.new.store) c.set_limits.result c.set_limits.ensures.edits)

pub returns-in-Copy-clause-edits : goal.returns-in-Copy-clause-edits
returns-in-Copy-clause-edits g c =
    let S = g.S.Store in
    rw (c.in-Copy.is, c.unskipped-in-Copy.ensures)
    (edits_unskipped _ S.tells c.args.opened.now c.copy_limits.new.file (S.seen c.args.store.now)
    (S.seen c.copy_limits.new.store) c.copy_limits.result c.copy_limits.ensures.edits)

pub returns-in-Grace-clause-edits : goal.returns-in-Grace-clause-edits
returns-in-Grace-clause-edits g c =
    let S = g.S.Store in
    rw (c.in-Grace.is, c.unskipped-in-Grace.ensures)
    (edits_unskipped _ S.tells c.args.opened.now c.set_grace_periods.new.file (S.seen c.args.store.now)
    (S.seen c.set_grace_periods.new.store) c.set_grace_periods.result c.set_grace_periods.ensures.edits)

pub returns-in-Times-clause-edits : goal.returns-in-Times-clause-edits
returns-in-Times-clause-edits g c = rw c.in-Times.is c.set_times.ensures.edits

pub returns-in-Limits-clause-commits : goal.returns-in-Limits-clause-commits
returns-in-Limits-clause-commits g c = rw c.in-Limits.is c.set_limits.ensures.commits

pub returns-in-Copy-clause-commits : goal.returns-in-Copy-clause-commits
returns-in-Copy-clause-commits g c = rw c.in-Copy.is c.copy_limits.ensures.commits

pub returns-in-Grace-clause-commits : goal.returns-in-Grace-clause-commits
returns-in-Grace-clause-commits g c = rw c.in-Grace.is c.set_grace_periods.ensures.commits

pub returns-in-Times-clause-commits : goal.returns-in-Times-clause-commits
returns-in-Times-clause-commits g c = rw c.in-Times.is c.set_times.ensures.commits
