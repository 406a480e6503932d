use Rattle.std.proofs.Common.{[], Ok, Err, rules}
use Rattle.std.proofs.lemmas.Result.{err_from_is_err_and}
use Rattle.opened_file.specs.Changes.{file_at}
use Rattle.opened_file.specs.FileChange.{SetGrace}
use Rattle.opened_file.specs.ValueEdits.{edit_by}
use Rattle.set_edit.specs.EditCalls.{value_edit}
use Rattle.set_edit.specs.Edits.{grace_edit}
use Rattle.set_edit.proofs.CommittedLemmas.{once_edited}
use Rattle.set_edit.proofs.EditingLemmas.{edits-changed, edits-unfit}
use Rattle.set_edit.proofs.EditsLemmas.{grace-same, is_looked_up-none}
use Rattle.set_edit.proofs.grace_periods.set_grace_periods.Goals as goal

pub returns : goal.returns
returns g c =
    let grace = c.args.grace in
    let at = file_at (g.F.QuotaFile.holds c.args.file.now c.args.store.now) (g.F.QuotaFile.seen c.args.file.now)
    (g.S.Store.seen c.args.store.now) in
    let same = grace-same grace at c.format.result (c.format.ensures.value _) c.in_ok-check_grace.ensures.fits in
    record {
      edits = edits-changed (grace_edit grace) (SetGrace grace) _ _ _ _ tt (Ok tt) c.in_ok-set_grace.ensures.changes
          (is_looked_up-none at) same;
      commits =
          once_edited g.S.Store.commits g.S.Store.commits_on g.F.QuotaFile.stands_for _ _ _
          (value_edit (grace_edit grace)) (edit_by (SetGrace grace)) _ _ _
          (g.S.Store.commits_nothing [] _) (is_looked_up-none at) same c.in_ok-set_grace.ensures.commits;
    }

pub returns-in_err-check_grace-clause-edits : goal.returns-in_err-check_grace-clause-edits
returns-in_err-check_grace-clause-edits g c =
    let p = err_from_is_err_and c.from_residual.result c.from_residual.ensures.1 in
    rw (p.1, p.2) (edits-unfit _ _ _ _ c.in_err-check_grace.field-0.0 (search rules))

pub returns-in_err-set_grace : goal.returns-in_err-set_grace
returns-in_err-set_grace g c =
    let p = err_from_is_err_and c.from_residual-in_err-set_grace.result c.from_residual-in_err-set_grace.ensures.1 in
    let grace = c.args.grace in
    let at = file_at (g.F.QuotaFile.holds c.args.file.now c.args.store.now) (g.F.QuotaFile.seen c.args.file.now)
    (g.S.Store.seen c.args.store.now) in
    let same = grace-same grace at c.format.result (c.format.ensures.value _) c.in_ok-check_grace.ensures.fits in
    record {
      edits = rw (p.1, p.2)
          (edits-changed (grace_edit grace) (SetGrace grace) _ _ _ _ tt (Err c.in_err-set_grace.field-0.0)
          c.in_err-set_grace.ensures.changes (is_looked_up-none at) same);
      commits =
          once_edited g.S.Store.commits g.S.Store.commits_on g.F.QuotaFile.stands_for _ _ _
          (value_edit (grace_edit grace)) (edit_by (SetGrace grace)) _ _ _
          (g.S.Store.commits_nothing [] _) (is_looked_up-none at) same c.in_err-set_grace.ensures.commits;
    }
