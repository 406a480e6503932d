use Rattle.std.proofs.Common.{Ok, Err, rules}
use Rattle.std.proofs.lemmas.Result.{err_from_is_err_and}
use Rattle.opened_file.specs.ValueEdits.{edit_by}
use Rattle.opened_file.proofs.LooksUpLemmas.{is_looked_up}
use Rattle.set_edit.specs.EditCalls.{change_to, value_edit}
use Rattle.set_edit.specs.Edits.{limits_edit}
use Rattle.set_edit.proofs.CommittedLemmas.{once_edited}
use Rattle.set_edit.proofs.EditingLemmas.{edits-changed, edits-unfit, edits-unlooked, look_wants, reads_looked}
use Rattle.set_edit.proofs.EditingLemmas.{reads_once}
use Rattle.set_edit.proofs.EditsLemmas.{limits-same}
use Rattle.set_edit.proofs.edit.set_limits.Goals as goal

pub returns : goal.returns
returns g c =
    let looked_up = c.in_ok-old.ensures in
    let next = c.in_ok-next.ensures in
    let edit = limits_edit c.args.id c.args.limits.now c.args.now in
    let change = change_to c.args.id c.in_ok-next.next in
    let up = is_looked_up _ _ _ _ _ _ looked_up.looks in
    let same = limits-same c.args.id c.args.limits.now c.args.now _ _ _ _ _ _ c.in_ok-next.next
    (record { up = up; looked = looked_up.found; value = c.format.ensures.value _ })
    (c.grace.ensures.value _) c.limited-rec.ensures next.wanted next.kept next.null in
    record {
      edits = edits-changed edit change _ _ _ _ tt (Ok tt) c.in_ok-put_or_remove.ensures.changes up same;
      reads = reads_once _ g.F.QuotaFile.change_reads _ _ _ _ _ _ looked_up.looks.same looked_up.looks.reads
          c.in_ok-put_or_remove.ensures.changes.reads;
      memory = tt;
      commits = once_edited g.S.Store.commits g.S.Store.commits_on g.F.QuotaFile.stands_for _ _ _ (value_edit edit)
          (edit_by change) _ _ _ looked_up.commits up same c.in_ok-put_or_remove.ensures.commits;
    }

pub returns-in_err-put_or_remove : goal.returns-in_err-put_or_remove
returns-in_err-put_or_remove g c =
    let p =
    err_from_is_err_and c.from_residual-in_err-put_or_remove.result c.from_residual-in_err-put_or_remove.ensures.1 in
    let looked_up = c.in_ok-old.ensures in
    let next = c.in_ok-next.ensures in
    let edit = limits_edit c.args.id c.args.limits.now c.args.now in
    let change = change_to c.args.id c.in_ok-next.next in
    let up = is_looked_up _ _ _ _ _ _ looked_up.looks in
    let same = limits-same c.args.id c.args.limits.now c.args.now _ _ _ _ _ _ c.in_ok-next.next
    (record { up = up; looked = looked_up.found; value = c.format.ensures.value _ })
    (c.grace.ensures.value _) c.limited-rec.ensures next.wanted next.kept next.null in
    record {
      edits = rw (p.1, p.2)
          (edits-changed edit change _ _ _ _ tt (Err c.in_err-put_or_remove.field-0.0)
          c.in_err-put_or_remove.ensures.changes up same);
      reads = reads_once _ g.F.QuotaFile.change_reads _ _ _ _ _ _ looked_up.looks.same looked_up.looks.reads
          c.in_err-put_or_remove.ensures.changes.reads;
      memory = rw (p.1, p.2) c.in_err-put_or_remove.ensures.memory;
      commits = once_edited g.S.Store.commits g.S.Store.commits_on g.F.QuotaFile.stands_for _ _ _ (value_edit edit)
          (edit_by change) _ _ _ looked_up.commits up same c.in_err-put_or_remove.ensures.commits;
    }

pub returns-in_err-old-clause-reads : goal.returns-in_err-old-clause-reads
returns-in_err-old-clause-reads g c = reads_looked _ _ _ _ c.in_err-old.ensures.looks.reads

pub returns-in_err-next-clause-reads : goal.returns-in_err-next-clause-reads
returns-in_err-next-clause-reads g c = reads_looked _ _ _ _ c.in_ok-old.ensures.looks.reads

pub returns-in_err-old-clause-edits : goal.returns-in_err-old-clause-edits
returns-in_err-old-clause-edits g c =
    let p = err_from_is_err_and c.from_residual.result c.from_residual.ensures.1 in
    rw (p.1, p.2) (edits-unlooked (limits_edit c.args.id c.args.limits.now c.args.now) _ _ _ _ c.in_err-old.field-0.0
    c.in_err-old.ensures.looks)

pub returns-in_err-next-clause-edits : goal.returns-in_err-next-clause-edits
returns-in_err-next-clause-edits g c =
    let p = err_from_is_err_and c.from_residual-in_err-next.result c.from_residual-in_err-next.ensures.1 in
    rw (p.1, p.2) (edits-unfit _ _ _ _ c.in_err-next.field-0.0 (search rules))

pub returns-in_err-old-clause-memory : goal.returns-in_err-old-clause-memory
returns-in_err-old-clause-memory g c =
    let p = err_from_is_err_and c.from_residual.result c.from_residual.ensures.1 in
    rw (p.1, p.2) (look_wants _ _ _ c.in_err-old.field-0.0 c.in_err-old.ensures.looks.refused)

pub returns-in_err-next-clause-memory : goal.returns-in_err-next-clause-memory
returns-in_err-next-clause-memory g c =
    let p = err_from_is_err_and c.from_residual-in_err-next.result c.from_residual-in_err-next.ensures.1 in
    rw (p.1, p.2) tt
