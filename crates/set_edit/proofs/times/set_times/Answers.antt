use Rattle.std.proofs.Common.{◌≡◌, false, Ok, Err, sym, subst, rules}
use Rattle.std.proofs.lemmas.Result.{err_from_is_err_and}
use Rattle.opened_file.specs.ValueEdits.{edit_by}
use Rattle.opened_file.proofs.LooksUpLemmas.{is_looked_up}
use Rattle.set_edit.specs.EditCalls.{change_to, value_edit}
use Rattle.set_edit.specs.Edits.{times_edit}
use Rattle.set_edit.specs.Times.{skips_both}
use Rattle.set_edit.specs.declared.skipped.Skipped.{Skipped}
use Rattle.set_edit.proofs.CommittedLemmas.{once_edited}
use Rattle.set_edit.proofs.EditingLemmas.{edits-changed, edits-idle, edits-unfit, edits-unlooked}
use Rattle.set_edit.proofs.EditsLemmas.{times-same}
use Rattle.set_edit.proofs.times.set_times.Goals as goal

pub returns-clause-edits : goal.returns-clause-edits
returns-clause-edits g c =
    let looked_up = c.in_ok-get.ensures in
    let next = c.in_ok-next.ensures in
    let up = is_looked_up _ _ _ _ _ _ looked_up.looks in
    edits-changed (times_edit c.args.id c.args.block c.args.inode c.args.now) (change_to c.args.id c.in_ok-next.next) _
    _ _ _ c.skipped_times-skipped.result (Ok tt)
    c.in_ok-put_or_remove.ensures.changes up
    (times-same c.args.id c.args.block c.args.inode c.args.now _ _ _ _ _ c.in_ok-next.next
    (record { up = up; looked = looked_up.found; value = c.format.ensures.value _ })
    c.found_or_zeros-rec.ensures next.wanted next.kept
    (subst (λ (s : Skipped). skips_both s ≡ false) c.skipped_times-skipped.ensures (sym c.if-both.ensures)))

pub returns-clause-commits : goal.returns-clause-commits
returns-clause-commits g c =
    let looked_up = c.in_ok-get.ensures in
    let next = c.in_ok-next.ensures in
    let up = is_looked_up _ _ _ _ _ _ looked_up.looks in
    once_edited g.S.Store.commits g.S.Store.commits_on g.F.QuotaFile.stands_for _ _ _
    (value_edit (times_edit c.args.id c.args.block c.args.inode c.args.now))
    (edit_by (change_to c.args.id c.in_ok-next.next)) _ _ _ looked_up.commits up
    (times-same c.args.id c.args.block c.args.inode c.args.now _ _ _ _ _ c.in_ok-next.next
    (record { up = up; looked = looked_up.found; value = c.format.ensures.value _ })
    c.found_or_zeros-rec.ensures next.wanted next.kept
    (subst (λ (s : Skipped). skips_both s ≡ false) c.skipped_times-skipped.ensures (sym c.if-both.ensures)))
    c.in_ok-put_or_remove.ensures.commits

pub returns-in_err-put_or_remove-clause-edits : goal.returns-in_err-put_or_remove-clause-edits
returns-in_err-put_or_remove-clause-edits g c =
    let p =
    err_from_is_err_and c.from_residual-in_err-put_or_remove.result c.from_residual-in_err-put_or_remove.ensures.1 in
    let looked_up = c.in_ok-get.ensures in
    let next = c.in_ok-next.ensures in
    let up = is_looked_up _ _ _ _ _ _ looked_up.looks in
    rw (p.1, p.2) (edits-changed (times_edit c.args.id c.args.block c.args.inode c.args.now)
    (change_to c.args.id c.in_ok-next.next) _ _ _ _ c.skipped_times-skipped.result
    (Err c.in_err-put_or_remove.field-0.0)
    c.in_err-put_or_remove.ensures.changes up
    (times-same c.args.id c.args.block c.args.inode c.args.now _ _ _ _ _ c.in_ok-next.next
    (record { up = up; looked = looked_up.found; value = c.format.ensures.value _ })
    c.found_or_zeros-rec.ensures next.wanted next.kept
    (subst (λ (s : Skipped). skips_both s ≡ false) c.skipped_times-skipped.ensures (sym c.if-both.ensures))))

pub returns-in_err-put_or_remove-clause-commits : goal.returns-in_err-put_or_remove-clause-commits
returns-in_err-put_or_remove-clause-commits g c =
    let looked_up = c.in_ok-get.ensures in
    let next = c.in_ok-next.ensures in
    let up = is_looked_up _ _ _ _ _ _ looked_up.looks in
    once_edited g.S.Store.commits g.S.Store.commits_on g.F.QuotaFile.stands_for _ _ _
    (value_edit (times_edit c.args.id c.args.block c.args.inode c.args.now))
    (edit_by (change_to c.args.id c.in_ok-next.next)) _ _ _ looked_up.commits up
    (times-same c.args.id c.args.block c.args.inode c.args.now _ _ _ _ _ c.in_ok-next.next
    (record { up = up; looked = looked_up.found; value = c.format.ensures.value _ })
    c.found_or_zeros-rec.ensures next.wanted next.kept
    (subst (λ (s : Skipped). skips_both s ≡ false) c.skipped_times-skipped.ensures (sym c.if-both.ensures)))
    c.in_err-put_or_remove.ensures.commits

pub returns-in_err-get-clause-edits : goal.returns-in_err-get-clause-edits
returns-in_err-get-clause-edits g c =
    let p = err_from_is_err_and c.from_residual.result c.from_residual.ensures.1 in
    let looked_up = c.in_err-get.ensures in
    rw (p.1, p.2)
    (edits-unlooked (times_edit c.args.id c.args.block c.args.inode c.args.now) _ _ _ _ c.in_err-get.field-0.0
    looked_up.looks)

pub returns-in_err-next-clause-edits : goal.returns-in_err-next-clause-edits
returns-in_err-next-clause-edits g c =
    let p = err_from_is_err_and c.from_residual-in_err-next.result c.from_residual-in_err-next.ensures.1 in
    rw (p.1, p.2) (edits-unfit _ _ _ _ c.in_err-next.field-0.0 (search rules))

pub returns-then-both-clause-edits : goal.returns-then-both-clause-edits
returns-then-both-clause-edits g c = edits-idle _ _ _ _ _ (search rules) c.in_ok-get.ensures.looks.leaves
