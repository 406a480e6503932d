use Rattle.std.proofs.Common.{refl, sym, ap, subst, inl, ◌∙◌}
use Rattle.std.proofs.lemmas.Result.{err_from_is_err_and}
use Rattle.opened_file.specs.Changes.{file_at}
use Rattle.opened_file.proofs.LooksUpLemmas.{is_looked_up}
use Rattle.opened_file.proofs.LookupLemmas.{IsSameAt}
use Rattle.set_edit.specs.Edited.{limits_change, limits_set}
use Rattle.set_edit.specs.EditCalls.{value_edit}
use Rattle.set_edit.specs.Edits.{LimitsMayLack, copy_edit, limits_edit, limits_idle, limits_of}
use Rattle.set_edit.specs.declared.limits.Limits.{Limits}
use Rattle.set_edit.proofs.CommittedLemmas.{once_edited}
use Rattle.set_edit.proofs.EditingLemmas.{edits-after, edits-unlooked}
use Rattle.set_edit.proofs.copying.copy_limits.Goals as goal

pub returns : goal.returns
returns g c =
    let looked_up = c.in_ok-source.ensures in
    let to = c.args.to in
    let now = c.args.now in
    let copied = c.limits_of.ensures in
    let copy = copy_edit c.args.from to now in
    let next = limits_edit to c.limits_of.result now in
    let up = is_looked_up _ _ _ _ _ _ looked_up.looks in
    let same : IsSameAt (value_edit copy) (value_edit next)
    (file_at (g.F.QuotaFile.holds c.args.file.now c.args.store.now) (g.F.QuotaFile.seen c.args.file.now)
    (g.S.Store.seen c.args.store.now)) = record {
      edited = λ value holds. ap (λ (limits : Limits). limits_set value to limits now)
          (sym (copied ∙ ap limits_of (looked_up.found value holds)));
      change = λ value holds. ap (λ (limits : Limits). limits_change value to limits now)
          (sym (copied ∙ ap limits_of (looked_up.found value holds)));
      idle = λ value holds. ap (λ (limits : Limits). limits_idle value to limits now)
          (sym (copied ∙ ap limits_of (looked_up.found value holds)));
      room = refl;
    } in
    record {
      edits = edits-after copy next _ _ _ _ c.set_limits.result c.set_limits.ensures.edits up
          (record {
            value = same;
            id = refl;
            may = λ out may. (
              c.in_ok-source.source,
              looked_up.kept,
              subst (λ (limits : Limits).
                  LimitsMayLack to limits now (g.F.QuotaFile.seen c.args.file.now).format out) copied may,
            );
          });
      commits = once_edited g.S.Store.commits g.S.Store.commits_on g.F.QuotaFile.stands_for _ _ _ (value_edit copy)
          (value_edit next) _ _ _ looked_up.commits up same c.set_limits.ensures.commits;
    }

pub returns-in_err-source : goal.returns-in_err-source
returns-in_err-source g c =
    let p = err_from_is_err_and c.from_residual.result c.from_residual.ensures.1 in
    let looked_up = c.in_err-source.ensures in
    record {
      edits = rw (p.1, p.2)
          (edits-unlooked (copy_edit c.args.from c.args.to c.args.now) _ _ _ _ c.in_err-source.field-0.0
          looked_up.looks);
      commits = inl looked_up.commits;
    }
