use Rattle.std.proofs.Common.{◌^◌, ◌<◌, sym, subst, IfSome, IsTrue, Ok, Err, Option, Some, refl, arith, []}
use Rattle.std.proofs.lemmas.Result.{err_from_is_err_and}
use Rattle.quota_types.specs.declared.record.Entry.{Entry}
use Rattle.opened_file.specs.FileSeen.{FileSeen}
use Rattle.quota_types.specs.Ids.{IsAfter}
use Rattle.quota_value.specs.NextRecord.{IsNextAfter}
use Rattle.opened_file.proofs.LooksUpLemmas.{looks_up-answer, looks_up-none, looks_up-within}
use Rattle.opened_file.proofs.PassingLemmas.{passed_all, passed_end, passed_found, passed_none, passed_part}
use Rattle.opened_file.proofs.PassingLemmas.{passing_still}
use Rattle.report_text.proofs.LookingLemmas.{last_one, one_more, sink_failed}
use Rattle.report_text.proofs.LinesLemmas.{put_none, put_more, put_all, put_fault, put_part}
use Rattle.report_text.proofs.file_report.put_entries.Goals as goal

pub loop-entry-init : goal.loop-entry-init
loop-entry-init g c = record {
  lines = λ value holds. put_none _ _ _ _ _ _ value.records;
  passed = λ value holds. passed_none _ value.records _;
  usable = c.requires;
  up = looks_up-within Some _ _ _ 0 _ (Ok (tt {0})) (omega arith) (looks_up-none Some _ _ (tt {0}));
  sink_later = omega arith;
  commits = g.S.Store.commits_nothing [] _;
}

pub returns-in_err-entry-clause-fault : goal.returns-in_err-entry-clause-fault
returns-in_err-entry-clause-fault g c =
    let p = err_from_is_err_and c.from_residual.result c.from_residual.ensures.1 in
    let kept = c.loop-entry.invariant in
    rw p.1 (λ value holds. put_part _ _ _ _ _ _ _ _ _ _ (kept.lines value holds))

pub returns-in_err-put_entry-clause-fault : goal.returns-in_err-put_entry-clause-fault
returns-in_err-put_entry-clause-fault g c =
    let p = err_from_is_err_and c.from_residual-in_err-put_entry.result c.from_residual-in_err-put_entry.ensures.1 in
    let kept = c.loop-entry.invariant in
    rw p.1 (λ value holds.
    let next = let P : Option Entry → Type 0 = λ o. IsNextAfter c.loop-entry.after value.records o in
    subst P c.in-Some.is (c.in_ok-entry.ensures.found value (kept.up.stays value holds)) in
    put_fault _ _ _ _ _ _ _ _ _ _ (kept.lines value holds) _ _ next c.in_err-put_entry.ensures.fault)

pub loop-entry-preserved : goal.loop-entry-preserved
loop-entry-preserved g c =
    let kept = c.loop-entry.invariant in
    let found = c.in_ok-entry.ensures in
    let put = c.in_ok-put_entry.ensures in
    let entry : Entry = c.in-Some.entry in
    let is_after : IsAfter c.loop-entry.after entry.id =
    subst (λ (o : Option Entry). IfSome o (λ e. IsAfter c.loop-entry.after e.id)) c.in-Some.is found.ascends in
    let is_narrow : entry.id < 2 ^ 32 =
    subst (λ (o : Option Entry). IfSome o (λ e. e.id < 2 ^ 32)) c.in-Some.is found.narrow in
    record {
      lines = λ value holds.
          let next = let P : Option Entry → Type 0 = λ o. IsNextAfter c.loop-entry.after value.records o in
          subst P c.in-Some.is (c.in_ok-entry.ensures.found value (kept.up.stays value holds)) in
          put_more _ _ _ _ _ _ _ _ _ _ (kept.lines value holds) _ _ _ next put.ok;
      passed = λ value holds.
          let next = let P : Option Entry → Type 0 = λ o. IsNextAfter c.loop-entry.after value.records o in
          subst P c.in-Some.is (found.found value (kept.up.stays value holds)) in
          let few = passing_still Some _ _ _ _ _ g.F.QuotaFile.passing_reads _ _ _ _ kept.up
          (found.passing value (kept.up.stays value holds)) in
          passed_found _ c.loop-entry.after value.records entry _ _ _ _ (g.met.F.QuotaFile.passing_adds_up _ _)
          (kept.passed value holds) next is_after is_narrow c.in-Some.is few;
      usable = subst (λ (seen : FileSeen). IsTrue seen.usable) (sym found.looks.same) kept.usable;
      up = looks_up-answer Some Some _ _ _ _ _ (Ok (tt {0})) tt
          (one_more _ _ _ _ g.F.QuotaFile.next_reads c.loop-entry.after entry.id _ is_after is_narrow
          kept.up found.looks);
      sink_later = omega (arith, put.later, kept.sink_later);
      commits = g.S.Store.commits_on [] [] _ _ _ kept.commits found.commits;
    }

pub returns-clause-ok : goal.returns-clause-ok
returns-clause-ok g c =
    let kept = c.loop-entry.invariant in
    λ value holds.
    let none = let P : Option Entry → Type 0 = λ o. IsNextAfter c.loop-entry.after value.records o in
    subst P c.in_default.is (c.in_ok-entry.ensures.found value (kept.up.stays value holds)) in
    put_all _ _ _ _ _ _ _ _ _ _ (kept.lines value holds) none

pub returns-in_err-entry-clause-looks : goal.returns-in_err-entry-clause-looks
returns-in_err-entry-clause-looks g c =
    let p = err_from_is_err_and c.from_residual.result c.from_residual.ensures.1 in
    rw (p.1, p.2) (last_one _ _ _ _ g.F.QuotaFile.next_reads c.loop-entry.after (Err c.in_err-entry.field-0.0) _ refl
    c.loop-entry.invariant.up c.in_err-entry.ensures.looks)

pub returns-in_err-put_entry-clause-looks : goal.returns-in_err-put_entry-clause-looks
returns-in_err-put_entry-clause-looks g c =
    let p = err_from_is_err_and c.from_residual-in_err-put_entry.result c.from_residual-in_err-put_entry.ensures.1 in
    rw (p.1, p.2) (sink_failed _ _ _ _ g.F.QuotaFile.next_reads c.loop-entry.after _ _ refl c.loop-entry.invariant.up
    c.in_ok-entry.ensures.looks)

pub returns-clause-looks : goal.returns-clause-looks
returns-clause-looks g c =
    last_one _ _ _ _ g.F.QuotaFile.next_reads c.loop-entry.after (Ok c.in_ok-entry.field-0) (Ok (tt {0})) tt
    c.loop-entry.invariant.up c.in_ok-entry.ensures.looks

pub returns-in_err-entry-clause-few : goal.returns-in_err-entry-clause-few
returns-in_err-entry-clause-few g c = λ value holds.
    let kept = c.loop-entry.invariant in
    passed_all _ c.loop-entry.after value.records _ _ _ (g.met.F.QuotaFile.passing_adds_up _ _)
    (kept.passed value holds)
    (passing_still Some _ _ _ _ _ g.F.QuotaFile.passing_reads _ _ _ _ kept.up
    (c.in_err-entry.ensures.passing value (kept.up.stays value holds)))

pub returns-clause-few : goal.returns-clause-few
returns-clause-few g c = λ value holds.
    let kept = c.loop-entry.invariant in
    passed_end _ c.loop-entry.after value.records _ _ _ _ (g.met.F.QuotaFile.passing_adds_up _ _)
    (kept.passed value holds) c.in_default.is
    (passing_still Some _ _ _ _ _ g.F.QuotaFile.passing_reads _ _ _ _ kept.up
    (c.in_ok-entry.ensures.passing value (kept.up.stays value holds)))

pub returns-in_err-put_entry-clause-few : goal.returns-in_err-put_entry-clause-few
returns-in_err-put_entry-clause-few g c = λ value holds.
    let kept = c.loop-entry.invariant in
    let found = c.in_ok-entry.ensures in
    let entry : Entry = c.in-Some.entry in
    let is_after : IsAfter c.loop-entry.after entry.id =
    subst (λ (o : Option Entry). IfSome o (λ e. IsAfter c.loop-entry.after e.id)) c.in-Some.is found.ascends in
    let is_narrow : entry.id < 2 ^ 32 =
    subst (λ (o : Option Entry). IfSome o (λ e. e.id < 2 ^ 32)) c.in-Some.is found.narrow in
    let next = let P : Option Entry → Type 0 = λ o. IsNextAfter c.loop-entry.after value.records o in
    subst P c.in-Some.is (found.found value (kept.up.stays value holds)) in
    let few = passing_still Some _ _ _ _ _ g.F.QuotaFile.passing_reads _ _ _ _ kept.up
    (found.passing value (kept.up.stays value holds)) in
    passed_part _ entry.id value.records _ _ (g.met.F.QuotaFile.passing_adds_up _ _)
    (passed_found _ c.loop-entry.after value.records entry _ _ _ _ (g.met.F.QuotaFile.passing_adds_up _ _)
    (kept.passed value holds) next is_after is_narrow c.in-Some.is few)
