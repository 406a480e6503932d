use Rattle.std.proofs.Common.{◌≡◌, List, [], None, false, sym, subst, arith}
use Rattle.std.specs.Prelude.{All}
use Rattle.std.proofs.lemmas.Result.{err_from_is_err_and}
use Rattle.quota_types.specs.Kept.{IsKept}
use Rattle.quota_types.specs.Rec.{is_null_of}
use Rattle.quota_types.specs.declared.record.Entry.{Entry}
use Rattle.quota_value.specs.Listed.{ids_of, records_of}
use Rattle.inode_scan.specs.Apply.{wanted, wanted_record}
use Rattle.inode_scan.proofs.ApplyLemmas.{IsDone, done_all, done_none, from_after, none_wanted, rest_all}
use Rattle.inode_scan.proofs.RisingLemmas.{Rises, all_kept, increasing_of, kept_id, rises_kept, step_done, step_later}
use Rattle.inode_scan.proofs.RisingLemmas.{step_refused, step_rest}
use Rattle.inode_scan.proofs.applying.apply.Goals as goal

pub ids-init : goal.ids-init
ids-init c =
    let a = c.args in
    let none : [] ≡ c.new-entries.result.items = sym c.new-entries.ensures.items in
    record {
      done = subst (IsDone a.format (wanted a.grace a.now (records_of a.list.now) a.usage.now) None) none
          (done_none a.format (wanted a.grace a.now (records_of a.list.now) a.usage.now));
      rest = rest_all a.list.now c.requires;
      ascends = subst (λ (list : List Entry). Rises 0 0 (ids_of list)) none (omega arith);
      kept = subst (All (λ (entry : Entry). IsKept a.format entry.id entry.rec)) none
          (λ k d lt. absurd (omega (arith, lt)));
      lasting =
          subst (All (λ (entry : Entry). is_null_of entry.rec ≡ false)) none (λ k d lt. absurd (omega (arith, lt)));
    }

pub ids-preserved : goal.ids-preserved
ids-preserved c =
    let a = c.args in
    let l = c.ids in
    let id = c.in-Some.id in
    let rec = c.take_record-rec.result.0 in
    let mine = c.of.result in
    let entry = c.in_ok-entry.entry in
    let found = c.in_ok-entry.ensures in
    let more = c.in_ok-push_some.ensures in
    let least = sym c.in-Some.ensures in
    record {
      done =
          step_done a.format a.grace a.now a.list.now l.rest.now a.usage.now l.after c.next_after.result
          l.invariant.rest c.next_after.ensures id least rec mine c.take_record-rec.ensures.rec c.of.ensures
          l.entries.items c.push_some.new.entries.items entry l.invariant.done found.fits found.kept more;
      rest =
          step_rest a.format a.grace a.now a.list.now l.rest.now a.usage.now l.after c.next_after.result
          l.invariant.rest c.next_after.ensures id least rec mine c.take_record-rec.ensures.rec c.of.ensures
          c.take_record-rec.result.1.now c.take_record-rec.ensures.behind;
      ascends = rises_kept l.after id l.entries.items c.push_some.new.entries.items entry l.invariant.ascends
          (step_later a.format a.grace a.now a.list.now l.rest.now a.usage.now l.after c.next_after.result
          l.invariant.rest c.next_after.ensures id least rec mine c.take_record-rec.ensures.rec c.of.ensures)
          (kept_id a.format id (wanted_record a.grace a.now rec mine) entry found.kept) more;
      kept = all_kept (λ (entry : Entry). IsKept a.format entry.id entry.rec) l.entries.items
          c.push_some.new.entries.items entry l.invariant.kept found.again more;
      lasting = all_kept (λ (entry : Entry). is_null_of entry.rec ≡ false) l.entries.items c.push_some.new.entries.items
          entry l.invariant.lasting found.lasting more;
    }

pub returns-in_err-entry-clause-refused : goal.returns-in_err-entry-clause-refused
returns-in_err-entry-clause-refused c =
    let p = err_from_is_err_and c.from_residual.result c.from_residual.ensures.1 in
    let a = c.args in
    let l = c.ids in
    rw (p.1, p.2)
    (step_refused a.format a.grace a.now a.list.now l.rest.now a.usage.now l.after c.next_after.result l.invariant.rest
    c.next_after.ensures c.in-Some.id (sym c.in-Some.ensures)
    c.take_record-rec.result.0 c.of.result c.take_record-rec.ensures.rec c.of.ensures l.entries.items
    c.in_err-entry.field-0.0 l.invariant.done c.in_err-entry.ensures.refused)

pub returns-clause-applied : goal.returns-clause-applied
returns-clause-applied c =
    let a = c.args in
    let l = c.ids in
    done_all a.format a.grace a.now (records_of a.list.now) a.usage.now l.after l.entries.items l.invariant.done
    (none_wanted a.grace a.now a.list.now l.rest.now a.usage.now l.after c.next_after.result l.invariant.rest
    c.next_after.ensures (sym c.in_default.ensures))

pub returns-clause-ascends : goal.returns-clause-ascends
returns-clause-ascends c = increasing_of 0 (from_after c.ids.after) (ids_of c.ids.entries.items) c.ids.invariant.ascends
