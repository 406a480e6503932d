use Rattle.std.proofs.Common.{◌*◌, ◌-◌, ◌^◌, ◌≤◌, IsTrue, Ok, Some, []}
use Rattle.id_names.specs.FirstMatch.{first_name}
use Rattle.opened_file.specs.Changes.{file_at, laws_of}
use Rattle.opened_file.specs.LooksUp.{LooksUp}
use Rattle.quota_value.specs.QuotaValue.{QuotaValue}
use Rattle.quota_value.proofs.EntriesLemmas.{ids_after}
use Rattle.opened_file.proofs.PassingLemmas.{IsPassed}
use Rattle.report_text.proofs.LinesLemmas.{IsPutUpTo}
use Rattle.report_text.proofs.file_report.put_entries.Given as goal

abbrev pub invariant-loop-entry : goal.invariant-loop-entry
invariant-loop-entry g l =
    let F = g.F.QuotaFile in
    let S = g.S.Store in
    let O = g.O.Sink in
    record {
      lines : (value : QuotaValue) → F.holds l.fn.file l.fn.store value
          → IsPutUpTo (first_name l.names) l.now l.options O.tells (O.seen l.fn.sink).written l.fn.text
          (O.seen l.sink).written l.text value.records l.after;
      passed : (value : QuotaValue) → F.holds l.fn.file l.fn.store value
          → IsPassed (F.passing_reads (F.seen l.fn.file) ((S.seen l.fn.store).files (F.seen l.fn.file).name)) l.after
          value.records (S.seen l.fn.store).reads (S.seen l.store).reads;
      usable : IsTrue (F.seen l.file).usable;
      up : LooksUp Some
          (laws_of S.tells F.stands_for F.makes F.may_leave F.lacks_room F.may_refuse F.change_reads
          F.change_writes F.done_writes)
          (file_at (F.holds l.fn.file l.fn.store) (F.seen l.fn.file) (S.seen l.fn.store))
          (file_at (F.holds l.file l.store) (F.seen l.file) (S.seen l.store))
          (F.next_reads (F.seen l.fn.file) ((S.seen l.fn.store).files (F.seen l.fn.file).name)
          * (2 ^ 32 - ids_after l.after)) (Ok (tt {0}));
      sink_later : (O.seen l.fn.sink).faults ≤ (O.seen l.sink).faults;
      commits : S.commits [] l.fn.store l.store;
    }

abbrev pub decreases-loop-entry : goal.decreases-loop-entry
decreases-loop-entry g l = ids_after l.after
