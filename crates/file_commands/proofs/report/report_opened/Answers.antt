use Rattle.std.proofs.Common.{Ok, inr, sym, ap, ◌∙◌, IsTrue}
use Rattle.opened_file.specs.FileSeen.{FileSeen}
use Rattle.quota_value.specs.QuotaValue.{QuotaValue}
use Rattle.outside.proofs.FrameLemmas.{only_reads-any, syncs-after_read, syncs-read}
use Rattle.quota_map.specs.Asked.{asked_of}
use Rattle.quota_map.specs.AnyFile.{any_seen}
use Rattle.quota_map.specs.View.{IsView}
use Rattle.quota_map.proofs.SeenLemmas.{view_kind}
use Rattle.run_steps.specs.Done.{seen_of}
use Rattle.file_commands.specs.Report.{report_cause, report_on}
use Rattle.run_steps.proofs.OpeningLemmas.{not_opened}
use Rattle.refusals.proofs.PieceLemmas.{appends_whole}
use Rattle.file_commands.proofs.ReportLemmas.{report_unshown}
use Rattle.run_steps.proofs.ShowingLemmas.{shown_in_part, shown_whole}
use Rattle.file_commands.proofs.report.report_opened.Goals as goal

pub returns-in-Ok-report-clause-carries : goal.returns-in-Ok-report-clause-carries
returns-in-Ok-report-clause-carries g c = λ input err link input_tells err_tells link_tells.
    let opened = c.in-Ok.ensures in
    let reported = c.in-Ok-report.ensures in
    let file = c.as_str.ensures in
    let written = λ (told : IsTrue g.S.Store.tells) (out_told : IsTrue g.O.Sink.tells) (value : QuotaValue)
    (view : IsView ((g.S.Store.seen c.args.store.now).files c.args.file) c.args.kind
    (asked_of c.args.format) (Ok value)).
    rw c.as_str-in-Ok.ensures at (reported.ok out_told value (opened.held told value (rw (sym file) at view))
    (view_kind _ c.args.kind (asked_of c.args.format) value view)) in
    shown_whole _ _ _ (report_on c.args.names.now c.args.file c.args.now c.args.options.now) _ _ _ _ _
    (record {
      seen = λ told. rw file at (opened.seen told);
      reads = only_reads-any c.args.file _ _ _ (rw file at opened.leaves)
          (rw (ap (λ (s : FileSeen). s.name) opened.fresh ∙ file) at reported.looks.leaves);
      prefix = λ told out_told value view. appends_whole _ _ _ (written told out_told value view);
      later = reported.sink_later;
    })
    written

pub returns-in-Err-report-clause-carries : goal.returns-in-Err-report-clause-carries
returns-in-Err-report-clause-carries g c = λ input err link input_tells err_tells link_tells.
    let opened = c.in-Ok.ensures in
    let reported = c.in-Err-report.ensures in
    let file = c.as_str.ensures in
    let old = seen_of (g.S.Store.seen c.args.store.now) input (g.O.Sink.seen c.args.out.now) err link in
    let after = g.S.Store.seen c.report.new.store in
    let out = g.O.Sink.seen c.report.new.sink in
    rw (c.of.ensures, c.report_cause.ensures)
    (shown_in_part c.args.kind (asked_of c.args.format) c.args.file
    (report_on c.args.names.now c.args.file c.args.now c.args.options.now)
    _ old after out (report_cause c.in-Err-report.fault)
    (record {
      seen = λ told. rw file at (opened.seen told);
      reads = only_reads-any c.args.file _ _ _ (rw file at opened.leaves)
          (rw (ap (λ (s : FileSeen). s.name) opened.fresh ∙ file) at reported.looks.leaves);
      prefix = λ told out_told value view.
          rw c.as_str-in-Ok.ensures at (reported.fault out_told value (opened.held told value (rw (sym file) at view))
          (view_kind _ c.args.kind (asked_of c.args.format) value view));
      later = reported.sink_later;
    })
    (report_unshown (asked_of c.args.format) c.args.file _ old after out (any_seen c.in-Ok.opened).format _ _
    c.in-Err-report.fault opened.as_asked
    opened.leaves.later
    (λ told none. let good = opened.seen told in none good.0 (opened.held told good.0 good.1)) reported.unsent
    reported.looks.refused reported.looks.may))

pub returns-in-Err-clause-carries : goal.returns-in-Err-clause-carries
returns-in-Err-clause-carries g c = λ input err link input_tells err_tells link_tells.
    rw (c.of-in-Err.ensures, c.opening_cause.ensures)
    (not_opened c.args.kind (asked_of c.args.format) c.args.file _ _ _ _ _ _ c.in-Err.fault
    (rw c.as_str.ensures at c.in-Err.ensures.refused) (rw c.as_str.ensures at c.in-Err.ensures.leaves)
    (λ cause may. inr may))

pub returns-in-Ok-report-clause-synced : goal.returns-in-Ok-report-clause-synced
returns-in-Ok-report-clause-synced g c =
    syncs-after_read _ _ _ _ c.in-Ok.ensures.leaves (syncs-read _ _ _ c.in-Ok-report.ensures.looks.leaves)

pub returns-in-Err-report-clause-synced : goal.returns-in-Err-report-clause-synced
returns-in-Err-report-clause-synced g c =
    syncs-after_read _ _ _ _ c.in-Ok.ensures.leaves (syncs-read _ _ _ c.in-Err-report.ensures.looks.leaves)

pub returns-in-Err-clause-synced : goal.returns-in-Err-clause-synced
returns-in-Err-clause-synced g c = syncs-read _ _ _ c.in-Err.ensures.leaves
