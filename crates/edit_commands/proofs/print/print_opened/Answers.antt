use Rattle.std.proofs.Common.{Ok, inl, inr, refl, sym, ap, ◌∙◌, arith, IsTrue}
use Rattle.opened_file.specs.FileSeen.{FileSeen}
use Rattle.quota_value.specs.QuotaValue.{QuotaValue}
use Rattle.outside.proofs.FrameLemmas.{only_reads-any, syncs-after_read, syncs-less, syncs-read}
use Rattle.quota_map.specs.Asked.{asked_of}
use Rattle.quota_map.specs.AnyFile.{any_seen}
use Rattle.quota_map.specs.View.{IsView}
use Rattle.refusals.specs.declared.cause.Cause.TheVariants.{SinkFault}
use Rattle.run_steps.specs.Done.{seen_of}
use Rattle.run_steps.specs.Opening.{file_cause}
use Rattle.run_steps.specs.Showing.{showing_uses}
use Rattle.edit_commands.specs.Print.{form_on}
use Rattle.run_steps.proofs.ActLemmas.{appends_nothing}
use Rattle.run_steps.proofs.OpeningLemmas.{not_opened, with_out}
use Rattle.refusals.proofs.PieceLemmas.{appends_whole}
use Rattle.run_steps.proofs.ShowingLemmas.{lookup_may, lookup_reason, shown_in_part, shown_whole}
use Rattle.edit_commands.proofs.print.print_opened.Goals as goal

pub returns-in-Ok-write_form-clause-carries : goal.returns-in-Ok-write_form-clause-carries
returns-in-Ok-write_form-clause-carries g c = λ input err link input_tells err_tells link_tells.
    let opened = c.in-Ok.ensures in
    let file = c.as_str.ensures in
    let got = c.in-Ok-get.ensures in
    let wrote = c.in-Ok-write_form.ensures in
    let written = λ (told : IsTrue g.S.Store.tells) (out_told : IsTrue g.O.Sink.tells) (value : QuotaValue)
    (view : IsView ((g.S.Store.seen c.args.store.now).files c.args.file) c.args.kind
    (asked_of c.args.format) (Ok value)).
    rw (got.found value (opened.held told value (rw (sym file) at view))) at rw c.as_str-in-Ok-get.ensures at
    (wrote.ok out_told) in
    shown_whole _ _ _ (form_on c.args.kind c.args.names.now c.args.file c.args.id) _ _ _ _ _
    (record {
      seen = λ told. rw file at (opened.seen told);
      reads = only_reads-any c.args.file _ _ _ (rw file at opened.leaves)
          (rw (ap (λ (s : FileSeen). s.name) opened.fresh ∙ file) at got.looks.leaves);
      prefix = λ told out_told value view. appends_whole _ _ _ (written told out_told value view);
      later = wrote.later;
    })
    written

pub returns-in-Err-write_form-clause-carries : goal.returns-in-Err-write_form-clause-carries
returns-in-Err-write_form-clause-carries g c = λ input err link input_tells err_tells link_tells.
    let opened = c.in-Ok.ensures in
    let file = c.as_str.ensures in
    let got = c.in-Ok-get.ensures in
    let wrote = c.in-Err-write_form.ensures in
    let old = seen_of (g.S.Store.seen c.args.store.now) input (g.O.Sink.seen c.args.out.now) err link in
    rw c.of.ensures
    (shown_in_part c.args.kind (asked_of c.args.format) c.args.file
    (form_on c.args.kind c.args.names.now c.args.file c.args.id) _ old _ _ SinkFault
    (record {
      seen = λ told. rw file at (opened.seen told);
      reads = only_reads-any c.args.file _ _ _ (rw file at opened.leaves)
          (rw (ap (λ (s : FileSeen). s.name) opened.fresh ∙ file) at got.looks.leaves);
      prefix = λ told out_told value view.
          rw (got.found value (opened.held told value (rw (sym file) at view))) at rw c.as_str-in-Ok-get.ensures at
          (wrote.fault out_told);
      later = wrote.later;
    })
    (record { reason = λ stated. inl wrote.cause; may = inl refl }))

pub returns-in-Err-get-clause-carries : goal.returns-in-Err-get-clause-carries
returns-in-Err-get-clause-carries g c = λ input err link input_tells err_tells link_tells.
    let opened = c.in-Ok.ensures in
    let file = c.as_str.ensures in
    let got = c.in-Err-get.ensures in
    let old = seen_of (g.S.Store.seen c.args.store.now) input (g.O.Sink.seen c.args.out.now) err link in
    let after = g.S.Store.seen c.get.new.store in
    rw (c.of-in-Err-get.ensures, c.file_cause.ensures)
    (shown_in_part c.args.kind (asked_of c.args.format) c.args.file
    (form_on c.args.kind c.args.names.now c.args.file c.args.id) _ old after _
    (file_cause c.in-Err-get.fault)
    (record {
      seen = λ told. rw file at (opened.seen told);
      reads = only_reads-any c.args.file _ _ _ (rw file at opened.leaves)
          (rw (ap (λ (s : FileSeen). s.name) opened.fresh ∙ file) at got.looks.leaves);
      prefix = λ told out_told value view. appends_nothing _ _ _ refl;
      later = omega arith;
    })
    (record {
      reason = λ stated.
          lookup_reason showing_uses old (with_out old after (g.O.Sink.seen c.args.out.now)) _ stated _ _
          c.in-Err-get.fault opened.leaves.later
          (λ told none. let good = opened.seen told in none good.0 (opened.held told good.0 good.1)) got.looks.refused;
      may = inr (lookup_may (asked_of c.args.format) c.args.file (any_seen c.in-Ok.opened).format _ _ _
          c.in-Err-get.fault opened.as_asked got.looks.refused
          got.looks.may);
    }))

pub returns-in-Err-clause-carries : goal.returns-in-Err-clause-carries
returns-in-Err-clause-carries g c = λ input err link input_tells err_tells link_tells.
    rw (c.of-in-Err.ensures, c.opening_cause.ensures)
    (not_opened c.args.kind (asked_of c.args.format) c.args.file _ _ _ _ _ _ c.in-Err.fault
    (rw c.as_str.ensures at c.in-Err.ensures.refused) (rw c.as_str.ensures at c.in-Err.ensures.leaves)
    (λ cause may. inr may))

pub returns-in-Ok-write_form-clause-synced : goal.returns-in-Ok-write_form-clause-synced
returns-in-Ok-write_form-clause-synced g c =
    syncs-after_read _ _ _ _ c.in-Ok.ensures.leaves (syncs-read _ _ _ c.in-Ok-get.ensures.looks.leaves)

pub returns-in-Err-write_form-clause-synced : goal.returns-in-Err-write_form-clause-synced
returns-in-Err-write_form-clause-synced g c =
    syncs-less _ _ (syncs-after_read _ _ _ _ c.in-Ok.ensures.leaves (syncs-read _ _ _ c.in-Ok-get.ensures.looks.leaves))

pub returns-in-Err-get-clause-synced : goal.returns-in-Err-get-clause-synced
returns-in-Err-get-clause-synced g c =
    syncs-after_read _ _ _ _ c.in-Ok.ensures.leaves (syncs-read _ _ _ c.in-Err-get.ensures.looks.leaves)

pub returns-in-Err-clause-synced : goal.returns-in-Err-clause-synced
returns-in-Err-clause-synced g c = syncs-read _ _ _ c.in-Err.ensures.leaves
