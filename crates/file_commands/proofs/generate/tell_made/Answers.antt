use Rattle.std.proofs.Common.{◌≡◌, List, inr, refl, ap, ◌∙◌, arith}
use Rattle.outside.proofs.FrameLemmas.{syncs-less, syncs-none}
use Rattle.quota_types.specs.declared.record.Entry.{Entry}
use Rattle.quota_value.specs.Listed.{records_of}
use Rattle.refusals.specs.declared.cause.Cause.TheVariants.{Memory}
use Rattle.refusals.specs.Refusals.{refusal_of}
use Rattle.run_steps.specs.Done.{seen_of}
use Rattle.run_steps.proofs.ActLemmas.{appends_nothing}
use Rattle.file_commands.specs.FileValue.{value_in}
use Rattle.file_commands.specs.Generate.{summary_line}
use Rattle.file_commands.proofs.GenerateLemmas.{told_failed, told_in_part, told_whole, unreported_reason}
use Rattle.file_commands.proofs.generate.tell_made.Goals as goal

pub returns-in_default-clause-carries : goal.returns-in_default-clause-carries
returns-in_default-clause-carries g c = λ input err link input_tells err_tells link_tells seen.
    rw c.of.ensures
    (told_in_part c.args.file _ _ _ _ _ (refusal_of Memory c.args.file) (record { files = refl; writes = refl })
    (omega arith) (omega arith)
    (λ told out_told. appends_nothing _ _ _ refl) (λ stated. tt) (inr tt) refl)

pub returns-in-Ok-write-clause-carries : goal.returns-in-Ok-write-clause-carries
returns-in-Ok-write-clause-carries g c = λ input err link input_tells err_tells link_tells seen.
    let reported = c.in-Ok-report_length.ensures in
    let named : c.in-Ok.name ≡ c.args.file = c.in-Ok.ensures ∙ c.as_str.ensures in
    let said : c.as_slice-in-Ok-report_length.result.now
    ≡ summary_line c.args.count (records_of c.args.value.now.entries.items) c.in-Ok-report_length.bytes =
    c.as_slice-in-Ok-report_length.ensures.value ∙ c.summary_line-line.ensures
    ∙ ap (λ (list : List Entry). summary_line c.args.count (records_of list) c.in-Ok-report_length.bytes)
    c.as_slice.ensures.value in
    told_whole _ _ c.as_slice-in-Ok-report_length.result.now _ _ _ _ reported.unwritten reported.later
    c.in-Ok-write.ensures.later
    (λ told. said ∙ ap (summary_line c.args.count (records_of c.args.value.now.entries.items))
    ((rw named at reported.bytes) told _ (seen told))) c.in-Ok-write.ensures.ok

pub returns-in-Ok-write-clause-synced : goal.returns-in-Ok-write-clause-synced
returns-in-Ok-write-clause-synced g c = c.in-Ok-report_length.ensures.synced

pub returns-in-Err-write-clause-synced : goal.returns-in-Err-write-clause-synced
returns-in-Err-write-clause-synced g c = syncs-less _ _ c.in-Ok-report_length.ensures.synced

pub returns-in-Err-clause-synced : goal.returns-in-Err-clause-synced
returns-in-Err-clause-synced g c = c.in-Err.ensures.synced

pub returns-in_default-clause-synced : goal.returns-in_default-clause-synced
returns-in_default-clause-synced g c = syncs-none _

pub returns-in-Err-write-clause-carries : goal.returns-in-Err-write-clause-carries
returns-in-Err-write-clause-carries g c = λ input err link input_tells err_tells link_tells seen.
    let reported = c.in-Ok-report_length.ensures in
    let named : c.in-Ok.name ≡ c.args.file = c.in-Ok.ensures ∙ c.as_str.ensures in
    let said : c.as_slice-in-Ok-report_length.result.now
    ≡ summary_line c.args.count (records_of c.args.value.now.entries.items) c.in-Ok-report_length.bytes =
    c.as_slice-in-Ok-report_length.ensures.value ∙ c.summary_line-line.ensures
    ∙ ap (λ (list : List Entry). summary_line c.args.count (records_of list) c.in-Ok-report_length.bytes)
    c.as_slice.ensures.value in
    rw c.of-in-Err-write.ensures
    (told_failed c.args.file _ c.as_slice-in-Ok-report_length.result.now _ _ _ _ reported.unwritten reported.later
    c.in-Err-write.ensures.later
    (λ told. said ∙ ap (summary_line c.args.count (records_of c.args.value.now.entries.items))
    ((rw named at reported.bytes) told _ (seen told)))
    c.in-Err-write.ensures.fault c.in-Err-write.ensures.cause)

pub returns-in-Err-clause-carries : goal.returns-in-Err-clause-carries
returns-in-Err-clause-carries g c = λ input err link input_tells err_tells link_tells seen.
    let failed = c.in-Err.ensures in
    let named : c.in-Ok.name ≡ c.args.file = c.in-Ok.ensures ∙ c.as_str.ensures in
    let old = seen_of (g.S.Store.seen c.args.store.now) input (g.O.Sink.seen c.args.out.now) err link in
    told_in_part c.args.file _ _ _ _ _ c.in-Err.refusal failed.unwritten failed.later (omega arith)
    (λ told out_told. appends_nothing _ _ _ refl)
    (λ stated.
    unreported_reason c.args.file (value_in c.args.value.now) _ old (g.S.Store.seen c.report_length.new.store) stated
    c.in-Err.refusal.cause seen (rw named at failed.refused))
    (rw named at failed.may) failed.placed
