use Rattle.std.proofs.Common.{◌≡◌, [], inl, inr, refl, subst, IsTrue, arith}
use Rattle.std.proofs.lemmas.Result.{on_ok_weaker}
use Rattle.outside.proofs.FrameLemmas.{syncs-less, syncs-then}
use Rattle.refusals.specs.Refusals.{refusal_of}
use Rattle.refusals.specs.declared.cause.Cause.TheVariants.{Memory}
use Rattle.run_steps.specs.Done.{seen_of, tells_of}
use Rattle.run_steps.specs.Steps.{Starting}
use Rattle.run_steps.proofs.PhaseLemmas.{carries_more, memory_no_output, nothing_carried}
use Rattle.rquota_serve.specs.ExportedValues.{ExportedValues, nothing_exported}
use Rattle.rquota_serve.specs.Exports.{Serves}
use Rattle.rquota_serve.proofs.ServingLemmas.{stopped-before}
use Rattle.serve_command.specs.Serve.{AnsweringSteps, ServeMayRefuse, ServeSteps}
use Rattle.serve_steps.specs.Exporting.{AnsweringMayRefuse, AreExported, ExportingMayRefuse, first_file, serve_uses}
use Rattle.serve_command.proofs.AnsweringLemmas.{nothing_stopped}
use Rattle.serve_steps.proofs.ExportingLemmas.{exported_once, if_refused, serves_nothing}
use Rattle.serve_command.proofs.serve.serve_files.Goals as goal
use Rattle.quota_map.specs.Asked.{asked_of}

pub returns-in-Ok-first_file-clause-carries : goal.returns-in-Ok-first_file-clause-carries
returns-in-Ok-first_file-clause-carries g c = λ input out err input_tells out_tells err_tells invocation.
    let S = g.S.Store in
    let L = g.L.Link in
    let tells = tells_of S.tells input_tells out_tells err_tells L.tells in
    let old = seen_of (S.seen c.args.store.now) input out err (L.seen c.args.link.now) in
    let new = seen_of (S.seen c.answer_calls.new.store) input out err (L.seen c.answer_calls.new.link) in
    let opened = (rw c.as_slice.ensures at c.in-Ok.ensures.opened) nothing_exported
    (λ told. serves_nothing S.tells (S.seen c.args.store.now).files c.new-opened.result c.new-opened.ensures.empty) in
    let file = c.in-Ok-first_file.file in
    let named : file ≡ first_file c.args.exports = rw c.as_slice-in-Ok.ensures at c.in-Ok-first_file.ensures.copied in
    carries_more (ServeSteps (asked_of c.args.format) c.args.calls c.args.port c.args.exports invocation) serve_uses
    (AnsweringMayRefuse (asked_of c.args.format) file) (ServeMayRefuse (asked_of c.args.format) c.args.exports) tells
    old new c.answer_calls.result
    (λ cause said may. inr (rw named at may))
    (opened.3 (λ (exported : ExportedValues). Starting c.args.port (AnsweringSteps exported c.args.calls)) file input
    out err (L.seen c.args.link.now) input_tells out_tells err_tells L.tells new c.answer_calls.result
    (c.answer_calls.ensures.carries opened.0 input out err input_tells out_tells err_tells opened.2))

pub returns-in-Ok-first_file-clause-stopped : goal.returns-in-Ok-first_file-clause-stopped
returns-in-Ok-first_file-clause-stopped g c =
    let S = g.S.Store in
    let L = g.L.Link in
    let files = (S.seen c.args.store.now).files in
    let opened = (rw c.as_slice.ensures at c.in-Ok.ensures.opened) nothing_exported
    (λ told. serves_nothing S.tells files c.new-opened.result c.new-opened.ensures.empty) in
    let serves : ExportedValues → Type 0 = Serves S.tells (S.seen c.add_all.new.store).files c.add_all.new.exports in
    if_refused _ _ c.answer_calls.result
    (λ refusal stopped cause told.
    stopped-before (λ (exported : ExportedValues). IsTrue S.tells
    × AreExported (asked_of c.args.format) files c.args.exports nothing_exported exported) serves c.args.calls
    (L.seen c.args.link.now) (L.seen c.answer_calls.new.link)
    (λ exported is. subst serves
    (exported_once (asked_of c.args.format) files c.args.exports nothing_exported opened.0 exported (opened.1 is.0)
    is.1) (opened.2 is.0))
    (stopped told))
    c.answer_calls.ensures.stopped

pub returns-in-Ok-clause-carries : goal.returns-in-Ok-clause-carries
returns-in-Ok-clause-carries g c = λ input out err input_tells out_tells err_tells invocation.
    let S = g.S.Store in
    let L = g.L.Link in
    let tells = tells_of S.tells input_tells out_tells err_tells L.tells in
    let old = seen_of (S.seen c.args.store.now) input out err (L.seen c.args.link.now) in
    let new = seen_of (S.seen c.add_all.new.store) input out err (L.seen c.args.link.now) in
    let opened = (rw c.as_slice.ensures at c.in-Ok.ensures.opened) nothing_exported
    (λ told. serves_nothing S.tells (S.seen c.args.store.now).files c.new-opened.result c.new-opened.ensures.empty) in
    let first = first_file c.args.exports in
    rw c.in-Err-first_file.ensures.wanting
    (carries_more (ServeSteps (asked_of c.args.format) c.args.calls c.args.port c.args.exports invocation) serve_uses
    (AnsweringMayRefuse (asked_of c.args.format) first)
    (ServeMayRefuse (asked_of c.args.format) c.args.exports) tells old new _
    (λ cause said may. inr may)
    (opened.3 (λ (exported : ExportedValues). Starting c.args.port (AnsweringSteps exported c.args.calls)) first input
    out err (L.seen c.args.link.now) input_tells out_tells err_tells L.tells new _
    (nothing_carried (Starting c.args.port (AnsweringSteps opened.0 c.args.calls)) serve_uses
    (AnsweringMayRefuse (asked_of c.args.format) first) tells new (refusal_of Memory []) memory_no_output tt tt
    (record { line = λ no. refl; input_line = λ no. refl }))))

pub returns-clause-carries : goal.returns-clause-carries
returns-clause-carries g c = λ input out err input_tells out_tells err_tells invocation.
    let S = g.S.Store in
    let L = g.L.Link in
    let tells = tells_of S.tells input_tells out_tells err_tells L.tells in
    let old = seen_of (S.seen c.args.store.now) input out err (L.seen c.args.link.now) in
    let new = seen_of (S.seen c.add_all.new.store) input out err (L.seen c.args.link.now) in
    carries_more (ServeSteps (asked_of c.args.format) c.args.calls c.args.port c.args.exports invocation) serve_uses
    (ExportingMayRefuse (asked_of c.args.format) c.args.exports)
    (ServeMayRefuse (asked_of c.args.format) c.args.exports) tells old new _
    (λ cause said may. inl may)
    ((rw c.as_slice.ensures at c.in-Err.ensures.unopened) nothing_exported
    (λ (exported : ExportedValues). Starting c.args.port (AnsweringSteps exported c.args.calls)) input out err
    (L.seen c.args.link.now) input_tells out_tells err_tells L.tells
    (λ told. serves_nothing S.tells (S.seen c.args.store.now).files c.new-opened.result c.new-opened.ensures.empty))

pub returns-clause-stopped : goal.returns-clause-stopped
returns-clause-stopped g c = λ cause told.
    nothing_stopped _ c.args.calls (g.L.Link.seen c.args.link.now) (g.L.Link.seen c.args.link.now)
    c.requires.some refl refl

pub returns-in-Ok-first_file-clause-reads : goal.returns-in-Ok-first_file-clause-reads
returns-in-Ok-first_file-clause-reads g c =
    on_ok_weaker c.answer_calls.result (λ few told.
    let opening = (rw c.as_slice.ensures at c.in-Ok.ensures.reads) told in
    omega (arith, few, opening)) c.answer_calls.ensures.reads

pub returns-in-Ok-first_file-clause-synced : goal.returns-in-Ok-first_file-clause-synced
returns-in-Ok-first_file-clause-synced g c = syncs-then _ _ _ c.in-Ok.ensures.synced c.answer_calls.ensures.synced

pub returns-in-Ok-clause-synced : goal.returns-in-Ok-clause-synced
returns-in-Ok-clause-synced g c = syncs-less _ _ c.in-Ok.ensures.synced

pub returns-clause-synced : goal.returns-clause-synced
returns-clause-synced g c = c.in-Err.ensures.synced
