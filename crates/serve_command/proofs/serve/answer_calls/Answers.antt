use Rattle.std.proofs.Common.{◌+◌, ◌*◌, ◌≤◌, ℕ, sym, subst, ◌∙◌}
use Rattle.outside.proofs.FrameLemmas.{syncs-none}
use Rattle.quota_map.specs.Asked.{asked_of}
use Rattle.quota_map.proofs.AnyLemmas.{any_few_gets}
use Rattle.outside.specs.Count.{Rose}
use Rattle.run_steps.specs.Done.{seen_of, tells_of}
use Rattle.run_steps.proofs.StartingLemmas.{carries_starting, with_start}
use Rattle.rquota_serve.specs.Exports.{Serves, exports_seen}
use Rattle.rquota_serve.proofs.LookingLemmas.{on_file, serve_fault}
use Rattle.serve_command.specs.Serve.{AnsweringSteps}
use Rattle.serve_steps.specs.Exporting.{serve_uses}
use Rattle.serve_command.proofs.AnsweringLemmas.{nothing_stopped, of_passed, of_refused, served_carried}
use Rattle.serve_command.proofs.AnsweringLemmas.{stopped_carried, unstarted_carried, with_link}
use Rattle.serve_command.proofs.serve.answer_calls.Goals as goal

pub returns-then-is_err-clause-carries : goal.returns-then-is_err-clause-carries
returns-then-is_err-clause-carries g c = λ exported input out err input_tells out_tells err_tells serves.
    let S = g.S.Store in
    let L = g.L.Link in
    let rose : Rose (L.seen c.args.link.now).faults (L.seen c.start.new.self).faults =
    of_refused _ c.start.result (sym c.is_err.ensures.value ∙ c.if-is_err.true) c.start.ensures.cause in
    rw c.of.ensures
    (unstarted_carried exported c.args.calls c.args.port (asked_of c.args.format) c.args.file
    (tells_of S.tells input_tells out_tells err_tells L.tells)
    (seen_of (S.seen c.args.store.now) input out err (L.seen c.args.link.now)) (L.seen c.start.new.self)
    c.start.ensures.left c.start.ensures.answers
    (of_refused _ c.start.result (sym c.is_err.ensures.value ∙ c.if-is_err.true) c.start.ensures.fault) rose
    c.start.ensures.later)

pub returns-then-is_err-clause-stopped : goal.returns-then-is_err-clause-stopped
returns-then-is_err-clause-stopped g c = λ told.
    nothing_stopped _ c.args.calls (g.L.Link.seen c.args.link.now) (g.L.Link.seen c.start.new.self) c.requires.some
    c.start.ensures.left c.start.ensures.answers

pub returns-in-Ok-clause-carries : goal.returns-in-Ok-clause-carries
returns-in-Ok-clause-carries g c = λ exported input out err input_tells out_tells err_tells serves.
    let S = g.S.Store in
    let L = g.L.Link in
    let served = c.in-Ok.ensures in
    let tells = tells_of S.tells input_tells out_tells err_tells L.tells in
    let old = seen_of (S.seen c.args.store.now) input out err (L.seen c.args.link.now) in
    let started = L.seen c.start.new.self in
    carries_starting c.args.port (AnsweringSteps exported c.args.calls) serve_uses _ tells old started
    (with_link old (S.seen c.serve.new.store) (L.seen c.serve.new.link)) _
    (record {
      left = c.start.ensures.left;
      answers = c.start.ensures.answers;
      started = of_passed _ c.start.result (sym c.is_err.ensures.value ∙ c.if-is_err.false) c.start.ensures.started;
      later = c.start.ensures.later;
    })
    (served_carried exported c.args.calls _ (Serves S.tells (S.seen c.args.store.now).files c.args.opened.now) tells
    (with_start old started) (S.seen c.serve.new.store) (L.seen c.serve.new.link)
    (record {
      files = served.looks.leaves.files;
      writes = served.looks.leaves.writes;
      started = served.started;
      store_later = served.looks.leaves.later;
      link_later = served.later;
    })
    serves served.served)

pub returns-in-Err-clause-carries : goal.returns-in-Err-clause-carries
returns-in-Err-clause-carries g c = λ exported input out err input_tells out_tells err_tells serves.
    let S = g.S.Store in
    let L = g.L.Link in
    let stopped = c.in-Err.ensures in
    let tells = tells_of S.tells input_tells out_tells err_tells L.tells in
    let old = seen_of (S.seen c.args.store.now) input out err (L.seen c.args.link.now) in
    let started = L.seen c.start.new.self in
    rw (c.of-in-Err.ensures, c.serve_cause.ensures)
    (carries_starting c.args.port (AnsweringSteps exported c.args.calls) serve_uses _ tells old started
    (with_link old (S.seen c.serve.new.store) (L.seen c.serve.new.link)) _
    (record {
      left = c.start.ensures.left;
      answers = c.start.ensures.answers;
      started = of_passed _ c.start.result (sym c.is_err.ensures.value ∙ c.if-is_err.false) c.start.ensures.started;
      later = c.start.ensures.later;
    })
    (stopped_carried exported c.args.calls (asked_of c.args.format) c.args.file (exports_seen c.args.opened.now)
    c.in-Err.fault (Serves S.tells (S.seen c.args.store.now).files c.args.opened.now) tells
    (with_start old started) (S.seen c.serve.new.store) (L.seen c.serve.new.link)
    (record {
      files = stopped.looks.leaves.files;
      writes = stopped.looks.leaves.writes;
      started = stopped.started;
      store_later = stopped.looks.leaves.later;
      link_later = stopped.later;
    })
    serves stopped.stopped
    (serve_fault _ _ _ _ _ c.in-Err.fault stopped.unlinked stopped.looks.refused) c.requires.asked
    (on_file _ c.in-Err.fault stopped.looks.may)))

pub returns-in-Ok-clause-reads : goal.returns-in-Ok-clause-reads
returns-in-Ok-clause-reads g c =
    let S = g.S.Store in
    subst (λ (each : ℕ). (S.seen c.serve.new.store).reads ≤ (S.seen c.args.store.now).reads + each * c.args.calls)
    any_few_gets c.in-Ok.ensures.looks.reads

pub returns-then-is_err-clause-synced : goal.returns-then-is_err-clause-synced
returns-then-is_err-clause-synced g c = syncs-none _

pub returns-in-Ok-clause-synced : goal.returns-in-Ok-clause-synced
returns-in-Ok-clause-synced g c = c.in-Ok.ensures.looks.synced

pub returns-in-Err-clause-synced : goal.returns-in-Err-clause-synced
returns-in-Err-clause-synced g c = c.in-Err.ensures.looks.synced
