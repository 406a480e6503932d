use Rattle.std.proofs.Common.{[], Err, refl, ◌∙◌, arith}
use Rattle.std.proofs.lemmas.Result.{err_from_is_err_and}
use Rattle.quota_map.specs.AnyFile.{any_get_reads}
use Rattle.rquota_serve.specs.ExportedValues.{ExportedValues}
use Rattle.rquota_serve.specs.Exports.{Serves}
use Rattle.rquota_serve.specs.Looking.{ExportsAt, exports_at}
use Rattle.rquota_serve.specs.Refusal.{file_in}
use Rattle.rquota_serve.proofs.ExportLemmas.{on-err}
use Rattle.rquota_serve.proofs.LookingLemmas.{looks_in-more, looks_in-none}
use Rattle.rquota_serve.proofs.ServingLemmas.{reads-none, reads-then, served-before, served-none, served-then}
use Rattle.rquota_serve.proofs.ServingLemmas.{stopped-before, stopped-then}
use Rattle.rquota_serve.proofs.serving.serve.Goals as goal

pub loop-call-init : goal.loop-call-init
loop-call-init g c = record {
  served = λ told. served-none _ _;
  up = looks_in-none file_in _ _ (tt {0});
  reads = λ told. reads-none _ _ _;
  started = refl;
  later = omega arith;
  commits = g.S.Store.commits_nothing [] _;
}

pub loop-call-preserved : goal.loop-call-preserved
loop-call-preserved g c =
    let S = g.S.Store in
    let L = g.L.Link in
    let so_far = c.loop-call.invariant in
    let one = c.in_ok-serve_one.ensures in
    let before : ExportedValues → Type 0 = Serves S.tells (S.seen c.args.store.now).files c.args.exports.now in
    let after : ExportedValues → Type 0 = Serves S.tells (S.seen c.loop-call.store).files c.loop-call.exports in
    record {
      served = λ told.
          served-then before c.loop-call._call (L.seen c.args.link.now) (L.seen c.loop-call.link)
          (L.seen c.serve_one.new.link) (so_far.served told)
          (served-before before after 1 (L.seen c.loop-call.link) (L.seen c.serve_one.new.link) so_far.up.stays
          (one.served told));
      up = looks_in-more file_in file_in _ _ _ any_get_reads c.loop-call._call _ (tt {0}) _ (omega arith)
          so_far.up one.looks;
      reads = λ told. reads-then any_get_reads _ _ _ _ _ _ (so_far.reads told) (one.reads told);
      started = one.started ∙ so_far.started;
      later = omega (arith, so_far.later, one.later);
      commits = S.commits_on [] [] _ _ _ so_far.commits one.commits;
    }

pub returns-in_err-serve_one-clause-stopped : goal.returns-in_err-serve_one-clause-stopped
returns-in_err-serve_one-clause-stopped g c =
    let S = g.S.Store in
    let L = g.L.Link in
    let so_far = c.loop-call.invariant in
    let before : ExportedValues → Type 0 = Serves S.tells (S.seen c.args.store.now).files c.args.exports.now in
    let after : ExportedValues → Type 0 = Serves S.tells (S.seen c.loop-call.store).files c.loop-call.exports in
    on-err _ c.from_residual.result (λ told.
    stopped-then before c.loop-call._call c.args.calls (L.seen c.args.link.now) (L.seen c.loop-call.link)
    (L.seen c.serve_one.new.link) c.loop-call-test.true (so_far.served told)
    (stopped-before before after 1 (L.seen c.loop-call.link) (L.seen c.serve_one.new.link) so_far.up.stays
    (c.in_err-serve_one.ensures.stopped told)))

pub returns-in_err-serve_one-clause-looks : goal.returns-in_err-serve_one-clause-looks
returns-in_err-serve_one-clause-looks g c =
    let S = g.S.Store in
    let p = err_from_is_err_and c.from_residual.result c.from_residual.ensures.1 in
    let before : ExportsAt = exports_at S.tells (S.seen c.args.store.now) c.args.exports.now in
    let so_far : ExportsAt = exports_at S.tells (S.seen c.loop-call.store) c.loop-call.exports in
    let after : ExportsAt = exports_at S.tells (S.seen c.serve_one.new.store) c.serve_one.new.exports in
    rw (p.1, p.2)
    (looks_in-more file_in file_in before so_far after any_get_reads c.loop-call._call c.args.calls (tt {0})
    (Err c.in_err-serve_one.field-0.0) (omega (arith, c.loop-call-test.true)) c.loop-call.invariant.up
    c.in_err-serve_one.ensures.looks)

pub returns-in_err-serve_one-clause-reads : goal.returns-in_err-serve_one-clause-reads
returns-in_err-serve_one-clause-reads g c = λ told.
    reads-then any_get_reads _ _ _ _ _ _ (c.loop-call.invariant.reads told) (c.in_err-serve_one.ensures.reads told)
