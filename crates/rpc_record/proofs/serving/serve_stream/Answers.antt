use Rattle.std.proofs.Common.{[], Err, arith}
use Rattle.std.proofs.lemmas.Result.{err_from_is_err_and}
use Rattle.rquota_serve.specs.ExportedValues.{ExportedValues}
use Rattle.rquota_serve.specs.Exports.{Serves}
use Rattle.rquota_serve.specs.Looking.{ExportsAt, exports_at}
use Rattle.rquota_serve.proofs.ExportLemmas.{on-err}
use Rattle.rquota_serve.proofs.LookingLemmas.{looks_in-more}
use Rattle.rpc_record.specs.Faults.{file_in}
use Rattle.rpc_record.specs.Serving.{connection_reads}
use Rattle.rpc_record.proofs.ServingLemmas.{keeps_listening-then, serves-before, serves-then, stops-before, stops-then}
use Rattle.rpc_record.proofs.serving.serve_stream.Goals as goal

pub returns-in_err-serve_next-clause-stopped : goal.returns-in_err-serve_next-clause-stopped
returns-in_err-serve_next-clause-stopped g c =
    let S = g.S.Store in
    let C = g.C.Conns in
    let so_far = c.loop-connection.invariant in
    let before : ExportedValues → Type 0 = Serves S.tells (S.seen c.args.store.now).files c.args.exports.now in
    let after : ExportedValues → Type 0 =
    Serves S.tells (S.seen c.loop-connection.store).files c.loop-connection.exports in
    on-err _ c.from_residual.result (λ told.
    stops-then before c.loop-connection._connection 1 c.args.connections (C.seen c.args.conns.now)
    (C.seen c.loop-connection.conns) (C.seen c.serve_next.new.conns) (omega (arith, c.loop-connection-test.true))
    (so_far.served told)
    (stops-before before after 1 (C.seen c.loop-connection.conns) (C.seen c.serve_next.new.conns) so_far.up.stays
    (c.in_err-serve_next.ensures.stopped told)))

pub returns-in_err-serve_next-clause-looks : goal.returns-in_err-serve_next-clause-looks
returns-in_err-serve_next-clause-looks g c =
    let S = g.S.Store in
    let p = err_from_is_err_and c.from_residual.result c.from_residual.ensures.1 in
    let before : ExportsAt = exports_at S.tells (S.seen c.args.store.now) c.args.exports.now in
    let so_far : ExportsAt = exports_at S.tells (S.seen c.loop-connection.store) c.loop-connection.exports in
    let after : ExportsAt = exports_at S.tells (S.seen c.serve_next.new.store) c.serve_next.new.exports in
    rw (p.1, p.2)
    (looks_in-more file_in file_in before so_far after connection_reads c.loop-connection._connection c.args.connections
    (tt {0}) (Err c.in_err-serve_next.field-0.0) (omega (arith, c.loop-connection-test.true))
    c.loop-connection.invariant.up c.in_err-serve_next.ensures.looks)

pub loop-connection-preserved : goal.loop-connection-preserved
loop-connection-preserved g c =
    let S = g.S.Store in
    let C = g.C.Conns in
    let so_far = c.loop-connection.invariant in
    let one = c.in_ok-serve_next.ensures in
    let before : ExportedValues → Type 0 = Serves S.tells (S.seen c.args.store.now).files c.args.exports.now in
    let after : ExportedValues → Type 0 =
    Serves S.tells (S.seen c.loop-connection.store).files c.loop-connection.exports in
    record {
      served = λ told.
          serves-then before c.loop-connection._connection 1 (C.seen c.args.conns.now) (C.seen c.loop-connection.conns)
          (C.seen c.serve_next.new.conns) (so_far.served told)
          (serves-before before after 1 (C.seen c.loop-connection.conns) (C.seen c.serve_next.new.conns) so_far.up.stays
          (one.served told));
      shut = one.open;
      up = looks_in-more file_in file_in _ _ _ connection_reads c.loop-connection._connection _ (tt {0}) _ (omega arith)
          so_far.up one.looks;
      leaves = keeps_listening-then _ _ _ so_far.leaves one.leaves;
      commits = S.commits_on [] [] _ _ _ so_far.commits one.commits;
    }
