use Rattle.std.proofs.Common.{sym, ◌∙◌}
use Rattle.rquota_serve.specs.Exports.{Serves}
use Rattle.rquota_serve.proofs.ExportLemmas.{on-err}
use Rattle.rpc_record.proofs.ServingLemmas.{begun-one, served-one, unaccepted}
use Rattle.rpc_record.proofs.serving.serve_next.Goals as goal

pub returns-in_err-now-clause-stopped : goal.returns-in_err-now-clause-stopped
returns-in_err-now-clause-stopped g c =
    let C = g.C.Conns in
    on-err _ c.from_residual.result (λ told.
    unaccepted _ (C.seen c.args.conns.now) (C.seen c.accept.new.self) (c.in_err-now.ensures.fault told)
    c.accept.ensures.closed
    (sym (g.met.C.Conns.told_open c.accept.new.self told) ∙ c.in_err-now.ensures.opens))

pub returns-in_err-serve_connection-clause-stopped : goal.returns-in_err-serve_connection-clause-stopped
returns-in_err-serve_connection-clause-stopped g c =
    let C = g.C.Conns in
    on-err _ c.from_residual-in_err-serve_connection.result (λ told.
    let accepts = c.in_ok-now.ensures.accepted told in
    begun-one _ c.in_ok-now.now (C.seen c.args.conns.now) (C.seen c.accept.new.self)
    (C.seen c.serve_connection.new.conns) accepts c.accept.ensures.closed
    (c.in_err-serve_connection.ensures.stopped told accepts.arrival accepts.arrived accepts.current)
    c.serve_connection.ensures.leaves)

pub returns-clause-served : goal.returns-clause-served
returns-clause-served g c = λ told.
    let S = g.S.Store in
    let C = g.C.Conns in
    let accepts = c.in_ok-now.ensures.accepted told in
    served-one (Serves S.tells (S.seen c.args.store.now).files c.args.exports.now) c.in_ok-now.now
    (C.seen c.args.conns.now) (C.seen c.accept.new.self) (C.seen c.serve_connection.new.conns) (C.seen c.close.new.self)
    accepts c.accept.ensures.closed
    (c.in_ok-serve_connection.ensures.served told accepts.arrival accepts.arrived accepts.current)
    c.serve_connection.ensures.leaves (c.close.ensures.closed told) c.close.ensures.left
