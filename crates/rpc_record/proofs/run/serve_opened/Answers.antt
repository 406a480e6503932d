use Rattle.std.proofs.Common.{inr}
use Rattle.quota_map.specs.Asked.{asked_of}
use Rattle.rquota_serve.specs.Exports.{Serves, exports_seen}
use Rattle.rpc_record.specs.Run.{seen_of}
use Rattle.rpc_record.proofs.RunLemmas.{listens_and_serves, listens_and_stops, serving_may, serving_reason}
use Rattle.rpc_record.proofs.run.serve_opened.Goals as goal

pub returns-in-Ok-serve_stream-clause-ends : goal.returns-in-Ok-serve_stream-clause-ends
returns-in-Ok-serve_stream-clause-ends g c = λ told.
    let S = g.S.Store in
    let C = g.C.Conns in
    listens_and_serves (Serves S.tells (S.seen c.args.store.now).files c.args.opened.now) c.args.port c.args.connections
    (C.seen c.args.conns.now) (C.seen c.listen.new.self) (C.seen c.serve_stream.new.conns)
    (c.in-Ok.ensures.listened told) c.listen.ensures.leaves c.serve_stream.ensures.leaves
    (c.in-Ok-serve_stream.ensures.served told)

pub returns-in-Err-serve_stream-clause-ends : goal.returns-in-Err-serve_stream-clause-ends
returns-in-Err-serve_stream-clause-ends g c =
    let S = g.S.Store in
    let C = g.C.Conns in
    let serves = Serves S.tells (S.seen c.args.store.now).files c.args.opened.now in
    let stopped = c.in-Err-serve_stream.ensures in
    rw (c.of.ensures, c.stream_cause.ensures)
    (inr (record {
      stops = λ told.
          listens_and_stops serves c.args.port c.args.connections (C.seen c.args.conns.now) (C.seen c.listen.new.self)
          (C.seen c.serve_stream.new.conns)
          (c.in-Ok.ensures.listened told) c.listen.ensures.leaves c.serve_stream.ensures.leaves (stopped.stopped told);
      reason =
          serving_reason serves (seen_of (S.seen c.args.store.now) (C.seen c.args.conns.now))
          (seen_of (S.seen c.serve_stream.new.store) (C.seen c.serve_stream.new.conns))
          (C.seen c.listen.new.self).listener_faults
          c.in-Err-serve_stream.fault c.listen.ensures.leaves.later stopped.unaccepted stopped.looks.refused;
    }))

pub returns-in-Err-serve_stream-clause-may : goal.returns-in-Err-serve_stream-clause-may
returns-in-Err-serve_stream-clause-may g c =
    let stopped = c.in-Err-serve_stream.ensures in
    rw (c.of.ensures, c.stream_cause.ensures)
    (serving_may (asked_of c.args.format) c.args.file (exports_seen c.args.opened.now) c.in-Err-serve_stream.fault _ _ _
    c.requires.asked stopped.looks.may stopped.looks.refused)
