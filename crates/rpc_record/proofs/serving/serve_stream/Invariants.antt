use Rattle.std.proofs.Common.{◌≡◌, ◌*◌, [], false, IsTrue, Ok}
use Rattle.network.specs.Connections.{KeepsListening}
use Rattle.rquota_serve.specs.Exports.{Serves}
use Rattle.rquota_serve.specs.Looking.{LooksUpIn, exports_at}
use Rattle.rpc_record.specs.Faults.{file_in}
use Rattle.rpc_record.specs.Serving.{ServesConns, connection_reads}
use Rattle.rpc_record.proofs.serving.serve_stream.Given as goal

abbrev pub invariant-loop-connection : goal.invariant-loop-connection
invariant-loop-connection g l =
    let S = g.S.Store in
    let C = g.C.Conns in
    record {
      served : IsTrue C.tells
          → ServesConns (Serves S.tells (S.seen l.fn.store).files l.fn.exports) l._connection (C.seen l.fn.conns)
          (C.seen l.conns);
      shut : C.is_open l.conns ≡ false;
      up : LooksUpIn file_in (exports_at S.tells (S.seen l.fn.store) l.fn.exports)
          (exports_at S.tells (S.seen l.store) l.exports) (connection_reads * l._connection) (Ok (tt {0}));
      leaves : KeepsListening (C.seen l.fn.conns) (C.seen l.conns);
      commits : S.commits [] l.fn.store l.store;
    }
