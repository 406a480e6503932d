use Rattle.std.proofs.Common.{◌≡◌, ◌*◌, ◌-◌, ◌≤◌, [], IsTrue, Ok, Some}
use Rattle.network.specs.Connections.{Arrival, ChangesCurrent, accepted}
use Rattle.quota_map.specs.AnyFile.{any_get_reads}
use Rattle.rquota_serve.specs.Exports.{Serves}
use Rattle.rquota_serve.specs.Looking.{LooksUpIn, exports_at}
use Rattle.rpc_record.proofs.ConnectionLemmas.{IsHearing}
use Rattle.rpc_record.proofs.connection.serve_connection.Given as goal

abbrev pub invariant-loop-left : goal.invariant-loop-left
invariant-loop-left g l =
    let S = g.S.Store in
    let C = g.C.Conns in
    record {
      within : l.left ≤ 16777216;
      hearing : IsTrue C.tells → (arrival : Arrival) → l.now ≡ arrival.moment
          → (C.seen l.fn.conns).current ≡ Some (accepted arrival)
          → IsHearing (Serves S.tells (S.seen l.fn.store).files l.fn.exports) l.now arrival l.marker l.left
          (C.seen l.conns).current;
      up : LooksUpIn Some (exports_at S.tells (S.seen l.fn.store) l.fn.exports)
          (exports_at S.tells (S.seen l.store) l.exports) (any_get_reads * (16777216 - l.left)) (Ok (tt {0}));
      changes : ChangesCurrent (C.seen l.fn.conns) (C.seen l.conns);
      as_before : C.is_open l.conns ≡ C.is_open l.fn.conns;
      commits : S.commits [] l.fn.store l.store;
    }

abbrev pub decreases-loop-left : goal.decreases-loop-left
decreases-loop-left g l = l.left
