use Rattle.std.proofs.Common.{◌≡◌, ◌*◌, ◌-◌, ◌≤◌, [], IsTrue, Ok, Some, length, take}
use Rattle.network.specs.Connections.{ChangesCurrent}
use Rattle.quota_map.specs.AnyFile.{any_get_reads}
use Rattle.rquota_serve.specs.Exports.{Serves}
use Rattle.rquota_serve.specs.Looking.{LooksUpIn, exports_at}
use Rattle.rpc_record.specs.Hearing.{Answers, awaited_at}
use Rattle.rpc_record.proofs.hearing.hear.Given as goal

abbrev pub invariant-loop-at : goal.invariant-loop-at
invariant-loop-at g l =
    let S = g.S.Store in
    let C = g.C.Conns in
    record {
      within : l.at ≤ length l.piece;
      heard : IsTrue C.tells
          → Answers (Serves S.tells (S.seen l.fn.store).files l.fn.exports) (take l.at l.piece)
          (awaited_at l.now l.fn.marker) (awaited_at l.now l.marker) (C.seen l.fn.conns).current
          (C.seen l.conns).current;
      up : LooksUpIn Some (exports_at S.tells (S.seen l.fn.store) l.fn.exports)
          (exports_at S.tells (S.seen l.store) l.exports) (any_get_reads * l.at) (Ok (tt {0}));
      changes : ChangesCurrent (C.seen l.fn.conns) (C.seen l.conns);
      as_before : C.is_open l.conns ≡ C.is_open l.fn.conns;
      commits : S.commits [] l.fn.store l.store;
    }

abbrev pub decreases-loop-at : goal.decreases-loop-at
decreases-loop-at g l = length l.piece - l.at
