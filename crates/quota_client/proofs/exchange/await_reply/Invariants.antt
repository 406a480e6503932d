use Rattle.std.proofs.Common.{◌≡◌, IsTrue}
use Rattle.network.specs.Events.{KeepsStart}
use Rattle.quota_client.specs.Receiving.{PassesOver}
use Rattle.quota_client.proofs.exchange.await_reply.Given as goal

abbrev pub invariant-loop-other : goal.invariant-loop-other
invariant-loop-other g l =
    let P = g.P.Peer in
    record {
      passes : IsTrue P.tells → PassesOver l.xid l._other (P.seen l.fn.peer) (P.seen l.peer);
      steady : (P.seen l.peer).faults ≡ (P.seen l.fn.peer).faults;
      leaves : KeepsStart (P.seen l.fn.peer) (P.seen l.peer);
    }
