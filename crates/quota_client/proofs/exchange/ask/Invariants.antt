use Rattle.std.proofs.Common.{◌≡◌, IsTrue}
use Rattle.network.specs.Events.{KeepsStart}
use Rattle.quota_client.specs.Receiving.{HasNoAnswer}
use Rattle.quota_client.proofs.exchange.ask.Given as goal

abbrev pub invariant-loop-attempt : goal.invariant-loop-attempt
invariant-loop-attempt g l =
    let P = g.P.Peer in
    record {
      unanswered : IsTrue P.tells → HasNoAnswer l.xid l._attempt l.call (P.seen l.fn.peer) (P.seen l.peer);
      steady : (P.seen l.peer).faults ≡ (P.seen l.fn.peer).faults;
      leaves : KeepsStart (P.seen l.fn.peer) (P.seen l.peer);
    }
