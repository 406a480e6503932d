use Rattle.std.proofs.Common.{subst, ◌∙◌}
use Rattle.network.proofs.EventsLemmas.{keeps_start-then}
use Rattle.quota_client.specs.declared.exchange.Received.{Received}
use Rattle.quota_client.specs.Receiving.{Receives}
use Rattle.quota_client.proofs.ExchangeLemmas.{attempts-answer, attempts-quiet, passes-more}
use Rattle.quota_client.proofs.exchange.await_reply.Goals as goal

pub returns-in-Quiet-clause-attempted : goal.returns-in-Quiet-clause-attempted
returns-in-Quiet-clause-attempted g c = λ told.
    let P = g.P.Peer in
    let one = subst (λ (r : Received). Receives c.args.xid (P.seen c.loop-other.peer) (P.seen c.receive.new.peer) r)
    c.in-Quiet.is (c.in_ok-receive.ensures.received told) in
    attempts-quiet c.args.xid c.loop-other._other (P.seen c.args.peer.now) (P.seen c.loop-other.peer)
    (P.seen c.receive.new.peer) c.loop-other-test.true (c.loop-other.invariant.passes told) one c.receive.ensures.sent

pub returns-in-Answer-clause-attempted : goal.returns-in-Answer-clause-attempted
returns-in-Answer-clause-attempted g c = λ told.
    let P = g.P.Peer in
    let one = subst (λ (r : Received). Receives c.args.xid (P.seen c.loop-other.peer) (P.seen c.receive.new.peer) r)
    c.in-Answer.is (c.in_ok-receive.ensures.received told) in
    attempts-answer c.args.xid c.loop-other._other (P.seen c.args.peer.now) (P.seen c.loop-other.peer)
    (P.seen c.receive.new.peer) c.in-Answer.reply c.loop-other-test.true (c.loop-other.invariant.passes told) one
    c.receive.ensures.sent

pub loop-other-preserved : goal.loop-other-preserved
loop-other-preserved g c =
    let P = g.P.Peer in
    record {
      passes = λ told.
          let one = subst (λ (r : Received). Receives c.args.xid (P.seen c.loop-other.peer) (P.seen c.receive.new.peer)
          r) c.in-Other.is (c.in_ok-receive.ensures.received told) in
          passes-more c.args.xid c.loop-other._other (P.seen c.args.peer.now) (P.seen c.loop-other.peer)
          (P.seen c.receive.new.peer) (c.loop-other.invariant.passes told) one c.receive.ensures.sent;
      steady = c.in_ok-receive.ensures.steady ∙ c.loop-other.invariant.steady;
      leaves = keeps_start-then _ _ _ c.loop-other.invariant.leaves c.receive.ensures.leaves;
    }
