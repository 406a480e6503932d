use Rattle.std.proofs.Common.{Option, subst, ◌∙◌}
use Rattle.std.proofs.lemmas.Result.{err_from_is_err_and}
use Rattle.network.proofs.EventsLemmas.{keeps_start-then}
use Rattle.rquota_xdr.specs.declared.reply.Reply.{Reply}
use Rattle.quota_client.specs.Receiving.{Attempts}
use Rattle.quota_client.proofs.ExchangeLemmas.{begins-stopped, exchanges-answer, unanswered-more}
use Rattle.quota_client.proofs.exchange.ask.Goals as goal

pub returns-in_err-reply-clause-begun : goal.returns-in_err-reply-clause-begun
returns-in_err-reply-clause-begun g c =
    let P = g.P.Peer in
    let p = err_from_is_err_and c.from_residual-in_err-reply.result c.from_residual-in_err-reply.ensures.1 in
    rw p.1 (λ told.
    begins-stopped c.args.xid c.loop-attempt._attempt c.args.call.now (P.seen c.args.peer.now)
    (P.seen c.loop-attempt.peer) (P.seen c.send.new.self) (P.seen c.await_reply.new.peer) c.loop-attempt-test.true
    (c.loop-attempt.invariant.unanswered told) c.send.ensures.left (c.in_ok-send.ensures.sent told)
    (c.in_err-reply.ensures.stopped told))

pub returns-in-Some-clause-exchanged : goal.returns-in-Some-clause-exchanged
returns-in-Some-clause-exchanged g c = λ told.
    let P = g.P.Peer in
    let one = subst (λ (r : Option Reply). Attempts c.args.xid (P.seen c.send.new.self) (P.seen c.await_reply.new.peer)
    r) c.in-Some.is (c.in_ok-reply.ensures.attempted told) in
    exchanges-answer c.args.xid c.loop-attempt._attempt c.args.call.now (P.seen c.args.peer.now)
    (P.seen c.loop-attempt.peer) (P.seen c.send.new.self) (P.seen c.await_reply.new.peer) c.in-Some.reply
    c.loop-attempt-test.true (c.loop-attempt.invariant.unanswered told) c.send.ensures.left
    (c.in_ok-send.ensures.sent told) one

pub loop-attempt-preserved : goal.loop-attempt-preserved
loop-attempt-preserved g c =
    let P = g.P.Peer in
    record {
      unanswered = λ told.
          let one = subst (λ (r : Option Reply). Attempts c.args.xid (P.seen c.send.new.self)
          (P.seen c.await_reply.new.peer) r) c.in_default.is (c.in_ok-reply.ensures.attempted told) in
          unanswered-more c.args.xid c.loop-attempt._attempt c.args.call.now (P.seen c.args.peer.now)
          (P.seen c.loop-attempt.peer) (P.seen c.send.new.self) (P.seen c.await_reply.new.peer)
          (c.loop-attempt.invariant.unanswered told) c.send.ensures.left (c.in_ok-send.ensures.sent told) one;
      steady = c.in_ok-reply.ensures.steady ∙ c.in_ok-send.ensures.steady ∙ c.loop-attempt.invariant.steady;
      leaves = keeps_start-then _ _ _ (keeps_start-then _ _ _ c.loop-attempt.invariant.leaves c.send.ensures.leaves)
          c.await_reply.ensures.leaves;
    }
