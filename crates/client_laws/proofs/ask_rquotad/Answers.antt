use Rattle.quota_client.specs.Run.{seen_of, tells_of}
use Rattle.client_laws.proofs.ServedLemmas.{prints_replies}
use Rattle.client_laws.proofs.ask_rquotad.Goals as goal

pub returns : goal.returns
returns g c = λ exported asked is told_peer told_out few.
    let P = g.P.Peer in
    let O = g.O.Sink in
    let E = g.E.Sink in
    prints_replies exported _ asked c.args.xid (tells_of P.tells O.tells E.tells)
    (seen_of (P.seen c.args.peer.now) (O.seen c.args.out.now) (E.seen c.args.err.now))
    (seen_of (P.seen c.run_client.new.peer) (O.seen c.run_client.new.out) (E.seen c.run_client.new.err))
    c.run_client.result is told_peer told_out few c.run_client.ensures.runs
