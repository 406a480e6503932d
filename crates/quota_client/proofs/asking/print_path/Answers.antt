use Rattle.std.proofs.Common.{◌≡◌, ℕ, List, take, ap, ◌∙◌}
use Rattle.std.proofs.lemmas.Result.{err_from_is_err_and}
use Rattle.quota_client.specs.Asking.{limits_call}
use Rattle.quota_client.specs.Run.{asking_of, asking_tells}
use Rattle.quota_client.specs.Paths.{PathCall, call_bytes}
use Rattle.quota_client.proofs.PathLemmas.{prints_part, prints_path, written_bytes}
use Rattle.quota_client.proofs.asking.print_path.Goals as goal

pub returns-in_err-write_lines-clause-stopped : goal.returns-in_err-write_lines-clause-stopped
returns-in_err-write_lines-clause-stopped g c =
    let P = g.P.Peer in
    let O = g.O.Sink in
    let client = c.args.client.now in
    let call : PathCall = record { xid = c.args.xid; path = c.args.path.now } in
    let bytes : take c.write_call-len.result c.write_call-len.new.out ≡ call_bytes client call =
    written_bytes _ _ _ c.write_call-len.result c.write_call-len.ensures.len c.write_call-len.ensures.bytes
    ∙ ap (λ (path : List ℕ). limits_call c.args.xid client.uid client.gid path client.uid)
    c.as_bytes-path.ensures.value in
    let p =
    err_from_is_err_and c.from_residual-in_err-write_lines.result c.from_residual-in_err-write_lines.ensures.1 in
    let fails = rw c.as_bytes-path.ensures.value at c.in_err-write_lines.ensures in
    rw (p.1, p.2) (record {
      failed = fails.failed;
      steady = c.in_ok-reply.ensures.steady;
      prints =
          λ told. prints_part client call _ (asking_tells P.tells O.tells)
          (asking_of (P.seen c.args.peer.now) (O.seen c.args.out.now))
          (asking_of (P.seen c.ask.new.peer) (O.seen c.write_lines.new.out))
          c.in_ok-reply.reply bytes (c.in_ok-reply.ensures.exchanged told) fails.part;
    })

pub returns-clause-done : goal.returns-clause-done
returns-clause-done g c = λ told.
    let P = g.P.Peer in
    let O = g.O.Sink in
    let client = c.args.client.now in
    let call : PathCall = record { xid = c.args.xid; path = c.args.path.now } in
    let bytes : take c.write_call-len.result c.write_call-len.new.out ≡ call_bytes client call =
    written_bytes _ _ _ c.write_call-len.result c.write_call-len.ensures.len c.write_call-len.ensures.bytes
    ∙ ap (λ (path : List ℕ). limits_call c.args.xid client.uid client.gid path client.uid)
    c.as_bytes-path.ensures.value in
    let appends = rw c.as_bytes-path.ensures.value at c.in_ok-write_lines.ensures in
    prints_path client call _ (asking_tells P.tells O.tells)
    (asking_of (P.seen c.args.peer.now) (O.seen c.args.out.now))
    (asking_of (P.seen c.ask.new.peer) (O.seen c.write_lines.new.out))
    c.in_ok-reply.reply c.is_answered.result bytes (c.in_ok-reply.ensures.exchanged told) appends.whole
    c.is_answered.ensures
