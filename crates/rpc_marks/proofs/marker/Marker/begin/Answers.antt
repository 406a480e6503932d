use Rattle.std.proofs.Common.{arith}
use Rattle.rpc_marks.proofs.MarkerLemmas.{begins-anew}
use Rattle.rpc_marks.proofs.marker.Marker.begin.Goals as goal

pub returns-then-self-eq0-clause-same : goal.returns-then-self-eq0-clause-same
returns-then-self-eq0-clause-same c = λ bytes.
    let marker = c.args.self.now in
    begins-anew marker.head.items marker.body.items c.clear-then-self-eq0.new.self.items c.clear.new.self.items
    marker.left bytes
    (omega (arith, c.len.ensures.value)) (omega arith) c.clear-then-self-eq0.ensures c.clear.ensures
