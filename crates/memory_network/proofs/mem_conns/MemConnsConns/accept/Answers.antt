use Rattle.std.proofs.Common.{List, Some, ap, refl, ◌∙◌, arith}
use Rattle.network.specs.Connections.{Arrival, Connection}
use Rattle.memory_network.specs.KeptConnection.{arrival_in}
use Rattle.memory_network.specs.MemConns.{listened_of}
use Rattle.memory_network.proofs.KeptLemmas.{arrivals-changed, closed-changed, comes, current-put, left-accepted}
use Rattle.memory_network.proofs.mem_conns.MemConnsConns.accept.Goals as goal

pub returns-clause-accepted : goal.returns-clause-accepted
returns-clause-accepted c =
    let kept = c.args.self.now.connections.items in record {
      arrival = arrival_in c.index_mut.result.now;
      next =
          left-accepted kept c.args.self.now.closed c.args.self.now.is_open c.index_mut.result.now
          c.begin-moment.new.self c.requires
          (omega arith) c.index_mut.ensures.value (ap comes c.begin-moment.ensures.begun);
      current = current-put kept c.args.self.now.closed _ c.begin-moment.new.self refl (omega arith)
          ∙ ap (λ (one : Connection). Some one) c.begin-moment.ensures.begun;
      arrived = c.begin-moment.ensures.moment;
    }

pub returns-clause-closed : goal.returns-clause-closed
returns-clause-closed c =
    closed-changed c.args.self.now.connections.items c.args.self.now.closed c.begin-moment.new.self

pub returns-clause-leaves : goal.returns-clause-leaves
returns-clause-leaves c = record {
  listened = ap (λ (arrivals : List Arrival). listened_of c.args.self.now arrivals)
      (arrivals-changed c.args.self.now.connections.items c.args.self.now.closed c.index_mut.result.now
      c.begin-moment.new.self
      c.index_mut.ensures.value (ap comes c.begin-moment.ensures.begun));
  listener_later = omega arith;
  connection_later = omega arith;
}
