use Rattle.std.proofs.Common.{refl}
use Rattle.memory_network.proofs.KeptLemmas.{closed-more}
use Rattle.memory_network.proofs.mem_conns.MemConnsConns.close.Goals as goal

pub returns-then-self-clause-closed : goal.returns-then-self-clause-closed
returns-then-self-clause-closed c = record {
  current = refl;
  closed = closed-more c.args.self.now.connections.items c.args.self.now.closed c.args.self.now.is_open c.if-self.true
      c.args.self.now.within;
}
