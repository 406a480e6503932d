use Rattle.std.proofs.Common.{[], ap, refl, arith}
use Rattle.network.specs.Connections.{with_failed_write, with_written}
use Rattle.memory_network.proofs.KeptLemmas.{changes_current-with, comes, current-changed}
use Rattle.memory_network.proofs.mem_conns.MemConnsConns.write.Goals as goal

pub returns-then-next_fails-clause-fault : goal.returns-then-next_fails-clause-fault
returns-then-next_fails-clause-fault c = record {
  done = [];
  rest = c.args.bytes.now;
  prefix = refl;
  current =
      current-changed (with_failed_write []) c.args.self.now.connections.items c.args.self.now.closed
      c.args.self.now.is_open c.index_mut.result.now c.fail_write.new.self
      c.requires c.args.self.now.within c.index_mut.ensures.value c.fail_write.ensures;
}

pub returns-then-next_fails-clause-leaves : goal.returns-then-next_fails-clause-leaves
returns-then-next_fails-clause-leaves c =
    changes_current-with c.args.self.now c.index_mut.result.now c.fail_write.new.self c.count_fault.new.faults
    c.index_mut.ensures.value (ap comes c.fail_write.ensures) c.count_fault.ensures.later

pub returns-in-Ok-clause-written : goal.returns-in-Ok-clause-written
returns-in-Ok-clause-written c =
    current-changed (with_written c.args.bytes.now) c.args.self.now.connections.items c.args.self.now.closed
    c.args.self.now.is_open c.index_mut-2.result.now c.write.new.self
    c.requires c.args.self.now.within c.index_mut-2.ensures.value c.in-Ok.ensures.ok

pub returns-in-Ok-clause-leaves : goal.returns-in-Ok-clause-leaves
returns-in-Ok-clause-leaves c =
    changes_current-with c.args.self.now c.index_mut-2.result.now c.write.new.self c.args.self.now.connection_faults
    c.index_mut-2.ensures.value (ap comes c.in-Ok.ensures.ok) (omega arith)

pub returns-in-Err-clause-fault : goal.returns-in-Err-clause-fault
returns-in-Err-clause-fault c = record {
  done = [];
  rest = c.args.bytes.now;
  prefix = refl;
  current =
      current-changed (with_failed_write []) c.args.self.now.connections.items c.args.self.now.closed
      c.args.self.now.is_open c.index_mut-2.result.now c.write.new.self
      c.requires c.args.self.now.within c.index_mut-2.ensures.value c.in-Err.ensures.err;
}

pub returns-in-Err-clause-leaves : goal.returns-in-Err-clause-leaves
returns-in-Err-clause-leaves c =
    changes_current-with c.args.self.now c.index_mut-2.result.now c.write.new.self c.count_fault-in-Err.new.faults
    c.index_mut-2.ensures.value (ap comes c.in-Err.ensures.err) c.count_fault-in-Err.ensures.later
