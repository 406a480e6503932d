use Rattle.std.proofs.Common.{ap, take, ◌++◌, Option, inl, inr, sym, ◌∙◌, arith}
use Rattle.network.specs.Connections.{Connection, unread, with_failed_read, with_taken}
use Rattle.memory_network.proofs.KeptLemmas.{changes_current-with, comes, current-changed, current-put, current_is}
use Rattle.memory_network.proofs.mem_conns.MemConnsConns.read.Goals as goal

pub returns-then-next_fails-clause-fault : goal.returns-then-next_fails-clause-fault
returns-then-next_fails-clause-fault c =
    current-changed with_failed_read c.args.self.now.connections.items c.args.self.now.closed c.args.self.now.is_open
    c.index_mut.result.now c.fail_read.new.self
    c.requires c.args.self.now.within c.index_mut.ensures.value c.fail_read.ensures

pub returns-then-next_fails-clause-leaves : goal.returns-then-next_fails-clause-leaves
returns-then-next_fails-clause-leaves c =
    changes_current-with c.args.self.now c.index_mut.result.now c.fail_read.new.self c.count_fault.new.faults
    c.index_mut.ensures.value (ap comes c.fail_read.ensures) c.count_fault.ensures.later

pub returns-clause-taken : goal.returns-clause-taken
returns-clause-taken c =
    current-changed (with_taken c.read.result) c.args.self.now.connections.items c.args.self.now.closed
    c.args.self.now.is_open c.index_mut-2.result.now c.read.new.self
    c.requires c.args.self.now.within c.index_mut-2.ensures.value c.read.ensures.taken

pub returns-clause-leaves : goal.returns-clause-leaves
returns-clause-leaves c =
    changes_current-with c.args.self.now c.index_mut-2.result.now c.read.new.self c.args.self.now.connection_faults
    c.index_mut-2.ensures.value (ap comes c.read.ensures.taken) (omega arith)

pub returns-clause-bytes : goal.returns-clause-bytes
returns-clause-bytes c =
    let kept = c.args.self.now.connections.items in
    let closed = c.args.self.now.closed in
    ap unread (current_is kept closed c.args.self.now.is_open c.index_mut-2.result.now c.requires c.args.self.now.within
    c.index_mut-2.ensures.value)
    ∙ c.read.ensures.bytes
    ∙ ap (λ (current : Option Connection). take c.read.result c.read.new.buf ++ unread current)
    (sym (current-put kept closed c.args.self.now.is_open c.read.new.self c.requires c.args.self.now.within))

pub returns-clause-end : goal.returns-clause-end
returns-clause-end c none =
    elim (c.read.ensures.end none) [
      | inl empty ↦ inl empty
      | inr all ↦
          inr (ap unread (current_is c.args.self.now.connections.items c.args.self.now.closed c.args.self.now.is_open
          c.index_mut-2.result.now c.requires c.args.self.now.within c.index_mut-2.ensures.value) ∙ all)
    ]
