use Rattle.std.proofs.Common.{refl}
use Rattle.disk_in_memory.proofs.ToldLemmas.{on_ok_same, told_nothing}
use Rattle.disk_in_memory.proofs.mem_disk.MemDiskDisk.sync.Goals as goal

pub returns-then-next_fails-clause-leaves : goal.returns-then-next_fails-clause-leaves
returns-then-next_fails-clause-leaves c = told_nothing _ _ _ _ _ _ _ _ _ _ refl refl refl c.next_fails.ensures.later

pub returns-clause-kept : goal.returns-clause-kept
returns-clause-kept c =
    on_ok_same c.sync-done.result c.outcome.result c.outcome.ensures.same
    (λ kept. kept c.outcome.new.failures.faults) c.sync-done.ensures.kept

pub returns-clause-any : goal.returns-clause-any
returns-clause-any c =
    on_ok_same c.sync-done.result c.outcome.result c.outcome.ensures.same
    (λ any. any c.args.self.now.failures.faults c.outcome.new.failures.faults) c.sync-done.ensures.any
