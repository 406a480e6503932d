use Rattle.std.proofs.Common.{length, refl, arith}
use Rattle.disk_in_memory.proofs.ToldLemmas.{on_err_same, on_ok_same, told_nothing}
use Rattle.disk.proofs.TakesStepLemmas.{tears_nothing}
use Rattle.disk_in_memory.proofs.mem_disk.MemDiskDisk.write.Goals as goal

pub returns-then-next_fails-clause-fault : goal.returns-then-next_fails-clause-fault
returns-then-next_fails-clause-fault c = told_nothing _ _ _ _ _ _ _ _ _ _ refl refl refl c.next_fails.ensures.later

pub returns-then-next_fails-clause-leaves : goal.returns-then-next_fails-clause-leaves
returns-then-next_fails-clause-leaves c =
    tears_nothing c.args.name.now c.args.at (length c.args.bytes.now) _ _
    (told_nothing _ _ _ _ _ _ _ _ _ _ refl refl refl c.next_fails.ensures.later)

pub returns-clause-fault : goal.returns-clause-fault
returns-clause-fault c =
    on_err_same c.write-done.result c.outcome.result c.outcome.ensures.same
    (λ nothing. nothing c.args.self.now.failures.faults c.outcome.new.failures.faults (omega arith))
    c.write-done.ensures.fault

pub returns-clause-any : goal.returns-clause-any
returns-clause-any c =
    on_ok_same c.write-done.result c.outcome.result c.outcome.ensures.same
    (λ any. any c.args.self.now.failures.faults c.outcome.new.failures.faults) c.write-done.ensures.any
