use Rattle.std.proofs.Common.{refl}
use Rattle.disk_in_memory.proofs.ToldLemmas.{told_nothing}
use Rattle.disk_in_memory.proofs.mem_disk.MemDiskDisk.read.Goals as goal

pub returns-then-next_fails-clause-leaves : goal.returns-then-next_fails-clause-leaves
returns-then-next_fails-clause-leaves c = told_nothing _ _ _ _ _ _ _ _ _ _ refl refl refl c.next_fails.ensures.later

pub returns-in_default-clause-leaves : goal.returns-in_default-clause-leaves
returns-in_default-clause-leaves c = told_nothing _ _ _ _ _ _ _ _ _ _ refl refl refl c.next_fails.ensures.later

pub returns-clause-leaves : goal.returns-clause-leaves
returns-clause-leaves c = told_nothing _ _ _ _ _ _ _ _ _ _ refl refl refl c.next_fails.ensures.later
