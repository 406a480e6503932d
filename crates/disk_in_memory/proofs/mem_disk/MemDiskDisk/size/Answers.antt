use Rattle.std.proofs.Common.{refl}
use Rattle.disk_in_memory.proofs.ToldLemmas.{told_nothing}
use Rattle.disk_in_memory.proofs.mem_disk.MemDiskDisk.size.Goals as goal

pub returns-then-next_fails-clause-leaves : goal.returns-then-next_fails-clause-leaves
returns-then-next_fails-clause-leaves c = told_nothing _ _ _ _ _ _ _ _ _ _ refl refl refl c.next_fails.ensures.later

pub returns-in-Some-clause-leaves : goal.returns-in-Some-clause-leaves
returns-in-Some-clause-leaves c = told_nothing _ _ _ _ _ _ _ _ _ _ refl refl refl c.next_fails.ensures.later

pub returns-in-None-clause-leaves : goal.returns-in-None-clause-leaves
returns-in-None-clause-leaves c = told_nothing _ _ _ _ _ _ _ _ _ _ refl refl refl c.next_fails.ensures.later
