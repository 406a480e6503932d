use Rattle.std.proofs.Common.{sym, subst, ◌∙◌}
use Rattle.outside.specs.World.{World}
use Rattle.disk_in_memory.specs.Calls.{LeftAfter}
use Rattle.disk_in_memory.proofs.HalfLemmas.{half-left}
use Rattle.disk_in_memory.specs.Told.{calls_of, first_of}
use Rattle.disk_in_memory.proofs.mem_disk.MemDisk.after_stop.Goals as goal

pub returns-clause-image : goal.returns-clause-image
returns-clause-image c =
    let first = first_of c.args.self.recorded in
    let calls = calls_of c.args.self.recorded in
    subst (λ (files : World). LeftAfter first calls files) (sym (c.of.ensures.fresh.read ∙ c.in_ok-left.ensures))
    (half-left first calls)
