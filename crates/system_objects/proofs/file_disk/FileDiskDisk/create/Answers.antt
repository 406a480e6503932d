use Rattle.system_objects.proofs.UntoldLemmas.{untold_cuts}
use Rattle.system_objects.proofs.file_disk.FileDiskDisk.create.Goals as goal

pub returns-clause-leaves : goal.returns-clause-leaves
returns-clause-leaves g c = untold_cuts c.args.name.now 0 _ _ c.counting.ensures.later
