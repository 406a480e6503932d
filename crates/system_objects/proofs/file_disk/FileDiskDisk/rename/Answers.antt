use Rattle.system_objects.proofs.UntoldLemmas.{untold_renames}
use Rattle.system_objects.proofs.file_disk.FileDiskDisk.rename.Goals as goal

pub returns-clause-leaves : goal.returns-clause-leaves
returns-clause-leaves g c = untold_renames c.args.from.now c.args.to.now _ _ c.counting.ensures.later
