use Rattle.system_objects.proofs.UntoldLemmas.{untold_shortens}
use Rattle.system_objects.proofs.file_disk.FileDiskDisk.cut.Goals as goal

pub returns-clause-leaves : goal.returns-clause-leaves
returns-clause-leaves g c = untold_shortens c.args.name.now c.args.len _ _ c.counting.ensures.later
