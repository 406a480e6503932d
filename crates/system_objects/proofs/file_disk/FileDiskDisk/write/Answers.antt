use Rattle.std.proofs.Common.{length}
use Rattle.system_objects.proofs.UntoldLemmas.{untold_tears}
use Rattle.system_objects.proofs.file_disk.FileDiskDisk.write.Goals as goal

pub returns-clause-leaves : goal.returns-clause-leaves
returns-clause-leaves g c =
    untold_tears c.args.name.now c.args.at (length c.args.bytes.now) _ _ c.counting.ensures.later
