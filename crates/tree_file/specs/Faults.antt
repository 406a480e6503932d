-- The faults of what an opened tree file stands on, as its own.
use Rattle.opened_file.specs.declared.quota_file.FileFault.{FileFault}
use Rattle.opened_file.specs.declared.quota_file.FileFault.TheVariants.{Store, Damage, Full}
use Rattle.tree_change.specs.declared.change_fault.ChangeFault.{ChangeFault}
use Rattle.tree_change.specs.declared.change_fault.ChangeFault.TheVariants.{Store as NotChanged}
use Rattle.tree_change.specs.declared.change_fault.ChangeFault.TheVariants.{Damage as ChangeDamaged, Full as IsFull}
use Rattle.quota_radix.specs.declared.walk_fault.WalkFault.{WalkFault}
use Rattle.quota_radix.specs.declared.walk_fault.WalkFault.TheVariants.{Store as NotWalked, Damage as WalkDamaged}

-- the fault of a look-up
abbrev pub look_up_fault : WalkFault → FileFault
look_up_fault NotWalked = Store
look_up_fault (WalkDamaged damage) = Damage damage

-- why a change in place was refused
abbrev pub file_fault : ChangeFault → FileFault
file_fault NotChanged = Store
file_fault (ChangeDamaged damage) = Damage damage
file_fault (IsFull blocks limit) = Full blocks limit
