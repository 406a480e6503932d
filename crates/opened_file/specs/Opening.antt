-- Why a file is not opened, where it was checked.
use Rattle.file_blocks.specs.declared.check_fault.CheckFault.{CheckFault}
use Rattle.file_blocks.specs.declared.check_fault.CheckFault.TheVariants.{Store, Damage as Damaged, Memory}
use Rattle.opened_file.specs.declared.quota_file.OpenFault.{OpenFault}
use Rattle.opened_file.specs.declared.quota_file.OpenFault.TheVariants.{Store as NotOpened, Damage as OpenedDamaged}
use Rattle.opened_file.specs.declared.quota_file.OpenFault.TheVariants.{Memory as NoMemory}

-- why a file is not opened whose check was refused so
abbrev pub open_fault : CheckFault → OpenFault
open_fault Store = NotOpened
open_fault (Damaged damage) = OpenedDamaged damage
open_fault Memory = NoMemory
