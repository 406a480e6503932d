-- Why the records of an opened file could not all be read.
use Rattle.std.specs.Prelude.{Option, None, Some}
use Rattle.opened_file.specs.declared.quota_file.FileFault.{FileFault}
use Rattle.opened_file.specs.declared.quota_file.FileFault.TheVariants.{Store, Damage, Full, Memory}

-- the fault of the opened file, where there was one: running out of memory for the list is none
abbrev pub file_refusal : FileFault → Option FileFault
file_refusal Store = Some Store
file_refusal (Damage damage) = Some (Damage damage)
file_refusal (Full blocks limit) = Some (Full blocks limit)
file_refusal Memory = None
