-- Why an edit of a quota file is refused.
use Rattle.std.specs.Prelude.{Option, None, Some, ⊤}
use Rattle.quota_types.specs.declared.field.NoRoom.{NoRoom}
use Rattle.opened_file.specs.declared.quota_file.FileFault.{FileFault}
use Rattle.set_edit.specs.declared.edit_fault.EditFault.{EditFault}
use Rattle.set_edit.specs.declared.edit_fault.EditFault.TheVariants.{File, NoRoom as Unfit}

-- the file's fault, where an edit was refused by one
abbrev pub file_fault : EditFault → Option FileFault
file_fault (File fault) = Some fault
file_fault (Unfit _) = None

-- a fact of the value that does not fit, where an edit was refused by one
abbrev pub IfNoRoom : EditFault → (NoRoom → Type 0) → Type 0
IfNoRoom (File _) P = ⊤
IfNoRoom (Unfit out) P = P out
