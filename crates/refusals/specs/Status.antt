-- The groups of causes, and the status with which the program ends.
use Rattle.std.specs.Prelude.{ℕ, Option, Some, None, ⊤}
use Rattle.refusals.specs.declared.cause.Cause.{Cause}
use Rattle.refusals.specs.declared.cause.Cause.TheVariants.{StoreFault, NoFile, TooLarge, SourceFault, SinkFault}
use Rattle.refusals.specs.declared.cause.Cause.TheVariants.{LinkFault, Memory, NotQuota, WrongKind, UnknownVersion}
use Rattle.refusals.specs.declared.cause.Cause.TheVariants.{BadBlockCount, OtherFormat, Damaged, Full, NoRoom}
use Rattle.refusals.specs.declared.cause.Cause.TheVariants.{UnknownName, BadNumber, TargetExists, SameName, BadForm}
use Rattle.refusals.specs.declared.cause.Cause.TheVariants.{BadLine, LongLine, Conflict, Usage}
use Rattle.refusals.specs.declared.cause.CauseGroup.{CauseGroup}
use Rattle.refusals.specs.declared.cause.CauseGroup.TheVariants.{Denied, BadWords, BadFile, Fault, NoMemory}
use Rattle.refusals.specs.declared.reason.Refusal.{Refusal}

-- what a cause is one of: the command is refused, the words are outside the grammar, the file is no quota file of the
-- kind and format or is damaged, something outside failed, or there was not enough memory
abbrev pub group_of : Cause → CauseGroup
group_of StoreFault = Fault
group_of NoFile = Denied
group_of TooLarge = Denied
group_of SourceFault = Fault
group_of SinkFault = Fault
group_of LinkFault = Fault
group_of Memory = NoMemory
group_of NotQuota = BadFile
group_of WrongKind = BadFile
group_of UnknownVersion = BadFile
group_of BadBlockCount = BadFile
group_of OtherFormat = BadFile
group_of (Damaged _) = BadFile
group_of (Full _ _) = Denied
group_of (NoRoom _) = Denied
group_of UnknownName = Denied
group_of BadNumber = Denied
group_of TargetExists = Denied
group_of SameName = Denied
group_of (BadForm _) = Denied
group_of (BadLine _) = Denied
group_of (LongLine _) = Denied
group_of (Conflict _ _) = Denied
group_of (Usage _ _) = BadWords

-- the status of all causes of a group
abbrev pub status_in : CauseGroup → ℕ
status_in Denied = 1
status_in BadWords = 2
status_in BadFile = 3
status_in Fault = 4
status_in NoMemory = 5

-- the status with which the program ends for a cause
abbrev pub status_of : Cause → ℕ
status_of cause = status_in (group_of cause)

-- the status at the end of a command that was refused, or was carried out
abbrev pub end_status : Option Refusal → ℕ
end_status None = 0
end_status (Some refusal) = status_of refusal.cause

-- What holds by the group of a cause: for a fault that something failed, for a lack of memory nothing, and for any
-- other cause what is stated of it.
abbrev pub ByGroup : CauseGroup → (failed stated : Type 0) → Type 0
ByGroup Fault failed stated = failed
ByGroup NoMemory failed stated = ⊤
ByGroup _ failed stated = stated
