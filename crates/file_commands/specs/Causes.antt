-- What is said where a file was not made, and why a report on it was not gathered.
use Rattle.std.specs.Prelude.{ℕ, List, ⊤, ◌≡◌, Bool, true, false, Option}
use Rattle.quota_types.specs.declared.file_kind.Format.{Format}
use Rattle.quota_value.specs.QuotaValue.{QuotaValue}
use Rattle.quota_map.specs.Asked.{asked_of}
use Rattle.quota_map.specs.View.{IsOpenedAs}
use Rattle.inode_scan.specs.declared.scan_fault.ApplyFault.{ApplyFault}
use Rattle.inode_scan.specs.declared.scan_fault.ApplyFault.TheVariants.{NoRoom as Unfit, Memory as ApplyWantsMemory}
use Rattle.refusals.specs.declared.cause.Cause.{Cause}
use Rattle.refusals.specs.declared.cause.Cause.TheVariants.{StoreFault, SourceFault, SinkFault, LinkFault, Memory}
use Rattle.refusals.specs.declared.cause.Cause.TheVariants.{NoRoom}
use Rattle.run_steps.specs.Act.{Replace, ToOut}
use Rattle.run_steps.specs.Steps.{Doing, Finish, Steps}
use Rattle.file_commands.specs.Generate.{summary}
use Rattle.file_commands.specs.Check.{new_format}

-- the file of a value is made, and then the line on it is written
abbrev pub WrittenSteps : (lines : ℕ) → List ℕ → (now : ℕ) → QuotaValue → Steps
WrittenSteps lines file now new = Doing (Replace file new) (Doing (ToOut (summary lines file now new)) Finish)

-- where a report in memory is not taken, there was not enough memory
abbrev pub gathered_cause : Cause → Cause
gathered_cause SinkFault = Memory
gathered_cause cause = cause

-- Why a report on a file was not gathered: the store failed, there was not enough memory, or no value is seen of the
-- file.
abbrev pub IsUnreported : (rose unseen : Type 0) → Cause → Type 0
IsUnreported rose unseen StoreFault = rose
IsUnreported rose unseen Memory = ⊤
IsUnreported rose unseen SourceFault = ⊥
IsUnreported rose unseen SinkFault = ⊥
IsUnreported rose unseen LinkFault = ⊥
IsUnreported rose unseen _ = unseen

-- a format is that of a new file, or may be that of one that is opened
abbrev pub IsFormatOf : (fresh : Bool) → Option Format → Format → Type 0
IsFormatOf true asked format = format ≡ new_format asked
IsFormatOf false asked format = IsOpenedAs (asked_of asked) format

-- what is said where a format has no room for the records, or there was not enough memory
abbrev pub apply_cause : ApplyFault → Cause
apply_cause (Unfit out) = NoRoom out
apply_cause ApplyWantsMemory = Memory
