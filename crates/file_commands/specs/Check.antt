-- `quotacheck`. Source: the manual page of quotacheck; that the usage is read from a listing of inodes, and not from a
-- mounted file system, is this project's own.
use Rattle.std.specs.Prelude.{◌≡◌, ◌⊎◌, ℕ, Bool, true, false, nat_lt, IfSome, List, Option, Some, unwrap_or, Result, Ok}
use Rattle.std.specs.Prelude.{Err, ◌≤◌, if◌then◌else◌, [], None}
use Rattle.std.specs.FinMap.{empty, get}
use Rattle.quota_types.specs.Kept.{IsKept}
use Rattle.quota_types.specs.Range.{unfit}
use Rattle.quota_types.specs.declared.field.NoRoom.{NoRoom as NoRoomFor}
use Rattle.quota_types.specs.declared.file_kind.Format.{Format}
use Rattle.quota_types.specs.declared.file_kind.Format.TheVariants.{V2R1}
use Rattle.quota_types.specs.declared.file_kind.Kind.{Kind}
use Rattle.quota_value.specs.QuotaValue.{QuotaValue, Records}
use Rattle.outside.specs.World.{World}
use Rattle.quota_map.specs.Asked.{Asked, asked_of}
use Rattle.quota_map.specs.View.{IsOpenedAs, IsView, most_blocks}
use Rattle.inode_scan.specs.Apply.{applied, wanted_record}
use Rattle.inode_scan.specs.Scan.{scanned}
use Rattle.inode_scan.specs.Usage.{UsageMap}
use Rattle.inode_scan.specs.declared.scan_fault.ScanFault.{ScanFault}
use Rattle.inode_scan.specs.declared.used.Used.{Used}
use Rattle.inode_scan.specs.declared.scan_fault.ScanFault.TheVariants.{Source, TooLarge as PastTotal}
use Rattle.inode_scan.specs.declared.scan_fault.ScanFault.TheVariants.{BadLine as WrongLine, LongLine as TooLong}
use Rattle.inode_scan.specs.declared.scan_fault.ScanFault.TheVariants.{Conflict as Conflicting}
use Rattle.inode_scan.specs.declared.scan_fault.ScanFault.TheVariants.{Memory as ScanWantsMemory}
use Rattle.refusals.specs.declared.cause.Cause.{Cause}
use Rattle.refusals.specs.declared.cause.Cause.TheVariants.{SourceFault, Memory, TooLarge, BadLine, LongLine, Conflict}
use Rattle.refusals.specs.declared.cause.Cause.TheVariants.{NoRoom}
use Rattle.command_words.specs.declared.command.Common.{Common}
use Rattle.run_steps.specs.declared.invocation.Invocation.{Invocation}
use Rattle.run_steps.specs.Act.{Act, Replace}
use Rattle.run_steps.specs.Opening.{MayRefuseOpening}
use Rattle.refusals.specs.Outcome.{Outcome, Passed, Refused}
use Rattle.run_steps.specs.Run.{Uses}
use Rattle.run_steps.specs.Steps.{DoingAll, Finish, Opening, Steps, Then}
use Rattle.run_steps.specs.Taking.{AListing, InputMayRefuse, Taking, input_name, reading, input_said}
use Rattle.refusals.specs.Refusals.{refusal_of}
use Rattle.run_steps.specs.Changing.{edit_uses, if_room}
use Rattle.quota_map.specs.Size.{blocks_of}
use Rattle.file_commands.specs.WritingRefused.{WritingMayRefuse}
use Rattle.run_steps.specs.Done.{Outside}
use Rattle.descriptions.specs.Description.{Description, file_given, looks_at, row}

-- The listing.

-- what is said of a listing that gives no usage, where this is said of what it is read from
abbrev pub scan_cause : Cause → ScanFault → Cause
scan_cause failed Source = failed
scan_cause failed PastTotal = TooLarge
scan_cause failed (WrongLine line) = BadLine line
scan_cause failed (TooLong line) = LongLine line
scan_cause failed (Conflicting line first) = Conflict line first
scan_cause failed ScanWantsMemory = Memory

-- the step that a listing is which was read so
abbrev pub scan_outcome : List ℕ → Result UsageMap ScanFault → Outcome UsageMap
scan_outcome name (Ok usage) = Passed usage
scan_outcome name (Err fault) = Refused (refusal_of (scan_cause SourceFault fault) name)

-- the step that reads the usage of users, groups or projects from a listing, of one device or of all
abbrev pub scan_step : Kind → (device : Option ℕ) → Option (List ℕ) → List ℕ → Outcome UsageMap
scan_step kind device from bytes = scan_outcome (input_name from) (scanned kind device bytes)

-- The new value.

-- a value with these records in place of its own, unless its format has no room
abbrev pub with_applied : QuotaValue → Result Records NoRoomFor → Result QuotaValue NoRoomFor
with_applied value (Ok records) = Ok (record value { records = records })
with_applied value (Err out) = Err out

-- the value with the usage of a listing at this moment, or the first value for which its format has no room
abbrev pub checked : QuotaValue → UsageMap → (now : ℕ) → Result QuotaValue NoRoomFor
checked value usage now = with_applied value (applied value.format value.grace now value.records usage)

-- a file of this name stands for a value from then on, where it has room for it
abbrev pub replaced : List ℕ → Result QuotaValue NoRoomFor → Outcome (List Act)
replaced name (Ok new) = if_room name (blocks_of new) (nat_lt most_blocks (blocks_of new)) (Replace name new)
replaced name (Err out) = Refused (refusal_of (NoRoom out) name)

-- a file is replaced
abbrev pub ReplaceSteps : List ℕ → Result QuotaValue NoRoomFor → Steps
ReplaceSteps file new = Then (replaced file new) (λ (acts : List Act). DoingAll acts Finish)

-- the format of a new file: the one that is asked for, or vfsv1
abbrev pub new_format : Option Format → Format
new_format asked = unwrap_or asked V2R1

-- a new file has no records, no flags, and grace periods of 7 days each
abbrev pub new_value : Kind → Option Format → QuotaValue
new_value kind asked =
    record {
      kind = kind;
      format = new_format asked;
      grace = record { block = 604800; inode = 604800 };
      flags = 0;
      records = empty;
    }

-- The steps.

-- the listing is read, and the file is replaced by one of this value with the usage of the listing
abbrev pub UsageSteps : Kind → (device : Option ℕ) → Option (List ℕ) → List ℕ → (now : ℕ) → QuotaValue → Steps
UsageSteps kind device from file now value =
    Taking from (λ usage. true) (scan_step kind device from)
    (λ (usage : UsageMap). ReplaceSteps file (checked value usage now))

-- a new file is made, whether there is one of its name or not; or the file is opened, and read whole, before the
-- listing is
abbrev pub CheckSteps : Common → (fresh : Bool) → (device : Option ℕ) → Option (List ℕ) → List ℕ → Invocation → Steps
CheckSteps common true device from file invocation =
    UsageSteps common.kind device from file invocation.now (new_value common.kind common.format)
CheckSteps common false device from file invocation =
    Opening common.kind (asked_of common.format) file (UsageSteps common.kind device from file invocation.now)

-- the value whose usage is set: that of a new file, or the one that the file is seen as
abbrev pub IsToBeChecked : Common → (fresh : Bool) → List ℕ → World → QuotaValue → Type 0
IsToBeChecked common true file files value = value ≡ new_value common.kind common.format
IsToBeChecked common false file files value = IsView (files file) common.kind (asked_of common.format) (Ok value)

-- a listing is read from an input, and changes the store as an edit does
abbrev pub check_uses : Option (List ℕ) → Uses
check_uses from = reading from (edit_uses false)

-- What is said.

-- the format of a value has no room for this value of an identifier's record, once the record has some usage and its
-- timers are set at some moment
abbrev pub UsageMayLack : QuotaValue → NoRoomFor → Type 0
UsageMayLack value out =
    (used : Option Used) × (now : ℕ)
    × (unfit value.format out.id (wanted_record value.grace now (get value.records out.id) used) ≡ Some (
      out.field,
      out.value,
    ))

-- the format of a value has room for each of its records, and keeps it as it is
abbrev pub HasKept : QuotaValue → Type 0
HasKept value = (id : ℕ) → IfSome (get value.records id) (IsKept value.format id)

-- the causes for which a file of a value may not be replaced for lack of room in the records, with the name that is
-- said
abbrev pub UnfitMayRefuse : QuotaValue → List ℕ → Cause → List ℕ → Type 0
UnfitMayRefuse value file (NoRoom out) name = (name ≡ file) × UsageMayLack value out
UnfitMayRefuse value file _ name = ⊥

-- the causes for which the usage of a listing may not become that of a file of a value, whatever is told
abbrev pub UsageMayRefuse : QuotaValue → Option (List ℕ) → List ℕ → Cause → List ℕ → Type 0
UsageMayRefuse value from file cause name =
    InputMayRefuse AListing from cause name
    ⊎ (UnfitMayRefuse value file cause name
    ⊎ WritingMayRefuse value.format file cause name)

-- the causes for which the usage of a listing may not become that of a file that is opened, whatever is told
abbrev pub OpenedMayRefuse : Asked → Option (List ℕ) → List ℕ → Cause → List ℕ → Type 0
OpenedMayRefuse asked from file cause name =
    MayRefuseOpening asked file cause name
    ⊎ ((value : QuotaValue) × IsOpenedAs asked value.format × HasKept value × UsageMayRefuse value from file cause name)

-- the causes for which the usage of a listing may not become that of a new file or of one that is opened, whatever is
-- told
abbrev pub CheckMayRefuse : Common → (fresh : Bool) → Option (List ℕ) → List ℕ → Cause → List ℕ → Type 0
CheckMayRefuse common true from file = UsageMayRefuse (new_value common.kind common.format) from file
CheckMayRefuse common false from file = OpenedMayRefuse (asked_of common.format) from file

-- The description.

-- a check: the file is accepted or new, the listing is of the stated form, and its usage fits and has room
abbrev pub CanCheck : Common → (fresh : Bool) → (device : Option ℕ) → Option (List ℕ) → List ℕ → Invocation
    → Outside → Type 0
CanCheck common fresh device from file invocation old =
    (value : QuotaValue) × (usage : UsageMap) × (new : QuotaValue) × IsToBeChecked common fresh file old.files value
    × (input_said from (scan_step common.kind device from) old.files old.input ≡ Passed usage)
    × (checked value usage invocation.now ≡ Ok new) × (blocks_of new ≤ most_blocks)

-- the usage in a listing becomes that of a file
abbrev pub checking : Common → (fresh : Bool) → (device : Option ℕ) → Option (List ℕ) → List ℕ → Description
checking common fresh device input file =
    record (row (CheckSteps common fresh device input file) (check_uses input)
    (CheckMayRefuse common fresh input file)) {
      replaces = Some file;
      anew = Some file;
      looks = looks_at (if fresh then [] else file_given common file) None input;
      suffices = CanCheck common fresh device input file;
    }
