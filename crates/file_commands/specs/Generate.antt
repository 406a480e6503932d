-- `generate`: a quota file out of a listing that is made, and a line on both. Source: this project's own.
use Rattle.std.specs.Prelude.{ℕ, true, false, List, [], ◌++◌, codes, decimal, length, sum_by, Some, None, Result, Ok}
use Rattle.std.specs.Prelude.{Err, ◌<◌, ◌^◌}
use Rattle.std.specs.FinMap.{entries}
use Rattle.quota_types.specs.Rec.{kib_of}
use Rattle.quota_types.specs.declared.field.NoRoom.{NoRoom as NoRoomFor}
use Rattle.quota_types.specs.declared.file_kind.Format.TheVariants.{V2R1}
use Rattle.quota_types.specs.declared.file_kind.Kind.TheVariants.{User}
use Rattle.quota_types.specs.declared.record.Rec.{Rec}
use Rattle.quota_value.specs.QuotaValue.{QuotaValue, Records}
use Rattle.inode_scan.specs.Generated.{generated}
use Rattle.inode_scan.specs.Scan.{scanned}
use Rattle.inode_scan.specs.Usage.{UsageMap}
use Rattle.report_options.specs.declared.options.Options.{Options}
use Rattle.refusals.specs.declared.cause.Cause.{Cause}
use Rattle.refusals.specs.declared.cause.Cause.TheVariants.{NoRoom}
use Rattle.refusals.specs.Refusals.{refusal_of}
use Rattle.run_steps.specs.Act.{Act, ToOut}
use Rattle.run_steps.specs.Run.{Uses}
use Rattle.run_steps.specs.Showing.{ShowingMayRefuse}
use Rattle.run_steps.specs.Steps.{Doing, DoingAll, Finish, Steps, Stop, Then}
use Rattle.file_commands.specs.Check.{checked, new_value, replaced, scan_outcome}
use Rattle.file_commands.specs.Report.{report_on}
use Rattle.quota_map.specs.Asked.{AnyTree}
use Rattle.run_steps.specs.Done.{Outside}
use Rattle.run_steps.specs.declared.invocation.Invocation.{Invocation}
use Rattle.descriptions.specs.Description.{Description, row}

-- The line.

-- the sum of what is counted of each record
abbrev pub sum_over : (Rec → ℕ) → Records → ℕ
sum_over count records = sum_by (λ entry. count entry.1) (entries records)

-- `lines L, inodes I, identifiers K, KiB S, report B bytes`
unfoldable pub summary_text : (lines inodes identifiers kib bytes : ℕ) → List ℕ
summary_text lines inodes identifiers kib bytes =
    codes "lines " ++ decimal lines ++ codes ", inodes " ++ decimal inodes ++ codes ", identifiers "
    ++ decimal identifiers
    ++ codes ", KiB " ++ decimal kib ++ codes ", report " ++ decimal bytes ++ codes " bytes\n"

-- the line on records that were made of this many lines, and on which a report has this many bytes
abbrev pub summary_line : (lines : ℕ) → Records → (bytes : ℕ) → List ℕ
summary_line lines records bytes =
    summary_text lines (sum_over (λ rec. rec.inodes) records) (length (entries records))
    (sum_over (λ rec. kib_of rec.space) records) bytes

-- a report without options
abbrev pub no_options : Options
no_options = record { verbose = false; numeric = false; raw = false }

-- the report of a file of this name, without names and options
abbrev pub plain_report : List ℕ → (now : ℕ) → QuotaValue → List ℕ
plain_report file now value = report_on [] file now no_options value

-- the line on a file of this name and value, which was made of this many lines
abbrev pub summary : (lines : ℕ) → List ℕ → (now : ℕ) → QuotaValue → List ℕ
summary lines file now value = summary_line lines value.records (length (plain_report file now value))

-- The steps.

-- a file of this value is made, and the line on it is written
abbrev pub MadeSteps : (lines : ℕ) → List ℕ → (now : ℕ) → Result QuotaValue NoRoomFor → Steps
MadeSteps lines file now (Ok new) =
    Then (replaced file (Ok new))
    (λ (acts : List Act). DoingAll acts (Doing (ToOut (summary lines file now new)) Finish))
MadeSteps lines file now (Err out) = Stop (refusal_of (NoRoom out) file)

-- a listing of a seed is made, and of its usage a new file for users, in vfsv1
abbrev pub GenerateSteps : (seed count : ℕ) → List ℕ → (now : ℕ) → Steps
GenerateSteps seed count file now =
    Then (scan_outcome file (scanned User None (generated seed count)))
    (λ (usage : UsageMap). MadeSteps count file now (checked (new_value User (Some V2R1)) usage now))

-- the store is changed and the output written; the file stays where the line on it is not written
abbrev pub generate_uses : Uses
generate_uses = record {
  input = false;
  out = true;
  link = false;
  changes = true;
  all_or_nothing = false;
  warns = false;
  reads_commands = false;
  reads_edits = false;
}

-- What is said.

-- The causes for which it may be refused, whatever is told: a listing that is made always gives a usage, and a file of
-- it has room for that. So what is left are those of a report on the file.
abbrev pub GenerateMayRefuse : List ℕ → Cause → List ℕ → Type 0
GenerateMayRefuse file = ShowingMayRefuse AnyTree file

-- The description.

-- A file out of a listing that is made, and a line on it. A count is one of 32 bits: no words ask for another one.
abbrev pub generating : (seed count : ℕ) → List ℕ → Description
generating seed count file =
    record (row (λ (invocation : Invocation). GenerateSteps seed count file invocation.now) generate_uses
    (GenerateMayRefuse file)) {
      anew = Some file;
      known = count < 2 ^ 32;
      suffices = λ (invocation : Invocation) (old : Outside). count < 2 ^ 32;
    }
