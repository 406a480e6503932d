-- `repquota`. Source: the manual page of repquota.
use Rattle.std.specs.Prelude.{◌⊎◌, ℕ, List, ◌≡◌, None, Ok}
use Rattle.id_names.specs.FirstMatch.{first_name}
use Rattle.id_names.specs.NamesFile.{NameLine}
use Rattle.quota_value.specs.QuotaValue.{QuotaValue}
use Rattle.report_text.specs.declared.report_fault.ReportFault.{ReportFault}
use Rattle.report_text.specs.declared.report_fault.ReportFault.TheVariants.{Sink, File}
use Rattle.report_options.specs.declared.options.Options.{Options}
use Rattle.report_text.specs.Report.{report_of}
use Rattle.refusals.specs.declared.cause.Cause.{Cause}
use Rattle.refusals.specs.declared.cause.Cause.TheVariants.{SinkFault}
use Rattle.command_words.specs.declared.command.Common.{Common}
use Rattle.run_steps.specs.Naming.{NamesMayRefuse, names_seen}
use Rattle.run_steps.specs.Opening.{file_cause}
use Rattle.run_steps.specs.Steps.{Naming, Steps}
use Rattle.run_steps.specs.declared.invocation.Invocation.{Invocation}
use Rattle.run_steps.specs.Showing.{ShowingMayRefuse, ShowingSteps, showing_uses}
use Rattle.quota_map.specs.Asked.{asked_of}
use Rattle.quota_map.specs.View.{IsView}
use Rattle.refusals.specs.Outcome.{Passed}
use Rattle.run_steps.specs.Done.{Outside}
use Rattle.descriptions.specs.Description.{Description, file_given, looks_at, row}

-- the report of a file of this name on a value, with these names
abbrev pub report_on : List NameLine → List ℕ → ℕ → Options → QuotaValue → List ℕ
report_on names file now options value = report_of value (first_name names) file now options

-- the names are read, the file is opened, and its report goes to the output
abbrev pub ReportSteps : Common → Options → List ℕ → Invocation → Steps
ReportSteps common options file invocation =
    Naming common.kind common.names (λ (names : List NameLine).
    ShowingSteps common.kind (asked_of common.format) file (report_on names file invocation.now options))

-- what is said where a report was not written whole
abbrev pub report_cause : ReportFault → Cause
report_cause Sink = SinkFault
report_cause (File fault) = file_cause fault

-- the causes for which a report may be refused, whatever is told
abbrev pub ReportMayRefuse : Common → List ℕ → Cause → List ℕ → Type 0
ReportMayRefuse common file cause name =
    NamesMayRefuse common.names cause name ⊎ ShowingMayRefuse (asked_of common.format) file cause name

-- The description.

-- a report: the names are known, and the file is accepted
abbrev pub CanReport : Common → List ℕ → Outside → Type 0
CanReport common file old =
    (names : List NameLine) × (value : QuotaValue) × (names_seen common.kind common.names old.files ≡ Passed names)
    × IsView (old.files file) common.kind (asked_of common.format) (Ok value)

-- the report of a file
abbrev pub reporting : Common → Options → List ℕ → Description
reporting common options file =
    record (row (ReportSteps common options file) showing_uses (ReportMayRefuse common file)) {
      looks = looks_at (file_given common file) common.names None;
      suffices = λ (invocation : Invocation). CanReport common file;
    }
