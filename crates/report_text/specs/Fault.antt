-- Why a report was refused.
use Rattle.std.specs.Prelude.{Option, None, Some, ⊤}
use Rattle.opened_file.specs.declared.quota_file.FileFault.{FileFault}
use Rattle.report_text.specs.declared.report_fault.ReportFault.{ReportFault}
use Rattle.report_text.specs.declared.report_fault.ReportFault.TheVariants.{Sink, File}

-- the fault of a lookup, where a report was refused by one
abbrev pub file_fault : ReportFault → Option FileFault
file_fault Sink = None
file_fault (File fault) = Some fault

-- a fact where the sink failed
abbrev pub OnSink : ReportFault → Type 0 → Type 0
OnSink Sink P = P
OnSink (File _) P = ⊤
