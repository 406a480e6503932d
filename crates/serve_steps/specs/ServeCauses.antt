-- What is said where a file was not exported, or a call not answered.
use Rattle.quota_map.specs.Asked.{Asked}
use Rattle.quota_map.specs.View.{IsOpenedAs}
use Rattle.rquota_serve.specs.ExportSeen.{ExportSeen}
use Rattle.rquota_serve.specs.declared.serve_fault.ServeFault.{ServeFault}
use Rattle.rquota_serve.specs.declared.serve_fault.ServeFault.TheVariants.{Link as LinkFailed, File as FileFailed}
use Rattle.refusals.specs.declared.cause.Cause.{Cause}
use Rattle.refusals.specs.declared.cause.Cause.TheVariants.{LinkFault}
use Rattle.run_steps.specs.Opening.{file_cause}

-- the file of an export is opened in the format that is asked for, or as one that needs no asking
abbrev pub IsAsAsked : Asked → ExportSeen → Type 0
IsAsAsked asked export = IsOpenedAs asked export.file.format

-- what is said where calls were not answered
abbrev pub serve_cause : ServeFault → Cause
serve_cause LinkFailed = LinkFault
serve_cause (FileFailed fault) = file_cause fault
