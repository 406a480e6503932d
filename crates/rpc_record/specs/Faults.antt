-- Why serving streams ended before its time, and what is said then.
use Rattle.std.specs.Prelude.{Bool, true, false, Option, None, Some, Result, Ok, Err, ⊤}
use Rattle.opened_file.specs.declared.quota_file.FileFault.{FileFault}
use Rattle.refusals.specs.declared.cause.Cause.{Cause}
use Rattle.refusals.specs.declared.cause.Cause.TheVariants.{LinkFault}
use Rattle.run_steps.specs.Opening.{file_cause}
use Rattle.rpc_record.specs.declared.stream_fault.StreamFault.{StreamFault}
use Rattle.rpc_record.specs.declared.stream_fault.StreamFault.TheVariants.{Conn as ConnFailed, File as FileFailed}

-- a fact where no connection could be accepted
abbrev pub OnConn : StreamFault → Type 0 → Type 0
OnConn ConnFailed P = P
OnConn (FileFailed fault) P = ⊤

-- the fault of a file, where there was one
abbrev pub file_in : StreamFault → Option FileFault
file_in ConnFailed = None
file_in (FileFailed fault) = Some fault

-- a connection is left open: an exported file failed while it was served
abbrev pub leaves_open : Result (Unit {0}) StreamFault → Bool
leaves_open (Ok done) = false
leaves_open (Err ConnFailed) = false
leaves_open (Err (FileFailed fault)) = true

-- what is said where serving streams ended before its time
abbrev pub stream_cause : StreamFault → Cause
stream_cause ConnFailed = LinkFault
stream_cause (FileFailed fault) = file_cause fault
