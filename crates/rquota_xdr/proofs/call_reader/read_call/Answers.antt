use Rattle.std.proofs.Common.{◌≡◌, ◌++◌, Some, refl}
use Rattle.rquota_xdr.specs.Call.{argument_rows, caller_rows, head_rows, rows_of}
use Rattle.rquota_xdr.specs.Rows.{first_failing}
use Rattle.rquota_xdr.proofs.RowLemmas.{first_failing_before, head_answer}
use Rattle.rquota_xdr.proofs.call_reader.read_call.Goals as goal

pub returns-in-Err-clause-call : goal.returns-in-Err-clause-call
returns-in-Err-clause-call c =
    let datagram = c.args.bytes.now in
    let front = first_failing_before (head_rows datagram) (caller_rows datagram) _ c.in-Err.ensures.err in
    let fails : first_failing (rows_of datagram) ≡ Some c.in-Err.call =
    first_failing_before (head_rows datagram ++ caller_rows datagram) (argument_rows datagram) _ front in
    rw fails refl

pub returns-in-Err-clause-path : goal.returns-in-Err-clause-path
returns-in-Err-clause-path c = head_answer c.args.bytes.now _ _ c.in-Err.ensures.err
