use Rattle.std.proofs.Common.{◌≡◌, ◌++◌, [], List, ℕ, Result, Ok, Err, IsTrue, OnErr, OnOk, append-nil, inr}
use Rattle.std.proofs.Common.{string_bytes}
use Rattle.outside.specs.Text.{AppendsPrefix}
use Rattle.program_start.proofs.reason.write_reason.Goals as goal

-- whether a sink failed or not, it got a first part of the bytes
first_part : {T E : Type 0} (result : Result T E) (told : Type 0) (old new bytes : List ℕ)
    → OnOk result (told → new ≡ old ++ bytes) → OnErr result (told → AppendsPrefix old new bytes)
    → told → AppendsPrefix old new bytes
first_part (Ok value) told old new bytes all part is =
    record { done = bytes; rest = []; appended = all is; prefix = append-nil bytes }
first_part (Err fault) told old new bytes all part is = part is

pub returns-in-Ok-clause-line : goal.returns-in-Ok-clause-line
returns-in-Ok-clause-line g c =
    let part = first_part c.write.result (IsTrue g.E.Sink.tells) (g.E.Sink.seen c.args.err.now).written
    (g.E.Sink.seen c.write.new.self).written c.as_bytes.result.now c.write.ensures.ok c.write.ensures.fault in
    λ told. inr (string_bytes c.in-Ok.line, c.in-Ok.ensures, rw c.as_bytes.ensures.value at part told)
