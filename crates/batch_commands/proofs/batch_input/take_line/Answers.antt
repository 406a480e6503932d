use Rattle.std.proofs.Common.{◌≡◌, ◌+◌, None, Some, arith}
use Rattle.input_text.proofs.InputLinesLemmas.{input_lines-long, input_lines-past, lines_left-next}
use Rattle.refusals.specs.declared.cause.Cause.TheVariants.{TooLarge, LongLine}
use Rattle.batch_commands.specs.declared.batch_line.BatchLineRead.TheVariants.{Refused as Faulty}
use Rattle.batch_commands.specs.Batch.{ends_with}
use Rattle.refusals.specs.Refusals.{refusal_of}
use Rattle.batch_commands.proofs.BatchInputLemmas.{end_taken, line_may, line_taken, long_taken, past_taken}
use Rattle.batch_commands.proofs.BatchInputLemmas.{refused_taken}
use Rattle.batch_commands.proofs.batch_input.take_line.Goals as goal

pub returns-in-Ok-clause-read : goal.returns-in-Ok-clause-read
returns-in-Ok-clause-read g c = λ told.
    let n = c.in-Ok-true.ensures in
    let next = rw c.in-Ok-true.field-0-test at
    (lines_left-next 1024 16777216 c.args.reader.now c.next_line.new.self _ _ _ _ (n.next told) (n.given told)) in
    let number : c.next_line.new.self.number ≡ c.args.reader.now.number + 1 =
    rw c.in-Ok-true.field-0-test at n.number in
    line_taken c.args.names.now c.args.place.now c.args.reader.now c.next_line.new.self _ _ c.next_line.new.line.items
    c.lines.result c.in-Ok.said
    next number (omega (arith, number, c.lines.ensures)) (rw c.as_slice.ensures.value at c.in-Ok.ensures)

pub returns-in-Ok-clause-may_ask : goal.returns-in-Ok-clause-may_ask
returns-in-Ok-clause-may_ask g c =
    line_may c.args.names.now c.args.place.now c.lines.result c.as_slice.result.now c.in-Ok.said c.in-Ok.ensures

pub returns-in-Ok-false-clause-read : goal.returns-in-Ok-false-clause-read
returns-in-Ok-false-clause-read g c = λ told.
    let n = c.in-Ok-false.ensures in
    end_taken c.args.names.now c.args.place.now c.args.reader.now _ (ends_with None)
    (rw c.in-Ok-false.field-0-test at
    (lines_left-next 1024 16777216 c.args.reader.now c.next_line.new.self _ _ _ _ (n.next told) (n.given told)))

pub returns-in-Err-Long-clause-read : goal.returns-in-Err-Long-clause-read
returns-in-Err-Long-clause-read g c =
    let n = c.in-Err-Long.ensures in
    refused_taken c.refused_input.result (Some (Faulty (refusal_of (LongLine c.in-Err-Long.number) c.args.place.now))) _
    _ _ c.refused_input.ensures
    (λ told. long_taken c.args.names.now c.args.place.now c.args.reader.now _ c.in-Err-Long.number (ends_with None)
    (input_lines-long 1024 _ _ ((rw c.in-Err-Long.field-0-is at n.cause) told))
    (rw c.in-Err-Long.field-0-is at n.named))

pub returns-in-Err-TooLarge-clause-read : goal.returns-in-Err-TooLarge-clause-read
returns-in-Err-TooLarge-clause-read g c =
    let n = c.in-Err-TooLarge.ensures in
    refused_taken c.refused_input-in-Err-TooLarge.result (Some (Faulty (refusal_of TooLarge c.args.place.now))) _ _ _
    c.refused_input-in-Err-TooLarge.ensures
    (λ told. past_taken c.args.names.now c.args.place.now c.args.reader.now _ (ends_with None)
    (input_lines-past 1024 _ _ ((rw c.in-Err-TooLarge.field-0-is at n.cause) told)))
