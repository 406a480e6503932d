use Rattle.std.proofs.Common.{◌≡◌, ◌≤◌, ◌-◌, IsTrue, true}
use Rattle.input_text.specs.LineReading.{lines_left}
use Rattle.batch_commands.specs.Batch.{input_asks, lines_ask}
use Rattle.batch_commands.proofs.BatchInputLemmas.{asked_with}
use Rattle.batch_commands.proofs.batch_input.read_batch.Given as goal

abbrev pub invariant-loop-edits : goal.invariant-loop-edits
invariant-loop-edits g l =
    let I = g.I.Source in
    record {
      read : IsTrue I.tells → input_asks l.names l.place (I.seen l.fn.source).left
          ≡ asked_with l.edits.items
          (lines_ask l.names l.place l.reader.number (lines_left 1024 16777216 l.reader (I.seen l.source).left));
      later : (I.seen l.fn.source).faults ≤ (I.seen l.source).faults;
      kept : I.keeps true l.fn.source l.source;
    }

abbrev pub decreases-loop-edits : goal.decreases-loop-edits
decreases-loop-edits g l = 16777216 - l.reader.given
