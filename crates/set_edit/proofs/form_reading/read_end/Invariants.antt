use Rattle.std.proofs.Common.{◌≡◌, ◌≤◌, ◌-◌, IsTrue, true}
use Rattle.set_edit.specs.FormReading.{no_more_words}
use Rattle.set_edit.specs.FormFaults.{form_lines}
use Rattle.set_edit.proofs.form_reading.read_end.Given as goal

abbrev pub invariant-loop-line : goal.invariant-loop-line
invariant-loop-line g l =
    let I = g.I.Source in
    record {
      told : IsTrue I.tells → no_more_words l.fn.reader.number (form_lines l.fn.reader (I.seen l.fn.source).left)
          ≡ no_more_words l.reader.number (form_lines l.reader (I.seen l.source).left);
      later : (I.seen l.fn.source).faults ≤ (I.seen l.source).faults;
      keeps : I.keeps true l.fn.source l.source;
    }

abbrev pub decreases-loop-line : goal.decreases-loop-line
decreases-loop-line g l = 16777216 - l.reader.given
