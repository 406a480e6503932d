use Rattle.std.proofs.Common.{◌≡◌, ◌≤◌, ◌-◌, IsTrue, true}
use Rattle.input_text.specs.LineReading.{lines_left}
use Rattle.script_lines.specs.Script.{lines_say, script_said}
use Rattle.script_lines.proofs.ReadingLemmas.{said_with}
use Rattle.script_lines.proofs.reading.read_lines.Given as goal

abbrev pub invariant-loop-lines : goal.invariant-loop-lines
invariant-loop-lines g l =
    let I = g.I.Source in
    record {
      read : IsTrue I.tells → script_said (I.seen l.fn.input).left
          ≡ said_with l.lines.items
          (lines_say l.reader.number (lines_left 4096 16777216 l.reader (I.seen l.input).left));
      later : (I.seen l.fn.input).faults ≤ (I.seen l.input).faults;
      kept : I.keeps true l.fn.input l.input;
    }

abbrev pub decreases-loop-lines : goal.decreases-loop-lines
decreases-loop-lines g l = 16777216 - l.reader.given
