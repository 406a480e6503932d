use Rattle.std.proofs.Common.{◌≡◌, ◌≤◌, ◌-◌, ◌++◌, false, length, IsTrue, true}
use Rattle.std.specs.List.{list_any}
use Rattle.input_text.specs.Lines.{is_newline}
use Rattle.input_text.proofs.line_reader.LineReader.next_line.Given as goal

abbrev pub invariant-pieces : goal.invariant-pieces
invariant-pieces g l =
    let I = g.I.Source in
    record {
      told : IsTrue I.tells
          → l.line.items ++ (l.self.held ++ (I.seen l.source).left) ≡ l.fn.self.held ++ (I.seen l.fn.source).left;
      open_line : list_any is_newline l.line.items ≡ false;
      within : length l.line.items ≤ l.most;
      fits : length l.line.items ≤ l.total - l.self.given;
      number : l.self.number ≡ l.fn.self.number;
      given : l.self.given ≡ l.fn.self.given;
      later : (I.seen l.fn.source).faults ≤ (I.seen l.source).faults;
      keeps : I.keeps true l.fn.source l.source;
    }

abbrev pub decreases-pieces : goal.decreases-pieces
decreases-pieces g l = l.most - length l.line.items
