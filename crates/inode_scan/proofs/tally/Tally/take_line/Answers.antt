use Rattle.std.proofs.Common.{◌≡◌, Some, sym, ◌∙◌}
use Rattle.inode_scan.specs.Line.{row_in}
use Rattle.inode_scan.proofs.TallyLemmas.{asked_row, blank_good, blank_row, line_refused, line_taken, of_uncounted}
use Rattle.inode_scan.proofs.TallyLemmas.{other_row, row_good, uncounted_row}
use Rattle.inode_scan.proofs.tally.Tally.take_line.Goals as goal

pub returns-then-has_no_word-clause-taken : goal.returns-then-has_no_word-clause-taken
returns-then-has_no_word-clause-taken c = λ lines at of.
    let blank = sym c.has_no_word.ensures ∙ c.if-has_no_word.true in
    of_uncounted c.args.self.now lines c.args.line.now c.args.number at (blank_good c.args.line.now blank)
    (uncounted_row c.args.self.now.device c.args.line.now (blank_row c.args.line.now blank)) of

pub returns-then-not-counts-clause-taken : goal.returns-then-not-counts-clause-taken
returns-then-not-counts-clause-taken c = λ lines at of.
    let is : row_in c.args.line.now ≡ Some c.in-Some.row = sym c.in-Some.ensures in
    of_uncounted c.args.self.now lines c.args.line.now c.args.number at (row_good c.args.line.now c.in-Some.row is)
    (other_row c.args.self.now.device c.args.line.now c.in-Some.row c.counts.result is c.counts.ensures
    c.if-not-counts.true) of

pub returns-clause-taken : goal.returns-clause-taken
returns-clause-taken c =
    let is : row_in c.args.line.now ≡ Some c.in-Some.row = sym c.in-Some.ensures in
    line_taken c.args.self.now c.take_row.new.self c.args.line.now c.args.number c.in-Some.row c.take_row.result
    c.take_row.ensures.device is
    (asked_row c.args.self.now.device c.args.line.now c.in-Some.row c.counts.result is c.counts.ensures
    c.if-not-counts.false) c.take_row.ensures.taken

pub returns-clause-refused : goal.returns-clause-refused
returns-clause-refused c =
    let is : row_in c.args.line.now ≡ Some c.in-Some.row = sym c.in-Some.ensures in
    line_refused c.args.self.now c.args.line.now c.args.number c.in-Some.row c.take_row.result is
    (asked_row c.args.self.now.device c.args.line.now c.in-Some.row c.counts.result is c.counts.ensures
    c.if-not-counts.false) c.take_row.ensures.refused
