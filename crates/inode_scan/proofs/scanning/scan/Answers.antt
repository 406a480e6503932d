use Rattle.std.proofs.Common.{ℕ, true, List, [], ◌∷◌, ◌++◌, Ok, rules, sym, ap, subst, ◌∙◌, arith}
use Rattle.std.proofs.lemmas.Result.{err_from_is_err_and}
use Rattle.input_text.specs.InputLines.{input_lines}
use Rattle.inode_scan.specs.ListingFaults.{listing_left}
use Rattle.inode_scan.specs.Tally.{IsBounded, IsRefusedLine}
use Rattle.inode_scan.proofs.ScanLemmas.{IsReadTo, end_refused, given_line, given_number, is_whole, line_refused}
use Rattle.inode_scan.proofs.ScanLemmas.{none_given, read_more, start_behind, start_bounded, start_few, start_last}
use Rattle.inode_scan.proofs.scanning.scan.Goals as goal

pub lines-init : goal.lines-init
lines-init g c = record {
  read = (
    [],
    record {
      of = c.new-tally.ensures.none;
      last = start_last c.new-reader.result c.new-reader.ensures;
      told = λ told. start_behind c.new-reader.result (g.I.Source.seen c.args.source.now).left c.new-reader.ensures;
    },
  );
  few = start_few c.new-reader.result c.new-reader.ensures;
  bounded = start_bounded c.new-reader.result c.new-tally.result.sums c.new-reader.ensures c.new-tally.ensures.bounded;
  kind = c.new-tally.ensures.kind;
  device = c.new-tally.ensures.device;
  later = omega arith;
  keeps = search rules;
}

pub returns-in_err-next_line-clause-refused : goal.returns-in_err-next_line-clause-refused
returns-in_err-next_line-clause-refused g c =
    let p = err_from_is_err_and c.from_residual.result c.from_residual.ensures.1 in
    let l = c.lines in
    rw (p.1, p.2)
    (end_refused (g.I.Source.seen c.args.source.now).faults (g.I.Source.seen l.source).faults
    (g.I.Source.seen c.next_line.new.source).faults c.args.kind c.args.device (g.I.Source.seen c.args.source.now).left
    (listing_left l.reader (g.I.Source.seen l.source).left) l.tally l.reader.number l.invariant.read.0 g.I.Source.tells
    c.in_err-next_line.field-0.0
    l.invariant.later l.invariant.device l.invariant.read.1 c.in_err-next_line.ensures.refused)

pub lines-preserved : goal.lines-preserved
lines-preserved g c =
    let l = c.lines in
    let n = c.next_line.new in
    let line : List ℕ = c.as_slice.result.now in
    let left = listing_left l.reader (g.I.Source.seen l.source).left in
    let now = listing_left n.reader (g.I.Source.seen n.source).left in
    let all = input_lines 256 1099511627776 (g.I.Source.seen c.args.source.now).left in
    let found = c.in_ok-next_line.ensures in
    let numbers = given_number l.reader.number n.reader.number c.lines-in-lines.result c.in_ok-next_line.field-0
    found.number c.if-branch.true c.lines-in-lines.ensures in
    let next = given_line g.I.Source.tells c.in_ok-next_line.field-0 left now n.line.items line found.next
    c.if-branch.true c.as_slice.ensures.value in
    record {
      read = (
        l.invariant.read.0 ++ line ∷ [],
        subst (λ (k : ℕ).
            IsReadTo g.I.Source.tells all now c.take_line.new.self k (l.invariant.read.0 ++ line ∷ [])) (sym numbers.1)
            (read_more g.I.Source.tells all left now l.tally c.take_line.new.self l.reader.number l.invariant.read.0
            line l.invariant.read.1 next
            (λ done last. c.in_ok-take_line.ensures.taken done (last ∙ sym numbers.0))),
      );
      few = omega (arith, numbers.1, l.invariant.few, found.nearer c.if-branch.true);
      bounded = subst (λ (k : ℕ). IsBounded k c.take_line.new.self.sums) (omega (arith, numbers.0, numbers.1))
          c.in_ok-take_line.ensures.bounded;
      kind = c.take_line.ensures.kind ∙ l.invariant.kind;
      device = c.take_line.ensures.device ∙ l.invariant.device;
      later = omega (arith, l.invariant.later, c.next_line.ensures.later);
      keeps = g.met.I.Source.keeps_on true true c.args.source.now l.source n.source l.invariant.keeps found.keeps;
    }

pub returns-in_err-take_line-clause-refused : goal.returns-in_err-take_line-clause-refused
returns-in_err-take_line-clause-refused g c =
    let p = err_from_is_err_and c.from_residual-in_err-take_line.result c.from_residual-in_err-take_line.ensures.1 in
    let l = c.lines in
    let n = c.next_line.new in
    let line : List ℕ = c.as_slice.result.now in
    let left = listing_left l.reader (g.I.Source.seen l.source).left in
    let now = listing_left n.reader (g.I.Source.seen n.source).left in
    let found = c.in_ok-next_line.ensures in
    let numbers = given_number l.reader.number n.reader.number c.lines-in-lines.result c.in_ok-next_line.field-0
    found.number c.if-branch.true c.lines-in-lines.ensures in
    let next = given_line g.I.Source.tells c.in_ok-next_line.field-0 left now n.line.items line found.next
    c.if-branch.true c.as_slice.ensures.value in
    rw (p.1, p.2)
    (line_refused (g.I.Source.seen c.args.source.now).faults (g.I.Source.seen n.source).faults c.args.kind c.args.device
    (g.I.Source.seen c.args.source.now).left
    left now l.tally l.reader.number l.invariant.read.0 g.I.Source.tells line c.in_err-take_line.field-0.0
    l.invariant.device l.invariant.read.1 next
    (subst (λ (k : ℕ). IsRefusedLine l.tally line k c.in_err-take_line.field-0.0) numbers.0
    c.in_err-take_line.ensures.refused))

pub returns-clause-usage : goal.returns-clause-usage
returns-clause-usage g c told =
    let l = c.lines in
    let n = c.next_line.new in
    let left = listing_left l.reader (g.I.Source.seen l.source).left in
    let now = listing_left n.reader (g.I.Source.seen n.source).left in
    let none = none_given g.I.Source.tells c.in_ok-next_line.field-0 left now n.line.items
    c.in_ok-next_line.ensures.next c.if-branch.false told in
    is_whole c.args.kind c.args.device (g.I.Source.seen c.args.source.now).left left l.tally l.reader.number
    l.invariant.read.0 g.I.Source.tells
    l.invariant.kind l.invariant.device l.invariant.read.1 told none
    ∙ ap Ok (sym c.in_ok-into_usage.ensures)
