use Rattle.std.proofs.Common.{◌≡◌, ℕ, ◌+◌, ◌-◌, ◌≤◌, List, true}
use Rattle.input_text.specs.InputLines.{input_lines}
use Rattle.inode_scan.specs.ListingFaults.{listing_left}
use Rattle.inode_scan.specs.Tally.{IsBounded}
use Rattle.inode_scan.proofs.ScanLemmas.{IsReadTo}
use Rattle.inode_scan.proofs.scanning.scan.Given as goal

abbrev pub invariant-lines : goal.invariant-lines
invariant-lines g l =
    let I = g.I.Source in
    record {
      read : (done : List (List ℕ))
          × IsReadTo I.tells (input_lines 256 1099511627776 (I.seen l.fn.source).left)
          (listing_left l.reader (I.seen l.source).left) l.tally l.reader.number done;
      few : l.reader.number + (1099511627776 - l.reader.given) ≤ 1099511627777;
      bounded : IsBounded (l.reader.number - 1) l.tally.sums;
      kind : l.tally.kind ≡ l.fn.kind;
      device : l.tally.device ≡ l.fn.device;
      later : (I.seen l.fn.source).faults ≤ (I.seen l.source).faults;
      keeps : I.keeps true l.fn.source l.source;
    }

abbrev pub decreases-lines : goal.decreases-lines
decreases-lines g l = 1099511627776 - l.reader.given
