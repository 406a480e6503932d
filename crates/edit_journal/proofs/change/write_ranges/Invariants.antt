use Rattle.std.proofs.Common.{◌≡◌, ◌≤◌, List, ℕ, Some, take, IsTrue}
use Rattle.outside.specs.World.{KeepsOthers}
use Rattle.disk.specs.DiskSeen.{Passes}
use Rattle.edit_journal.specs.Settled.{TearsRanges}
use Rattle.edit_journal.specs.ByteRanges.{laid, ranges_of}
use Rattle.edit_journal.proofs.change.write_ranges.Given as goal

abbrev pub invariant-loop-range : goal.invariant-loop-range
invariant-loop-range g l =
    let D = g.D.Disk in
    record {
      written : IsTrue D.tells → (old : List ℕ) → (D.seen l.fn.disk).files l.name ≡ Some old
          → (D.seen l.disk).files l.name ≡ Some (laid (ranges_of (take l.range-index l.ranges)) old);
      passes : Passes (TearsRanges l.name (ranges_of l.ranges)) (D.seen l.fn.disk) (D.seen l.disk);
      names : KeepsOthers l.name (D.seen l.fn.disk).unsynced (D.seen l.disk).unsynced;
      counted : (D.seen l.fn.disk).faults ≤ (D.seen l.disk).faults;
    }
