use Rattle.std.proofs.Common.{◌≤◌, [], take, unwrap_or, IsTrue}
use Rattle.outside.specs.World.{KeepsOthers}
use Rattle.disk.specs.DiskSeen.{Passes}
use Rattle.edit_journal.specs.Settled.{TearsFrom}
use Rattle.edit_journal.specs.ByteRanges.{ranges_of}
use Rattle.edit_journal.specs.UndoSaves.{SavesFrom}
use Rattle.edit_journal.proofs.undo_file.save_ranges.Given as goal

abbrev pub invariant-loop-index : goal.invariant-loop-index
invariant-loop-index g l =
    let D = g.D.Disk in
    record {
      saved : IsTrue D.tells
          → SavesFrom (unwrap_or ((D.seen l.fn.disk).files l.name) []) 0 (ranges_of (take l.index l.ranges))
          (unwrap_or ((D.seen l.disk).files l.undo) []);
      passes : Passes (TearsFrom l.undo 8) (D.seen l.fn.disk) (D.seen l.disk);
      names : KeepsOthers l.undo (D.seen l.fn.disk).unsynced (D.seen l.disk).unsynced;
      counted : (D.seen l.fn.disk).faults ≤ (D.seen l.disk).faults;
    }
