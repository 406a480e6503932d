use Rattle.std.proofs.Common.{◌≡◌, ℕ, ◌<◌, ◌≤◌, [], true, unwrap_or, IsTrue}
use Rattle.disk.specs.DiskSeen.{Passes}
use Rattle.edit_journal.specs.Recovery.{IsSame}
use Rattle.edit_journal.specs.Undo.{saved_range, range_fits}
use Rattle.edit_journal.proofs.undo_reads.all_fit.Given as goal

abbrev pub invariant-loop-k : goal.invariant-loop-k
invariant-loop-k g l =
    let D = g.D.Disk in
    record {
      fit : IsTrue D.tells → (i : ℕ) → i < l.k
          → range_fits l.old_length (saved_range (unwrap_or ((D.seen l.fn.disk).files l.undo) []) i) ≡ true;
      names : (D.seen l.disk).unsynced ≡ (D.seen l.fn.disk).unsynced;
      counted : (D.seen l.fn.disk).faults ≤ (D.seen l.disk).faults;
      looks : Passes IsSame (D.seen l.fn.disk) (D.seen l.disk);
    }
