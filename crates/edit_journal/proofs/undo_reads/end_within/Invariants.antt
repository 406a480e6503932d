use Rattle.std.proofs.Common.{◌≡◌, ℕ, ◌+◌, ◌<◌, ◌≤◌, [], unwrap_or, IsTrue}
use Rattle.disk.specs.DiskSeen.{Passes}
use Rattle.edit_journal.specs.Recovery.{IsSame}
use Rattle.edit_journal.specs.Undo.{range_at}
use Rattle.quota_types.specs.Bytes.{number_at}
use Rattle.edit_journal.proofs.undo_reads.end_within.Given as goal

abbrev pub invariant-loop-k : goal.invariant-loop-k
invariant-loop-k g l =
    let D = g.D.Disk in
    record {
      within : IsTrue D.tells → (i : ℕ) → i < l.k
          → range_at i + 16 + number_at 2 (unwrap_or ((D.seen l.fn.disk).files l.undo) []) (range_at i + 8) ≤ l.length;
      names : (D.seen l.disk).unsynced ≡ (D.seen l.fn.disk).unsynced;
      counted : (D.seen l.fn.disk).faults ≤ (D.seen l.disk).faults;
      looks : Passes IsSame (D.seen l.fn.disk) (D.seen l.disk);
    }
