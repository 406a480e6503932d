use Rattle.std.proofs.Common.{◌≡◌, ◌≤◌, List, ℕ, [], true, unwrap_or, IsTrue}
use Rattle.outside.specs.World.{KeepsOthers}
use Rattle.disk.specs.DiskSeen.{Passes}
use Rattle.quota_types.specs.Bytes.{number_at}
use Rattle.edit_journal.specs.Recovery.{MendsFile}
use Rattle.edit_journal.specs.ByteRanges.{laid}
use Rattle.edit_journal.specs.Undo.{saved_ranges, ranges_fit}
use Rattle.edit_journal.proofs.recovery.lay_spans.Given as goal

abbrev pub invariant-loop-k : goal.invariant-loop-k
invariant-loop-k g l =
    let D = g.D.Disk in
    let undo : List ℕ = unwrap_or ((D.seen l.fn.disk).files l.undo) [] in
    record {
      same : IsTrue D.tells → (old_length : ℕ) → ranges_fit old_length (saved_ranges undo 0 l.count) ≡ true
          → (D.seen l.disk).files l.undo ≡ (D.seen l.fn.disk).files l.undo;
      laid : IsTrue D.tells → (old_length : ℕ) → ranges_fit old_length (saved_ranges undo 0 l.count) ≡ true
          → unwrap_or ((D.seen l.disk).files l.name) []
          ≡ laid (saved_ranges undo 0 l.k) (unwrap_or ((D.seen l.fn.disk).files l.name) []);
      passes : IsTrue D.tells → (old_length : ℕ) → ranges_fit old_length (saved_ranges undo 0 l.count) ≡ true
          → number_at 4 undo 16 ≡ l.count
          → Passes (MendsFile l.name undo) (D.seen l.fn.disk) (D.seen l.disk);
      names : KeepsOthers l.name (D.seen l.fn.disk).unsynced (D.seen l.disk).unsynced;
      counted : (D.seen l.fn.disk).faults ≤ (D.seen l.disk).faults;
    }
