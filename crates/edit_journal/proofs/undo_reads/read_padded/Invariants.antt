use Rattle.std.proofs.Common.{◌≡◌, ℕ, ◌+◌, ◌<◌, [], get_or, unwrap_or, IsTrue}
use Rattle.quota_types.specs.Bytes.{byte_at}
use Rattle.edit_journal.proofs.undo_reads.read_padded.Given as goal

abbrev pub invariant-loop-place : goal.invariant-loop-place
invariant-loop-place g l =
    let D = g.D.Disk in
    IsTrue D.tells → (j : ℕ) → j < l.place
    → get_or l.buf j 0 ≡ byte_at (unwrap_or ((D.seen l.fn.disk).files l.name) []) (l.at + j)
