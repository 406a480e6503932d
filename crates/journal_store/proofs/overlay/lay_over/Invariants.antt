use Rattle.std.proofs.Common.{◌≡◌, List, ℕ, ◌+◌, ◌<◌, length, take, get_or}
use Rattle.quota_types.specs.Bytes.{byte_at}
use Rattle.edit_journal.specs.ByteRanges.{laid, ranges_of}
use Rattle.journal_store.proofs.overlay.lay_over.Given as goal

abbrev pub invariant-loop-range : goal.invariant-loop-range
invariant-loop-range l =
    (file : List ℕ) → ((j : ℕ) → j < length l.fn.buf → get_or l.fn.buf j 0 ≡ byte_at file (l.at + j))
    → (j : ℕ) → j < length l.fn.buf
    → get_or l.buf j 0 ≡ byte_at (laid (ranges_of (take l.range-index l.ranges)) file) (l.at + j)
