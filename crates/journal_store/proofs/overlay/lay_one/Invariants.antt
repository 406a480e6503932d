use Rattle.std.proofs.Common.{◌≡◌, List, ℕ, ◌+◌, ◌<◌, ◌≤◌, length, get_or}
use Rattle.quota_types.specs.Bytes.{byte_at}
use Rattle.edit_journal.specs.ByteRanges.{with_laid}
use Rattle.journal_store.proofs.overlay.lay_one.Given as goal

abbrev pub invariant-loop-place : goal.invariant-loop-place
invariant-loop-place l =
    record {
      done : (file : List ℕ) → ((j : ℕ) → j < length l.fn.buf → get_or l.fn.buf j 0 ≡ byte_at file (l.at + j))
          → (j : ℕ) → j < l.place
          → get_or l.buf j 0 ≡ byte_at (with_laid file l.range.at l.range.bytes.items) (l.at + j);
      rest : (j : ℕ) → l.place ≤ j → get_or l.buf j 0 ≡ get_or l.fn.buf j 0;
    }
