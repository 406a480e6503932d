use Rattle.std.proofs.Common.{◌≡◌, List, ℕ, length, take}
use Rattle.edit_journal.specs.ByteRanges.{laid, ranges_of}
use Rattle.journal_store.proofs.overlay.laid_length.Given as goal

abbrev pub invariant-loop-range : goal.invariant-loop-range
invariant-loop-range l =
    (file : List ℕ) → length file ≡ l.fn.old_length
    → l.longest ≡ length (laid (ranges_of (take l.range-index l.ranges)) file)
