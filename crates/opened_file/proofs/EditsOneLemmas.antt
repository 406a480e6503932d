-- What changes of one file leave, for none and for two in a row.
use Rattle.std.proofs.Common.{ℕ, Bool, List, inl, inr, refl, subst, ◌∙◌, arith}
use Rattle.outside.specs.Count.{Rose}
use Rattle.outside.specs.Frame.{ChangesOne, OnlyReads}
use Rattle.outside.specs.Seen.{StoreSeen}
use Rattle.opened_file.specs.EditsOne.{EditsOne, StaysUnlessWritten}
use Rattle.outside.proofs.FrameLemmas.{keeps_others-same, keeps_others-then}

pub edits_one-none : (name : List ℕ) (seen : StoreSeen) → EditsOne name seen seen
edits_one-none name seen = record {
  files = λ other differ. refl;
  unsynced = λ other differ. refl;
  later = omega arith;
  written = inl (refl, refl);
}

-- a count that rose stays risen
rose_then : (old between new : ℕ) → Rose old between → Rose between new → Rose old new
rose_then old between new first second = omega (arith, first, second)

-- while neither of two calls wrote nothing has changed
written_then : (old between new : StoreSeen) → StaysUnlessWritten old between → StaysUnlessWritten between new
    → StaysUnlessWritten old new
written_then old between new (inl first) (inl second) = inl (second.0 ∙ first.0, second.1 ∙ first.1)
written_then old between new (inl first) (inr rose) = inr (subst (λ (writes : ℕ). Rose writes new.writes) first.1 rose)
written_then old between new (inr rose) (inl second) = inr (omega (arith, rose, second.1))
written_then old between new (inr first) (inr second) =
    inr (rose_then old.writes between.writes new.writes first second)

pub edits_one-then : (name : List ℕ) (old between new : StoreSeen) → EditsOne name old between
    → EditsOne name between new → EditsOne name old new
edits_one-then name old between new first second = record {
  files = keeps_others-then name _ _ _ first.files second.files;
  unsynced = keeps_others-then name _ _ _ first.unsynced second.unsynced;
  later = omega (arith, first.later, second.later);
  written = written_then old between new first.written second.written;
}

-- a call that only reads changes no file
pub edits_one-read : {done : Bool} (name : List ℕ) (old new : StoreSeen) → OnlyReads done name old new
    → EditsOne name old new
edits_one-read name old new read = record {
  files = keeps_others-same name _ _ read.files;
  unsynced = read.unsynced;
  later = read.later;
  written = inl (read.files, read.writes);
}

-- a change after a call that only reads
pub edits_one-after_read : {done : Bool} (name : List ℕ) (old between new : StoreSeen) → OnlyReads done name old between
    → EditsOne name between new → EditsOne name old new
edits_one-after_read name old between new first second =
    edits_one-then name old between new (edits_one-read name old between first) second

-- a call that changes one name
pub edits_one-changed : (name : List ℕ) (old new : StoreSeen) → ChangesOne name old new → StaysUnlessWritten old new
    → EditsOne name old new
edits_one-changed name old new leaves written =
    record { files = leaves.files; unsynced = leaves.unsynced; later = leaves.later; written = written }
