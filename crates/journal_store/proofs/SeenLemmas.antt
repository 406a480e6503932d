-- What is seen of a store, by what its journal tells.
use Rattle.std.proofs.Common.{◌≡◌, ◌≤◌, ◌⊎◌, ⊎_elim, inl, inr, ℕ, Bool, true, false, IsTrue, refl, List, None, Result}
use Rattle.std.proofs.Common.{Ok, Err, OnOk, OnErr, is_ok, ap, ◌∙◌, arith}
use Rattle.std.proofs.lemmas.Bool.{false≢true}
use Rattle.outside.specs.Count.{Rose, counted}
use Rattle.outside.specs.Frame.{ChangesOne, ChangesTwo, OnlyReads}
use Rattle.outside.specs.Unsynced.{AddsNone, UnsyncedNames}
use Rattle.outside.specs.World.{KeepsOtherTwo, KeepsOthers, World}
use Rattle.outside.proofs.FrameLemmas.{unfailed-done}
use Rattle.journal_store.specs.JournalStore.{seen_as}
use Rattle.journal_store.specs.Told.{LooksAtName, Told}

-- a count that rose by one where a call was refused rose there
pub counted-rose : {T E : Type 0} (result : Result T E) (before now : ℕ) → OnErr result (now ≡ counted before)
    → OnErr result (Rose before now)
counted-rose (Ok value) before now is = tt
counted-rose (Err fault) before now is = omega (arith, is)

pub only_reads-seen : {T E : Type 0} (tells : Bool) (result : Result T E) (name : List ℕ) (a b : Told)
    (fa ra wa fb rb wb : ℕ) → (IsTrue tells → LooksAtName (is_ok result) name a b) → fa ≤ fb → wb ≡ wa
    → OnErr result (Rose fa fb)
    → OnlyReads (is_ok result) name (seen_as tells a fa ra wa) (seen_as tells b fb rb wb)
only_reads-seen true result name a b fa ra wa fb rb wb looks later writes cause = record {
  files = (looks refl).files;
  unsynced = (looks refl).unsynced;
  later = later;
  writes = writes;
  synced =
      λ so. (looks refl).synced (unfailed-done result (seen_as true a fa ra wa) (seen_as true b fb rb wb) cause so);
}
only_reads-seen false result name a b fa ra wa fb rb wb looks later writes cause = record {
  files = refl;
  unsynced = λ other differ. refl;
  later = later;
  writes = writes;
  synced = λ is other unsynced. unsynced;
}

-- a call that was not refused for its reason failed for the other one
pub unrefused : {T E Reason : Type 0} (Other : Type 0) (result : Result T E) → OnErr result (Reason ⊎ Other) → ¬ Reason
    → OnErr result Other
unrefused Other (Ok value) either none = tt
unrefused Other (Err fault) either none = ⊎_elim (λ reason. absurd (none reason)) (λ other. other) either

-- what a store over a disk that tells shows is what its journal tells
pub as_told : (tells : Bool) (t : Told) (faults reads writes : ℕ) (P : UnsyncedNames → World → Type 0) → IsTrue tells
    → P t.unsynced t.files
    → P (seen_as tells t faults reads writes).unsynced (seen_as tells t faults reads writes).files
as_told true t faults reads writes P told is = is
as_told false t faults reads writes P told is = absurd (false≢true told)

-- where a file changed or did not, all others stay
pub keeps-either : (a b changed : World) (name : List ℕ) → KeepsOthers name a changed → (b ≡ a) ⊎ (b ≡ changed)
    → KeepsOthers name a b
keeps-either a b changed name keeps (inl same) other differ = ap (λ (f : World). f other) same
keeps-either a b changed name keeps (inr is) other differ = ap (λ (f : World). f other) is ∙ keeps other differ

pub changes_one-seen : (tells : Bool) (name : List ℕ) (a b : Told) (fa ra wa fb rb wb : ℕ)
    → (IsTrue tells → KeepsOthers name a.files b.files) → (IsTrue tells → KeepsOthers name a.unsynced b.unsynced)
    → fa ≤ fb → rb ≡ ra → ChangesOne name (seen_as tells a fa ra wa) (seen_as tells b fb rb wb)
changes_one-seen true name a b fa ra wa fb rb wb files names later reads =
    record { files = files refl; unsynced = names refl; later = later; reads = reads }
changes_one-seen false name a b fa ra wa fb rb wb files names later reads =
    record { files = λ other differ. refl; unsynced = λ other differ. refl; later = later; reads = reads }

pub changes_two-seen : (tells : Bool) (one two : List ℕ) (a b : Told) (fa ra wa fb rb wb : ℕ)
    → (IsTrue tells → KeepsOtherTwo one two a.files b.files)
    → (IsTrue tells → KeepsOtherTwo one two a.unsynced b.unsynced) → fa ≤ fb → rb ≡ ra
    → ChangesTwo one two (seen_as tells a fa ra wa) (seen_as tells b fb rb wb)
changes_two-seen true one two a b fa ra wa fb rb wb files names later reads =
    record { files = files refl; unsynced = names refl; later = later; reads = reads }
changes_two-seen false one two a b fa ra wa fb rb wb files names later reads = record {
  files = λ other differ differs. refl;
  unsynced = λ other differ differs. refl;
  later = later;
  reads = reads;
}

-- what follows from a call that was done and from one that was not
pub by_result : {T E P Q : Type 0} (result : Result T E) (R : Type 0) → OnOk result P → OnErr result Q
    → (P → R) → (Q → R) → R
by_result (Ok value) R ok err done undone = done ok
by_result (Err fault) R ok err done undone = undone err

-- a call that was done adds no unsynced name where there is no file, as its journal tells
pub adds_none-seen : {T E : Type 0} (tells : Bool) (result : Result T E) (from : List ℕ) (a b : Told)
    → OnOk result (IsTrue tells → a.files from ≡ None → AddsNone a.unsynced b.unsynced)
    → OnOk result (IsTrue tells → (seen_as tells a 0 0 0).files from ≡ None
    → AddsNone (seen_as tells a 0 0 0).unsynced (seen_as tells b 0 0 0).unsynced)
adds_none-seen true result from a b is = is
adds_none-seen false (Ok value) from a b is = λ told absent other unsynced. unsynced
adds_none-seen false (Err fault) from a b is = tt
