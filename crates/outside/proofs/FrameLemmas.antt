-- What calls on a store leave, for no call and for two in a row.
use Rattle.std.proofs.Common.{◌≡◌, ◌≤◌, inl, inr, ℕ, Bool, true, false, IsTrue, List, Result, Ok, Err, OnErr, refl, sym}
use Rattle.std.proofs.Common.{◌∙◌, arith, ◌⊎◌, ap}
use Rattle.std.specs.Result.{is_ok}
use Rattle.std.proofs.lemmas.Bool.{cases_Bool, false≢true}
use Rattle.outside.specs.Count.{Rose}
use Rattle.outside.specs.Frame.{AreSynced, ChangesOne, IsUnfailed, OnlyReads}
use Rattle.outside.specs.ManyCalls.{IsSynced, Syncs}
use Rattle.outside.specs.Seen.{StoreSeen}
use Rattle.outside.specs.Unsynced.{AddsNone, UnsyncedNames}
use Rattle.outside.specs.World.{KeepsOthers, KeepsOtherTwo, World}

-- where nothing changed all others are as they were
pub keeps_others-same : {T : Type 0} (name : List ℕ) (old new : List ℕ → T) → new ≡ old → KeepsOthers name old new
keeps_others-same name old new same other differ i = same i other

pub keeps_others-then : {T : Type 0} (name : List ℕ) (old between new : List ℕ → T) → KeepsOthers name old between
    → KeepsOthers name between new → KeepsOthers name old new
keeps_others-then name old between new first second other differ = second other differ ∙ first other differ

pub keeps_other_two-then : {T : Type 0} (one two : List ℕ) (old between new : List ℕ → T)
    → KeepsOtherTwo one two old between → KeepsOtherTwo one two between new → KeepsOtherTwo one two old new
keeps_other_two-then one two old between new first second other differ differs =
    second other differ differs ∙ first other differ differs

-- where no call failed, none of the first ones did
pub unfailed-first : (old between new : StoreSeen) → between.faults ≤ new.faults → (¬ (Rose old.faults new.faults))
    → ¬ (Rose old.faults between.faults)
unfailed-first old between new later none rose = none (omega (arith, later, rose))

-- nor did one of the last ones
pub unfailed-last : (old between new : StoreSeen) → old.faults ≤ between.faults → (¬ (Rose old.faults new.faults))
    → ¬ (Rose between.faults new.faults)
unfailed-last old between new later none rose = none (omega (arith, later, rose))

-- the last ones were done too, or none of them failed
pub unfailed-later : {done : Bool} (old between new : StoreSeen) → old.faults ≤ between.faults → IsUnfailed done old new
    → IsUnfailed done between new
unfailed-later old between new later (inl done) = inl done
unfailed-later old between new later (inr none) = inr (unfailed-last old between new later none)

-- where a call fails only as its count rises, it was done or it failed
pub unfailed-done : {T E : Type 0} (result : Result T E) (old new : StoreSeen)
    → OnErr result (Rose old.faults new.faults) → IsUnfailed (is_ok result) old new → IsTrue (is_ok result)
unfailed-done (Ok told) old new cause so = refl
unfailed-done (Err fault) old new cause (inl done) = done
unfailed-done (Err fault) old new cause (inr none) = absurd (none cause)

-- a call that was not made reads only
pub only_reads-none : {done : Bool} (name : List ℕ) (seen : StoreSeen) → OnlyReads done name seen seen
only_reads-none name seen = record {
  files = refl;
  unsynced = λ other differ. refl;
  later = omega arith;
  writes = refl;
  synced = λ done other is. is;
}

pub only_reads-then : {done : Bool} (name : List ℕ) (old between new : StoreSeen) → OnlyReads true name old between
    → OnlyReads done name between new → OnlyReads done name old new
only_reads-then name old between new first second = record {
  files = second.files ∙ first.files;
  unsynced = keeps_others-then name _ _ _ first.unsynced second.unsynced;
  later = omega (arith, first.later, second.later);
  writes = second.writes ∙ first.writes;
  synced = λ so other is.
      first.synced (inl refl) other (second.synced (unfailed-later old between new first.later so) other is);
}

-- calls of which none failed, whether or not they were done
unfailed-less : {done : Bool} (old new : StoreSeen) → IsUnfailed false old new → IsUnfailed done old new
unfailed-less old new (inl done) = absurd (false≢true done)
unfailed-less old new (inr none) = inr none

unfailed-before : {done : Bool} (old between new : StoreSeen) → between.faults ≤ new.faults → IsUnfailed false old new
    → IsUnfailed done old between
unfailed-before old between new later (inl done) = absurd (false≢true done)
unfailed-before old between new later (inr none) = inr (unfailed-first old between new later none)

pub adds_none-then : (old between new : UnsyncedNames) → AddsNone old between → AddsNone between new → AddsNone old new
adds_none-then old between new first second name is = first name (second name is)

-- what was done is also what was not said to be done
pub only_reads-less : {done : Bool} (name : List ℕ) (old new : StoreSeen) → OnlyReads done name old new
    → OnlyReads false name old new
only_reads-less name old new read = record {
  files = read.files;
  unsynced = read.unsynced;
  later = read.later;
  writes = read.writes;
  synced = λ so. read.synced (unfailed-less old new so);
}

-- two calls in a row, neither of which is said to be done
pub only_reads-any : {one two : Bool} (name : List ℕ) (old between new : StoreSeen) → OnlyReads one name old between
    → OnlyReads two name between new → OnlyReads false name old new
only_reads-any name old between new first second = record {
  files = second.files ∙ first.files;
  unsynced = keeps_others-then name _ _ _ first.unsynced second.unsynced;
  later = omega (arith, first.later, second.later);
  writes = second.writes ∙ first.writes;
  synced = λ so. adds_none-then old.unsynced between.unsynced new.unsynced
      (first.synced (unfailed-before old between new second.later so))
      (second.synced (unfailed-less between new (unfailed-later old between new first.later so)));
}

pub changes_one-none : (name : List ℕ) (seen : StoreSeen) → ChangesOne name seen seen
changes_one-none name seen =
    record { files = λ other differ. refl; unsynced = λ other differ. refl; later = omega arith; reads = refl }

pub changes_one-then : (name : List ℕ) (old between new : StoreSeen) → ChangesOne name old between
    → ChangesOne name between new → ChangesOne name old new
changes_one-then name old between new first second = record {
  files = keeps_others-then name _ _ _ first.files second.files;
  unsynced = keeps_others-then name _ _ _ first.unsynced second.unsynced;
  later = omega (arith, first.later, second.later);
  reads = second.reads ∙ first.reads;
}

-- a name that was synced is synced after a call that made no name unsynced
still_synced : (name : List ℕ) (old new : UnsyncedNames) → AddsNone old new → old name ≡ false → new name ≡ false
still_synced name old new adds was =
    elim (cases_Bool (new name)) [
      | inl is ↦ absurd (false≢true (sym was ∙ adds name is))
      | inr is ↦ is
    ]

-- a call that only read has nothing to sync
pub is_synced-read : (name : List ℕ) (old new : StoreSeen) → OnlyReads true name old new → IsSynced name old new
is_synced-read name old new read = record {
  none = read.synced (inl refl);
  changed = λ other. inr (ap (λ (files : World). files other) read.files);
  named = inr (read.writes, read.files);
}

-- a name is synced after two changes, or its file is as before both
synced_then : (name : List ℕ) (old between new : StoreSeen) → AddsNone between.unsynced new.unsynced
    → (between.unsynced name ≡ false) ⊎ (between.files name ≡ old.files name)
    → (new.unsynced name ≡ false) ⊎ (new.files name ≡ between.files name)
    → (new.unsynced name ≡ false) ⊎ (new.files name ≡ old.files name)
synced_then name old between new adds first (inl synced) = inl synced
synced_then name old between new adds (inl synced) (inr same) =
    inl (still_synced name between.unsynced new.unsynced adds synced)
synced_then name old between new adds (inr was) (inr same) = inr (same ∙ was)

pub is_synced-then : (name : List ℕ) (old between new : StoreSeen) → IsSynced name old between
    → IsSynced name between new → IsSynced name old new
is_synced-then name old between new first second = record {
  none = adds_none-then old.unsynced between.unsynced new.unsynced first.none second.none;
  changed = λ other. synced_then other old between new second.none (first.changed other) (second.changed other);
  named =
      elim second.named [
        | inl synced ↦ inl synced
        | inr unwritten ↦ elim first.named [
          | inl synced ↦ inl (still_synced name between.unsynced new.unsynced second.none synced)
          | inr none ↦ inr (unwritten.0 ∙ none.0, unwritten.1 ∙ none.1)
        ]
      ];
}

-- what was done for one file, as what was done for all
pub are_synced : (name : List ℕ) (old new : StoreSeen) → IsSynced name old new → AreSynced old new
are_synced name old new synced = record { none = synced.none; changed = synced.changed }

pub are_synced-none : (seen : StoreSeen) → AreSynced seen seen
are_synced-none seen = record { none = λ other is. is; changed = λ other. inr refl }

-- calls that only read have nothing to sync
pub are_synced-read : (name : List ℕ) (old new : StoreSeen) → OnlyReads true name old new → AreSynced old new
are_synced-read name old new read =
    record { none = read.synced (inl refl); changed = λ other. inr (ap (λ (files : World). files other) read.files) }

pub are_synced-then : (old between new : StoreSeen) → AreSynced old between → AreSynced between new → AreSynced old new
are_synced-then old between new first second = record {
  none = adds_none-then old.unsynced between.unsynced new.unsynced first.none second.none;
  changed = λ other. synced_then other old between new second.none (first.changed other) (second.changed other);
}

-- nothing was written
pub syncs-none : {done : Bool} (seen : StoreSeen) → Syncs done seen seen
syncs-none seen = record { later = omega arith; synced = λ so. are_synced-none seen }

-- the store was only read
pub syncs-read : {done : Bool} (name : List ℕ) (old new : StoreSeen) → OnlyReads done name old new → Syncs done old new
syncs-read name old new read = record {
  later = read.later;
  synced =
      λ so. record { none = read.synced so; changed = λ other. inr (ap (λ (files : World). files other) read.files) };
}

-- all has been synced, whether or not it is said that this was done
pub syncs-all : {done : Bool} (old new : StoreSeen) → old.faults ≤ new.faults → AreSynced old new → Syncs done old new
syncs-all old new later synced = record { later = later; synced = λ so. synced }

-- a call on the store failed
pub syncs-failed : (old new : StoreSeen) → old.faults ≤ new.faults → Rose old.faults new.faults → Syncs false old new
syncs-failed old new later rose = record {
  later = later;
  synced = λ so.
      elim so [
        | inl done ↦ absurd (false≢true done)
        | inr none ↦ absurd (none rose)
      ];
}

pub syncs-then : {done : Bool} (old between new : StoreSeen) → Syncs true old between → Syncs done between new
    → Syncs done old new
syncs-then old between new first second = record {
  later = omega (arith, first.later, second.later);
  synced = λ so. are_synced-then old between new (first.synced (inl refl))
      (second.synced (unfailed-later old between new first.later so));
}

-- the store was only read before
pub syncs-after_read : {done : Bool} (name : List ℕ) (old between new : StoreSeen) → OnlyReads true name old between
    → Syncs done between new → Syncs done old new
syncs-after_read name old between new read second = syncs-then old between new (syncs-read name old between read) second

-- what was done is also what was not said to be done
pub syncs-less : {done : Bool} (old new : StoreSeen) → Syncs done old new → Syncs false old new
syncs-less old new syncs = record { later = syncs.later; synced = λ so. syncs.synced (unfailed-less old new so) }

-- two in a row, neither of which is said to be done
pub syncs-any : {one two : Bool} (old between new : StoreSeen) → Syncs one old between → Syncs two between new
    → Syncs false old new
syncs-any old between new first second = record {
  later = omega (arith, first.later, second.later);
  synced = λ so.
      are_synced-then old between new (first.synced (unfailed-before old between new second.later so))
      (second.synced (unfailed-less between new (unfailed-later old between new first.later so)));
}
