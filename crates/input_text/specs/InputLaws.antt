-- What a file of a store as a source keeps along its calls is kept by no call, by two in a row, and whether or not they
-- answered Ok.
use Rattle.std.specs.Prelude.{◌≤◌, ◌⊎◌, ◌&&◌, ◌++◌, Bool, true, false, List, [], ℕ, refl}
use Rattle.std.proofs.Common.{◌∙◌, inl, inr, arith, subst}
use Rattle.std.proofs.Math.Nat.{le_refl, le_trans}
use Rattle.std.proofs.lemmas.Bool.{and_parts}
use Rattle.std.specs.String.{string_bytes}
use Rattle.outside.specs.Behind.{behind_nothing, behind_on}
use Rattle.outside.specs.Count.{Rose}
use Rattle.outside.specs.Frame.{IsUnfailed, OnlyReads}
use Rattle.outside.specs.Seen.{StoreSeen}
use Rattle.input_text.specs.StoreInput.{KeepsInput}
use Rattle.outside.specs.Unsynced.{AddsNone, UnsyncedNames}
use Rattle.outside.specs.World.{World}
use Rattle.input_text.specs.declared.store_input.StoreInput.{StoreInput}

-- no name is unsynced that was not, unless the count of faults rose: so along two calls in a row where it is so along
-- each
unsynced_on : (faults faults_between faults_last : ℕ) (names names_between names_last : UnsyncedNames)
    → faults ≤ faults_between → faults_between ≤ faults_last
    → (Rose faults faults_between ⊎ AddsNone names names_between)
    → (Rose faults_between faults_last ⊎ AddsNone names_between names_last)
    → Rose faults faults_last ⊎ AddsNone names names_last
unsynced_on faults faults_between faults_last names names_between names_last later later_last one two =
    elim one [
      | inl rose ↦ inl (le_trans rose later_last)
      | inr none ↦ elim two [
        | inl rose ↦ inl (omega (arith, later, rose))
        | inr none_last ↦ inr (λ name is. none name (none_last name is))
      ]
    ]

-- two calls in a row were done, or nothing failed in them: so it is of each
unfailed_on : (ok ok_last : Bool) (first between last : StoreSeen) → first.faults ≤ between.faults
    → between.faults ≤ last.faults
    → IsUnfailed (ok && ok_last) first last → IsUnfailed ok first between × IsUnfailed ok_last between last
unfailed_on ok ok_last first between last later later_last (inl both) =
    (inl (and_parts ok ok_last both).0, inl (and_parts ok ok_last both).1)
unfailed_on ok ok_last first between last later later_last (inr none) =
    (inr (λ rose. none (le_trans rose later_last)), inr (λ rose. none (omega (arith, later, rose))))

module _ {S : Type 0} (tells : Bool) (seen : S → StoreSeen) (commits : List World → S → S → Type 0) where
  pub keeps_input_itself : ((worlds : List World) (store : S) → commits worlds store store)
      → (input : StoreInput S) → KeepsInput tells seen commits true input input
  keeps_input_itself nothing input = record {
    source = refl;
    store = refl;
    name = refl;
    leaves = record {
      files = refl;
      unsynced = λ other differs. refl;
      later = le_refl _;
      writes = refl;
      synced = λ ok name is. is;
    };
    unsynced = inr (λ name is. is);
    behind = λ told. behind_nothing _;
    committed = nothing [] input.store.now;
  }

  pub keeps_input_on : ((one two : List World) (first between last : S) → commits one first between
      → commits two between last → commits (one ++ two) first last)
      → (ok ok_last : Bool) (first between last : StoreInput S) → KeepsInput tells seen commits ok first between
      → KeepsInput tells seen commits ok_last between last
      → KeepsInput tells seen commits (ok && ok_last) first last
  keeps_input_on on ok ok_last first between last one two =
      let read : OnlyReads ok_last (string_bytes first.source.now.name) (seen between.store.now) (seen last.store.now) =
      subst (λ (name : List ℕ). OnlyReads ok_last name (seen between.store.now) (seen last.store.now))
      one.name two.leaves in
      record {
        source = two.source ∙ one.source;
        store = two.store ∙ one.store;
        name = two.name ∙ one.name;
        leaves = record {
          files = read.files ∙ one.leaves.files;
          unsynced = λ other differs. read.unsynced other differs ∙ one.leaves.unsynced other differs;
          later = le_trans one.leaves.later read.later;
          writes = read.writes ∙ one.leaves.writes;
          synced = λ so name is.
              let each = unfailed_on ok ok_last (seen first.store.now) (seen between.store.now) (seen last.store.now)
              one.leaves.later read.later so in
              one.leaves.synced each.0 name (read.synced each.1 name is);
        };
        unsynced = unsynced_on _ _ _ _ _ _ one.leaves.later read.later one.unsynced two.unsynced;
        behind = λ told. behind_on _ _ _ (one.behind told) (two.behind told);
        committed = on [] [] first.store.now between.store.now last.store.now one.committed two.committed;
      }

  pub keeps_input_any : (old new : StoreInput S) → KeepsInput tells seen commits true old new
      → KeepsInput tells seen commits false old new
  keeps_input_any old new kept = record {
    source = kept.source;
    store = kept.store;
    name = kept.name;
    leaves = record {
      files = kept.leaves.files;
      unsynced = kept.leaves.unsynced;
      later = kept.leaves.later;
      writes = kept.leaves.writes;
      synced = λ so. kept.leaves.synced (inl refl);
    };
    unsynced = kept.unsynced;
    behind = kept.behind;
    committed = kept.committed;
  }
