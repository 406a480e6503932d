-- Names that are unsynced, call by call, and as a set in memory.
use Rattle.std.proofs.Common.{◌≡◌, ◌≢◌, ◌⊎◌, inl, inr, ℕ, Bool, true, false, cond, IsTrue, List, Some, Result, Ok, Err}
use Rattle.std.proofs.Common.{OnOk, OnErr, refl, sym, ap, subst, ◌∙◌}
use Rattle.std.specs.Option.{is_some}
use Rattle.std.specs.Str.{bytes_eq}
use Rattle.std.proofs.lemmas.Bool.{cases_Bool, cond-true, cond-false, false≢true, true≢false}
use Rattle.outside.specs.ManyCalls.{replaced_names}
use Rattle.outside.specs.Replacement.{ReplacesOnly, replacement_name}
use Rattle.outside.specs.Unsynced.{AddsNone, UnsyncedNames, with_handed, with_name}
use Rattle.outside.specs.World.{KeepsOthers, KeepsOtherTwo, World, with_file}
use Rattle.outside.proofs.WorldLemmas.{apart_names, bytes_eq-ne, bytes_eq-same, with_file-at}

-- two sets with the same names
pub same_names : (one other : UnsyncedNames) → ((name : List ℕ) → one name ≡ other name) → one ≡ other
same_names one other same = λ i name. same name i

cond_of_cond : (test x y z : Bool) → cond test x (cond test y z) ≡ cond test x z
cond_of_cond true x y z = refl
cond_of_cond false x y z = refl

swap : (one other x y z : Bool) → (one ≡ true → other ≡ true → ⊥)
    → cond one x (cond other y z) ≡ cond other y (cond one x z)
swap true true x y z apart = absurd (apart refl refl)
swap true false x y z apart = refl
swap false other x y z apart = refl

-- the name itself
pub with_name-at : (names : UnsyncedNames) (name : List ℕ) (is : Bool) → with_name names name is name ≡ is
with_name-at names name is = cond-true _ _ _ (bytes_eq-same name)

-- set and set again
pub with_name-cond_of_cond : (names : UnsyncedNames) (name : List ℕ) (one other : Bool)
    → with_name (with_name names name one) name other ≡ with_name names name other
with_name-cond_of_cond names name one other = same_names _ _ (λ n. cond_of_cond (bytes_eq name n) other one (names n))

-- two names in either order
pub with_name-swap : (names : UnsyncedNames) (from to : List ℕ) (one other : Bool) → from ≢ to
    → with_name (with_name names to other) from one ≡ with_name (with_name names from one) to other
with_name-swap names from to one other differ =
    same_names _ _ (λ n. swap (bytes_eq from n) (bytes_eq to n) one other (names n) (apart_names from to n differ))

-- other names stay
pub with_name-others : (names : UnsyncedNames) (name : List ℕ) (is : Bool)
    → KeepsOthers name names (with_name names name is)
with_name-others names name is other differ = cond-false _ _ _ (bytes_eq-ne name other (λ same. differ (sym same)))

pub with_name-others_is : (names new : UnsyncedNames) (name : List ℕ) (is : Bool) → new ≡ with_name names name is
    → KeepsOthers name names new
with_name-others_is names new name is e =
    subst (λ (n : UnsyncedNames). KeepsOthers name names n) (sym e) (with_name-others names name is)

-- names but two stay
pub handed-others : (names new : UnsyncedNames) (from to : List ℕ) (one other : Bool)
    → new ≡ with_name (with_name names from one) to other → KeepsOtherTwo from to names new
handed-others names new from to one other e n differ differs =
    ap (λ (s : UnsyncedNames). s n) e
    ∙ with_name-others (with_name names from one) to other n differs
    ∙ with_name-others names from one n differ

-- one more write of a name
pub with_name-more : (old now new : UnsyncedNames) (name : List ℕ) → now ≡ with_name old name true
    → new ≡ with_name now name true → new ≡ with_name old name true
with_name-more old now new name is e =
    e ∙ ap (λ (n : UnsyncedNames). with_name n name true) is ∙ with_name-cond_of_cond old name true true

-- what was written is synced
pub with_name-synced : (old now new : UnsyncedNames) (name : List ℕ) → now ≡ with_name old name true
    → new ≡ with_name now name false → new ≡ with_name old name false
with_name-synced old now new name is e =
    e ∙ ap (λ (n : UnsyncedNames). with_name n name false) is ∙ with_name-cond_of_cond old name true false

-- a new file was written and synced under the added name, and took the place of the named one
pub replaced-names : (files written : World) (old now new : UnsyncedNames) (new_name name : List ℕ) (bytes : List ℕ)
    → new_name ≡ replacement_name name
    → written ≡ with_file files new_name (Some bytes) → now ≡ with_name old new_name false
    → (is_some (written new_name) ≡ true → new ≡ with_handed now new_name name) → new ≡ replaced_names old name
replaced-names files written old now new new_name name bytes is wrote synced handed =
    let there : is_some (written new_name) ≡ true =
    ap (λ (f : World). is_some (f new_name)) wrote ∙ ap is_some (with_file-at files new_name (Some bytes)) in
    let off : now new_name ≡ false = ap (λ (n : UnsyncedNames). n new_name) synced ∙ with_name-at old new_name false in
    handed there
    ∙ ap (λ (b : Bool). with_name (with_name now new_name false) name b) off
    ∙ ap (λ (n : UnsyncedNames). with_name (with_name n new_name false) name false) synced
    ∙ ap (λ (n : UnsyncedNames). with_name n name false) (with_name-cond_of_cond old new_name false false)
    ∙ ap (λ (n : List ℕ). with_name (with_name old n false) name false) is

off_adds_none : (test was : Bool) → IsTrue (cond test false was) → IsTrue was
off_adds_none true was is = absurd (false≢true is)
off_adds_none false was is = is

-- a name that was synced adds none
pub with_name-adds_none : (old new : UnsyncedNames) (name : List ℕ) → new ≡ with_name old name false → AddsNone old new
with_name-adds_none old new name e n is =
    off_adds_none (bytes_eq name n) (old n) (subst (λ (s : UnsyncedNames). IsTrue (s n)) e is)

-- a replacement makes no name unsynced that was not
pub replaced-adds_none : (old new : UnsyncedNames) (name : List ℕ) → new ≡ replaced_names old name → AddsNone old new
replaced-adds_none old new name e n is =
    off_adds_none (bytes_eq (replacement_name name) n) (old n)
    (off_adds_none (bytes_eq name n) _ (subst (λ (s : UnsyncedNames). IsTrue (s n)) e is))

-- the replaced name is synced
pub replaced-named : (old new : UnsyncedNames) (name : List ℕ) → new ≡ replaced_names old name → new name ≡ false
replaced-named old new name e =
    ap (λ (s : UnsyncedNames). s name) e ∙ with_name-at (with_name old (replacement_name name) false) name false

-- a file that was replaced is synced, and all others are as before
pub replaced-changed : (names names' : UnsyncedNames) (files files' : World) (name : List ℕ)
    → names' ≡ replaced_names names name → ReplacesOnly name files files'
    → (other : List ℕ) → (names' other ≡ false) ⊎ (files' other ≡ files other)
replaced-changed names names' files files' name is leaves other =
    let at : names' other
    ≡ cond (bytes_eq name other) false (cond (bytes_eq (replacement_name name) other) false (names other)) =
    ap (λ (n : UnsyncedNames). n other) is in
    elim (cases_Bool (bytes_eq name other)) [
      | inl same ↦ inl (at ∙ cond-true _ _ _ same)
      | inr differs ↦ elim (cases_Bool (bytes_eq (replacement_name name) other)) [
        | inl added ↦ inl (at ∙ cond-false _ _ _ differs ∙ cond-true _ _ _ added)
        | inr apart ↦ inr (leaves other
            (λ same. true≢false (sym (ap (λ (n : List ℕ). bytes_eq name n) same ∙ bytes_eq-same name) ∙ differs))
            (λ same. true≢false
            (sym (ap (λ (n : List ℕ). bytes_eq (replacement_name name) n) same ∙ bytes_eq-same (replacement_name name))
            ∙ apart)))
      ]
    ]

-- what a name has where all names have the same
at_name : {X : Type 0} (old new : List ℕ → X) → new ≡ old → (name : List ℕ) → new name ≡ old name
at_name old new same name i = same i name

-- where a call changed one thing or none, all others are as they were
pub keeps_others-result : {X A E : Type 0} (result : Result A E) (name : List ℕ) (old changed new : List ℕ → X)
    → KeepsOthers name old changed → OnOk result (new ≡ changed) → OnErr result (new ≡ old) → KeepsOthers name old new
keeps_others-result (Ok value) name old changed new kept ok err =
    λ other differ. at_name changed new ok other ∙ kept other differ
keeps_others-result (Err fault) name old changed new kept ok err = λ other differ. at_name old new err other

pub keeps_other_two-result : {X A E : Type 0} (result : Result A E) (one two : List ℕ) (old changed new : List ℕ → X)
    → KeepsOtherTwo one two old changed → OnOk result (new ≡ changed) → OnErr result (new ≡ old)
    → KeepsOtherTwo one two old new
keeps_other_two-result (Ok value) one two old changed new kept ok err =
    λ other differ differs. at_name changed new ok other ∙ kept other differ differs
keeps_other_two-result (Err fault) one two old changed new kept ok err =
    λ other differ differs. at_name old new err other

-- what was written is synced, where the call that syncs answered Ok
pub synced_on_ok : {A E : Type 0} (result : Result A E) (told : Type 0) (old now new : UnsyncedNames) (name : List ℕ)
    → (told → now ≡ with_name old name true) → OnOk result (told → new ≡ with_name now name false)
    → OnOk result (told → new ≡ with_name old name false)
synced_on_ok (Ok value) told old now new name wrote synced = λ t. with_name-synced old now new name (wrote t) (synced t)
synced_on_ok (Err fault) told old now new name wrote synced = tt

-- one name was put into the set or taken out of it as the other one stood there, which was taken out then
pub handed : (old now new : UnsyncedNames) (from to : List ℕ) (was : Bool) → old from ≡ was → now ≡ with_name old to was
    → new ≡ with_name now from false → from ≢ to → new ≡ with_name (with_name old from false) to (old from)
handed old now new from to was is put taken differ =
    taken
    ∙ ap (λ (n : UnsyncedNames). with_name n from false) put
    ∙ with_name-swap old from to false was differ
    ∙ ap (λ (b : Bool). with_name (with_name old from false) to b) (sym is)
