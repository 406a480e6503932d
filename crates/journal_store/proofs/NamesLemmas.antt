-- Which names a journal tells to be unsynced after a change.
use Rattle.std.proofs.Common.{◌≡◌, ◌≢◌, inl, inr, ℕ, Bool, ◌||◌, ◌&&◌, true, false, IsTrue, refl, List, [], ◌∷◌, ◌++◌}
use Rattle.std.proofs.Common.{length, sym, ap, ◌∙◌, arith, length-append}
use Rattle.std.specs.Prelude.{nat_eq, not}
use Rattle.std.specs.Str.{bytes_eq}
use Rattle.std.proofs.Math.Bool.{and-false}
use Rattle.std.proofs.lemmas.Bool.{cases_Bool, cond-false, cond-true, eqb-true, false_from_ne_true, false≢true}
use Rattle.outside.specs.Unsynced.{AddsNone, UnsyncedNames, with_handed, with_name}
use Rattle.outside.specs.World.{KeepsOthers}
use Rattle.outside.proofs.UnsyncedLemmas.{with_name-at}
use Rattle.outside.proofs.WorldLemmas.{bytes_eq-ne, bytes_eq-same, bytes_eq-true}
use Rattle.edit_journal.specs.ByteRanges.{ByteRange}
use Rattle.journal_store.specs.Kinds.{is_undo}
use Rattle.journal_store.specs.Told.{are_kept, told_names}
use Rattle.journal_store.proofs.ToldLemmas.{differs}

-- where one name is so, and all others are as they were
pub names-with : (one other : UnsyncedNames) (name : List ℕ) (is : Bool) → KeepsOthers name one other → other name ≡ is
    → other ≡ with_name one name is
names-with one other name is keeps same = λ i n. by n i
  where
    by : (n : List ℕ) → other n ≡ with_name one name is n
    by n =
        elim (cases_Bool (bytes_eq name n)) [
          | inl same_name ↦ ap other (sym (bytes_eq-true name n same_name)) ∙ same ∙ sym (cond-true _ _ _ same_name)
          | inr apart ↦ keeps n (differs name n apart) ∙ sym (cond-false _ _ _ apart)
        ]

pub are_kept-none : (held name : List ℕ) → are_kept held [] name ≡ false
are_kept-none held name = and-false (bytes_eq held name)

pub are_kept-other : (held : List ℕ) (spans : List ByteRange) (name : List ℕ) → name ≢ held
    → are_kept held spans name ≡ false
are_kept-other held spans name differ =
    ap (λ (b : Bool). b && not (nat_eq (length spans) 0)) (bytes_eq-ne held name (λ same. differ (sym same)))

-- a name for which no ranges are kept
pub names-told : (names : UnsyncedNames) (held : List ℕ) (spans : List ByteRange) (name : List ℕ) → is_undo name ≡ false
    → are_kept held spans name ≡ false → told_names names held spans name ≡ names name
names-told names held spans name undo none = cond-false _ _ _ undo ∙ ap (λ (b : Bool). b || names name) none

-- all other names stay
pub with_name-other : (names : UnsyncedNames) (name : List ℕ) (is : Bool)
    → KeepsOthers name names (with_name names name is)
with_name-other names name is n differ = cond-false _ _ _ (bytes_eq-ne name n (λ same. differ (sym same)))

-- a name that stays so is told as before
pub told-names-at : (one other : UnsyncedNames) (held : List ℕ) (spans : List ByteRange) (n : List ℕ) → other n ≡ one n
    → told_names other held spans n ≡ told_names one held spans n
told-names-at one other held spans n same =
    elim (cases_Bool (is_undo n)) [
      | inl is ↦ cond-true _ _ _ is ∙ sym (cond-true _ _ _ is)
      | inr undo ↦
          cond-false _ _ _ undo ∙ ap (λ (b : Bool). are_kept held spans n || b) same ∙ sym (cond-false _ _ _ undo)
    ]

or-mono : (kept a b : Bool) → (IsTrue b → IsTrue a) → IsTrue (kept || b) → IsTrue (kept || a)
or-mono true a b sub is = refl
or-mono false a b sub is = sub is

-- no name is told unsynced that was not where none is that was not
pub adds_none-told : (one other : UnsyncedNames) (held : List ℕ) (spans : List ByteRange) → AddsNone one other
    → AddsNone (told_names one held spans) (told_names other held spans)
adds_none-told one other held spans adds n is =
    elim (cases_Bool (is_undo n)) [
      | inl undo ↦ absurd (false≢true (sym (cond-true _ _ _ undo) ∙ is))
      | inr undo ↦ cond-false _ _ _ undo
          ∙ or-mono (are_kept held spans n) (one n) (other n) (adds n) (sym (cond-false _ _ _ undo) ∙ is)
    ]

-- one name is made so, whatever it was
pub with_name-keeps : (one other : UnsyncedNames) (name : List ℕ) (is : Bool) → KeepsOthers name one other
    → with_name other name is ≡ with_name one name is
with_name-keeps one other name is keeps =
    names-with one (with_name other name is) name is
    (λ n differ. with_name-other other name is n differ ∙ keeps n differ)
    (with_name-at other name is)

-- a name is handed over, whatever the one that gets it was
pub with_handed-keeps : (one other : UnsyncedNames) (from to : List ℕ) → from ≢ to → KeepsOthers to one other
    → with_handed other from to ≡ with_handed one from to
with_handed-keeps one other from to differ keeps =
    ap (λ (b : Bool). with_name (with_name other from false) to b) (keeps from differ)
    ∙ with_name-keeps (with_name one from false) (with_name other from false) to (one from)
    (λ n apart.
    elim (cases_Bool (bytes_eq from n)) [
      | inl same ↦ cond-true _ _ _ same ∙ sym (cond-true _ _ _ same)
      | inr other_name ↦ cond-false _ _ _ other_name ∙ keeps n apart ∙ sym (cond-false _ _ _ other_name)
    ])

-- a name that is made so on the disk, and for which no ranges are kept
pub names-put : (names : UnsyncedNames) (held : List ℕ) (spans : List ByteRange) (name : List ℕ) (is : Bool)
    → is_undo name ≡ false → are_kept held spans name ≡ false
    → told_names (with_name names name is) held spans ≡ with_name (told_names names held spans) name is
names-put names held spans name is undo none =
    names-with (told_names names held spans) (told_names (with_name names name is) held spans) name is
    (λ n differ. told-names-at names (with_name names name is) held spans n (with_name-other names name is n differ))
    (names-told (with_name names name is) held spans name undo none ∙ with_name-at names name is)

-- a name that was handed over
pub names-handed : (names : UnsyncedNames) (held from to : List ℕ) → is_undo from ≡ false → is_undo to ≡ false
    → told_names (with_handed names from to) held [] ≡ with_handed (told_names names held []) from to
names-handed names held from to undo undo_to =
    names-put (with_name names from false) held [] to (names from) undo_to (are_kept-none held to)
    ∙ ap (λ (n : UnsyncedNames). with_name n to (names from))
    (names-put names held [] from false undo (are_kept-none held from))
    ∙ ap (λ (b : Bool). with_name (with_name (told_names names held []) from false) to b)
    (sym (names-told names held [] from undo (are_kept-none held from)))

-- a range is kept for the held name
pub names-kept : (names : UnsyncedNames) (held : List ℕ) (spans : List ByteRange) (span : ByteRange) (name : List ℕ)
    → held ≡ name → is_undo name ≡ false
    → told_names names held (spans ++ span ∷ []) ≡ with_name (told_names names held spans) name true
names-kept names held spans span name is undo =
    let more : List ByteRange = spans ++ span ∷ [] in
    let some : nat_eq (length more) 0 ≡ false = false_from_ne_true _
    (λ none. absurd (omega (arith, eqb-true (length more) 0 none, length-append spans (span ∷ [])))) in
    let kept : are_kept held more name ≡ true =
    ap (λ (b : Bool). b && not (nat_eq (length more) 0)) (ap (λ (h : List ℕ). bytes_eq h name) is ∙ bytes_eq-same name)
    ∙ ap not some in
    names-with (told_names names held spans) (told_names names held more) name true
    (λ n differ.
    let apart : n ≢ held = λ same. differ (same ∙ is) in
    elim (cases_Bool (is_undo n)) [
      | inl undo_n ↦ cond-true _ _ _ undo_n ∙ sym (cond-true _ _ _ undo_n)
      | inr undo_n ↦
          names-told names held more n undo_n (are_kept-other held more n apart)
          ∙ sym (names-told names held spans n undo_n (are_kept-other held spans n apart))
    ])
    (cond-false _ _ _ undo ∙ ap (λ (b : Bool). b || names name) kept)
