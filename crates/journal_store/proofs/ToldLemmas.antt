-- What a journal tells before and after its calls.
use Rattle.std.proofs.Common.{◌≡◌, ◌≢◌, ◌≤◌, inl, inr, ℕ, Bool, ◌||◌, true, false, List, [], ◌∷◌, length, Option}
use Rattle.std.proofs.Common.{option_map, sym, ap, ◌∙◌, subst, arith}
use Rattle.std.specs.Str.{bytes_eq}
use Rattle.std.proofs.Math.Bool.{and-false}
use Rattle.std.proofs.lemmas.Bool.{cases_Bool, cond-false, cond-true, false≢true}
use Rattle.outside.specs.Unsynced.{UnsyncedNames}
use Rattle.outside.specs.World.{KeepsOthers, World}
use Rattle.outside.proofs.WorldLemmas.{bytes_eq-ne, bytes_eq-same, bytes_eq-true}
use Rattle.edit_journal.specs.Recovered.{RecoversSame, KeepsOtherThree}
use Rattle.edit_journal.specs.ByteRanges.{ByteRange, laid}
use Rattle.edit_journal.specs.Undo.{recovered}
use Rattle.edit_journal.specs.UndoName.{und_name, undo_name}
use Rattle.edit_journal.proofs.NameLemmas.{und-undo, undo-injective}
use Rattle.journal_store.specs.Kinds.{is_new, is_undo}
use Rattle.journal_store.specs.Told.{are_kept, ranges_for, told_files, told_names}
use Rattle.journal_store.proofs.KindLemmas.{IsPlain, und-apart, undo-apart}

-- another name, by the test
pub differs : (name n : List ℕ) → bytes_eq name n ≡ false → n ≢ name
differs name n is same = false≢true (sym is ∙ ap (λ (m : List ℕ). bytes_eq name m) same ∙ bytes_eq-same name)

-- what is told of a plain file
abbrev pub shown : World → (held : List ℕ) → List ByteRange → List ℕ → Option (List ℕ)
shown files held spans name =
    option_map (laid (ranges_for held spans name)) (recovered (files name) (files (undo_name name)))

-- what is told of a plain file, and of one with a new name
pub told-plain : (files : World) (held : List ℕ) (spans : List ByteRange) (name : List ℕ) → is_undo name ≡ false
    → is_new name ≡ false → told_files files held spans name ≡ shown files held spans name
told-plain files held spans name undo new = cond-false _ _ _ undo ∙ cond-false _ _ _ new

pub told-new : (files : World) (held : List ℕ) (spans : List ByteRange) (name : List ℕ) → is_undo name ≡ false
    → is_new name ≡ true → told_files files held spans name ≡ files name
told-new files held spans name undo new = cond-false _ _ _ undo ∙ cond-true _ _ _ new

-- a file that stays, as its undo file and the ranges that are kept for it do, is shown as before
shown-stays : (one other : World) (held new_held : List ℕ) (spans new_spans : List ByteRange) (name : List ℕ)
    → other name ≡ one name → other (undo_name name) ≡ one (undo_name name)
    → ranges_for new_held new_spans name ≡ ranges_for held spans name
    → shown other new_held new_spans name ≡ shown one held spans name
shown-stays one other held new_held spans new_spans name same undo kept =
    ap (λ (f : Option (List ℕ)).
    option_map (laid (ranges_for new_held new_spans name)) (recovered f (other (undo_name name)))) same
    ∙ ap (λ (u : Option (List ℕ)). option_map (laid (ranges_for new_held new_spans name)) (recovered (one name) u)) undo
    ∙ ap (λ (l : List ByteRange). option_map (laid l) (recovered (one name) (one (undo_name name)))) kept

-- no ranges are kept for any name where none are kept
pub ranges_for-none : (held name : List ℕ) → ranges_for held [] name ≡ []
ranges_for-none held name =
    elim (cases_Bool (bytes_eq held name)) [ inl is ↦ cond-true _ _ _ is | inr is ↦ cond-false _ _ _ is ]

-- nor for another name than the held one
pub ranges_for-other : (held : List ℕ) (spans : List ByteRange) (name : List ℕ) → name ≢ held
    → ranges_for held spans name ≡ []
ranges_for-other held spans name differ = cond-false _ _ _ (bytes_eq-ne held name (λ same. differ (sym same)))

pub ranges_for-held : (held : List ℕ) (spans : List ByteRange) → ranges_for held spans held ≡ spans
ranges_for-held held spans = cond-true _ _ _ (bytes_eq-same held)

-- another name is held, where ranges are kept for it alone
pub ranges_for-moved : (held new_held : List ℕ) (spans : List ByteRange) (name : List ℕ)
    → (1 ≤ length spans → held ≡ new_held) → ranges_for new_held spans name ≡ ranges_for held spans name
ranges_for-moved held new_held [] name same = ranges_for-none new_held name ∙ sym (ranges_for-none held name)
ranges_for-moved held new_held (span ∷ rest) name same =
    ap (λ (h : List ℕ). ranges_for h (span ∷ rest) name) (sym (same (omega arith)))

-- all other files are told as before, where they stay, as the ranges do that are kept for them
pub told-others : (one other : World) (held new_held : List ℕ) (spans new_spans : List ByteRange) (name : List ℕ)
    → IsPlain name → KeepsOtherThree name (undo_name name) (und_name name) one other
    → ((n : List ℕ) → n ≢ name → ranges_for new_held new_spans n ≡ ranges_for held spans n)
    → KeepsOthers name (told_files one held spans) (told_files other new_held new_spans)
told-others one other held new_held spans new_spans name plain keeps kept n differ =
    elim (cases_Bool (is_undo n)) [
      | inl is ↦ cond-true _ _ _ is ∙ sym (cond-true _ _ _ is)
      | inr undo ↦ elim (cases_Bool (is_new n)) [
        | inl new ↦
            told-new other new_held new_spans n undo new
            ∙ keeps n differ (undo-apart n name undo) (und-apart n name undo)
            ∙ sym (told-new one held spans n undo new)
        | inr new ↦
            told-plain other new_held new_spans n undo new
            ∙ shown-stays one other held new_held spans new_spans n
            (keeps n differ (undo-apart n name undo) (und-apart n name undo))
            (keeps (undo_name n) (λ same. undo-apart name n plain.undo (sym same))
            (λ same. differ (undo-injective n name same)) (λ same. und-undo name n (sym same))) (kept n differ)
            ∙ sym (told-plain one held spans n undo new)
      ]
    ]

-- all other names are told to be unsynced as before
pub names-others : (one other : UnsyncedNames) (held new_held : List ℕ) (spans new_spans : List ByteRange)
    (name : List ℕ) → KeepsOtherThree name (undo_name name) (und_name name) one other
    → ((n : List ℕ) → n ≢ name → are_kept new_held new_spans n ≡ are_kept held spans n)
    → KeepsOthers name (told_names one held spans) (told_names other new_held new_spans)
names-others one other held new_held spans new_spans name keeps kept n differ =
    elim (cases_Bool (is_undo n)) [
      | inl is ↦ cond-true _ _ _ is ∙ sym (cond-true _ _ _ is)
      | inr undo ↦
          cond-false _ _ _ undo
          ∙ ap (λ (b : Bool). are_kept new_held new_spans n || b)
          (keeps n differ (undo-apart n name undo) (und-apart n name undo))
          ∙ ap (λ (b : Bool). b || one n) (kept n differ)
          ∙ sym (cond-false _ _ _ undo)
    ]

pub are_kept-moved : (held new_held : List ℕ) (spans : List ByteRange) (name : List ℕ)
    → (1 ≤ length spans → held ≡ new_held) → are_kept new_held spans name ≡ are_kept held spans name
are_kept-moved held new_held [] name same = and-false _ ∙ sym (and-false _)
are_kept-moved held new_held (span ∷ rest) name same =
    ap (λ (h : List ℕ). are_kept h (span ∷ rest) name) (sym (same (omega arith)))

-- where only one file may differ, and does not
pub world-same : {T : Type 0} (one other : List ℕ → T) (name : List ℕ) → KeepsOthers name one other
    → other name ≡ one name → other ≡ one
world-same one other name keeps same = λ i n. by n i
  where
    by : (n : List ℕ) → other n ≡ one n
    by n =
        elim (cases_Bool (bytes_eq name n)) [
          | inl is ↦ subst (λ (m : List ℕ). other m ≡ one m) (bytes_eq-true name n is) same
          | inr is ↦ keeps n (differs name n is)
        ]

-- what a recovery shows of the file
pub shown-recovers : (one other : World) (held new_held : List ℕ) (spans : List ByteRange) (name : List ℕ)
    → (1 ≤ length spans → held ≡ new_held)
    → recovered (other name) (other (undo_name name)) ≡ recovered (one name) (one (undo_name name))
    → shown other new_held spans name ≡ shown one held spans name
shown-recovers one other held new_held spans name moved same =
    ap (λ (f : Option (List ℕ)). option_map (laid (ranges_for new_held spans name)) f) same
    ∙ ap (λ (l : List ByteRange). option_map (laid l) (recovered (one name) (one (undo_name name))))
    (ranges_for-moved held new_held spans name moved)

-- a recovery changes nothing that is told
pub told-recovers : (one other : World) (held new_held : List ℕ) (spans : List ByteRange) (name : List ℕ) → IsPlain name
    → (1 ≤ length spans → held ≡ new_held) → RecoversSame name (undo_name name) (und_name name) one other
    → told_files other new_held spans ≡ told_files one held spans
told-recovers one other held new_held spans name plain moved step =
    world-same (told_files one held spans) (told_files other new_held spans) name
    (told-others one other held new_held spans spans name plain step.1
    (λ n differ. ranges_for-moved held new_held spans n moved))
    (told-plain other new_held spans name plain.undo plain.new
    ∙ shown-recovers one other held new_held spans name moved step.0
    ∙ sym (told-plain one held spans name plain.undo plain.new))
