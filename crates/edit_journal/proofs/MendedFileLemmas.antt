-- A file that is mended by what an undo file saves.
use Rattle.std.proofs.Common.{◌≡◌, inl, inr, ℕ, zero, suc, ◌+◌, ◌-◌, ◌<◌, ◌≤◌, Bool, true, false, ◌&&◌, get_or, refl}
use Rattle.std.proofs.Common.{List, [], ◌∷◌, ◌++◌, length, take, Option, Some, None, unwrap_or, sym, ap, ◌∙◌, subst}
use Rattle.std.proofs.Common.{arith, length-take}
use Rattle.std.specs.Prelude.{nat_eq, nat_le}
use Rattle.std.proofs.lemmas.Bool.{cases_lt, cond-true, eq-eqb, eqb-true, false≢true, le-leb, leb-true}
use Rattle.std.proofs.lemmas.List.{ext_get_or, get_or-take}
use Rattle.outside.proofs.FrameLemmas.{keeps_others-then}
use Rattle.disk.specs.DiskSeen.{DiskSeen, Passes}
use Rattle.disk.specs.DiskCalls.{IsOutside, TearsRange}
use Rattle.disk.proofs.StopLemmas.{passes-then, passes-wider}
use Rattle.quota_types.specs.Bytes.{byte_at, number_at}
use Rattle.edit_journal.specs.Recovery.{Mends, MendsFile, is_mended}
use Rattle.edit_journal.specs.ByteRanges.{ByteRange, laid, with_laid}
use Rattle.edit_journal.specs.UndoSaves.{IsOutsideAll}
use Rattle.edit_journal.specs.Undo.{is_usable, recovered, saved_range, saved_ranges, ranges_fit}
use Rattle.edit_journal.proofs.LaidBytesLemmas.{get_or-with_laid_before, get_or-with_laid_behind}
use Rattle.edit_journal.proofs.LaidBytesLemmas.{get_or-with_laid_inside, laid-more, length-laid}

-- one range that is laid over two files that are the same outside of it
laid_same-one : (at : ℕ) (bytes one other : List ℕ) (place : ℕ)
    → (IsOutside at (length bytes) place → get_or one place 0 ≡ get_or other place 0)
    → get_or (with_laid one at bytes) place 0 ≡ get_or (with_laid other at bytes) place 0
laid_same-one at bytes one other place same =
    elim (cases_lt place at) [
      | inl before ↦ get_or-with_laid_before one at bytes place before ∙ same (inl before)
          ∙ sym (get_or-with_laid_before other at bytes place before)
      | inr from ↦ elim (cases_lt place (at + length bytes)) [
        | inl to ↦
            let parts : place ≡ at + (place - at) = omega arith in
            let inside : place - at < length bytes = omega arith in
            ap (λ (p : ℕ). get_or (with_laid one at bytes) p 0) parts
            ∙ get_or-with_laid_inside one at bytes (place - at) inside
            ∙ sym (get_or-with_laid_inside other at bytes (place - at) inside)
            ∙ ap (λ (p : ℕ). get_or (with_laid other at bytes) p 0) (sym parts)
        | inr behind ↦ get_or-with_laid_behind one at bytes place behind ∙ same (inr behind)
            ∙ sym (get_or-with_laid_behind other at bytes place behind)
      ]
    ]

-- ranges that are laid over two files that are the same outside of them
pub laid_same : (spans : List ByteRange) (one other : List ℕ) (place : ℕ)
    → (IsOutsideAll spans place → get_or one place 0 ≡ get_or other place 0)
    → get_or (laid spans one) place 0 ≡ get_or (laid spans other) place 0
laid_same [] one other place same = same tt
laid_same (span ∷ rest) one other place same =
    laid_same rest (with_laid one span.at span.bytes) (with_laid other span.at span.bytes) place
    (λ outside. laid_same-one span.at span.bytes one other place (λ here. same (here, outside)))

-- each of four facts
and-four_true : (a b c d : Bool) → (a && b && c && d) ≡ true → (a ≡ true) × (b ≡ true) × (c ≡ true) × (d ≡ true)
and-four_true true true true true is = (refl, refl, refl, refl)
and-four_true false b c d is = absurd (false≢true is)
and-four_true true false c d is = absurd (false≢true is)
and-four_true true true false d is = absurd (false≢true is)
and-four_true true true true false is = absurd (false≢true is)

-- what a usable undo file is
pub usable-parts : (file undo : List ℕ) → is_usable file undo ≡ true
    → (byte_at undo 0 ≡ 1) × (number_at 8 undo 8 ≤ length file) × (number_at 4 undo 16 ≤ 12)
    × (ranges_fit (number_at 8 undo 8) (saved_ranges undo 0 (number_at 4 undo 16)) ≡ true)
usable-parts file undo is =
    let four = and-four_true (nat_eq (byte_at undo 0) 1) (nat_le (number_at 8 undo 8) (length file))
    (nat_le (number_at 4 undo 16) 12)
    (ranges_fit (number_at 8 undo 8) (saved_ranges undo 0 (number_at 4 undo 16))) is in
    (eqb-true _ _ four.0, leb-true _ _ four.1, leb-true _ _ four.2, four.3)

-- by these parts it is usable
pub usable-by : (file undo : List ℕ) → byte_at undo 0 ≡ 1 → number_at 8 undo 8 ≤ length file → number_at 4 undo 16 ≤ 12
    → ranges_fit (number_at 8 undo 8) (saved_ranges undo 0 (number_at 4 undo 16)) ≡ true → is_usable file undo ≡ true
usable-by file undo opened long most fit =
    let a : nat_eq (byte_at undo 0) 1 ≡ true = eq-eqb _ _ opened in
    let b : nat_le (number_at 8 undo 8) (length file) ≡ true = le-leb _ _ long in
    let c : nat_le (number_at 4 undo 16) 12 ≡ true = le-leb _ _ most in
    let d : ranges_fit (number_at 8 undo 8) (saved_ranges undo 0 (number_at 4 undo 16)) ≡ true = fit in
    rw (a, b, c, d) refl

-- a file that is the same outside of the saved ranges recovers to the same
recovered-same : (one other undo : List ℕ) → is_usable one undo ≡ true → number_at 8 undo 8 ≤ length other
    → ((place : ℕ) → place < number_at 8 undo 8 → IsOutsideAll (saved_ranges undo 0 (number_at 4 undo 16)) place
    → get_or other place 0 ≡ get_or one place 0)
    → recovered (Some other) (Some undo) ≡ recovered (Some one) (Some undo)
recovered-same one other undo usable long same =
    let len : ℕ = number_at 8 undo 8 in
    let spans : List ByteRange = saved_ranges undo 0 (number_at 4 undo 16) in
    let parts = usable-parts one undo usable in
    let again : is_usable other undo ≡ true = usable-by other undo parts.0 long parts.2 parts.3 in
    let undone_same : take len (laid spans other) ≡ take len (laid spans one) =
    ext_get_or 0 (take len (laid spans other)) (take len (laid spans one))
    (omega (
      arith,
      parts.1,
      long,
      length-take len (laid spans other),
      length-take len (laid spans one),
      length-laid spans other,
      length-laid spans one,
    ))
    (λ i below.
    let inside : i < len = omega (arith, below, length-take len (laid spans other)) in
    get_or-take len (laid spans other) i 0 inside ∙ laid_same spans other one i (λ outside. same i inside outside)
    ∙ sym (get_or-take len (laid spans one) i 0 inside)) in
    ap (λ (f : List ℕ). Some f) (cond-true _ _ _ again ∙ undone_same ∙ sym (cond-true _ _ _ usable))

-- a file that is being mended recovers to the same
pub recovered-mended : (file new undo : Option (List ℕ)) → is_mended file undo ≡ true
    → Mends (number_at 8 (unwrap_or undo []) 8)
    (saved_ranges (unwrap_or undo []) 0 (number_at 4 (unwrap_or undo []) 16)) file new
    → recovered new undo ≡ recovered file undo
recovered-mended None new undo usable mends = absurd (false≢true usable)
recovered-mended (Some file) new None usable mends = absurd (false≢true usable)
recovered-mended (Some file) None (Some undo) usable mends = absurd (false≢true (mends.there refl))
recovered-mended (Some file) (Some new) (Some undo) usable mends =
    let parts = usable-parts file undo usable in
    recovered-same file new undo usable (omega (arith, mends.no_shorter, parts.1))
    (λ place below outside. mends.same place below (omega (arith, below, parts.1)) outside)

-- two mendings in a row
mends-then : (len : ℕ) (spans : List ByteRange) (a b c : Option (List ℕ)) → Mends len spans a b → Mends len spans b c
    → Mends len spans a c
mends-then len spans a b c first second = record {
  there = λ is. second.there (first.there is);
  no_shorter = omega (arith, first.no_shorter, second.no_shorter);
  same = λ place low below outside.
      second.same place low (omega (arith, low, below, first.no_shorter)) outside ∙ first.same place low below outside;
}

pub mends_file-then : (name undo : List ℕ) (a b c : DiskSeen) → Passes (MendsFile name undo) a b
    → Passes (MendsFile name undo) b c → Passes (MendsFile name undo) a c
mends_file-then name undo a b c first second =
    passes-then (MendsFile name undo) a b c
    (λ x y z one two. (mends-then _ _ (x name) (y name) (z name) one.0 two.0, keeps_others-then name x y z one.1 two.1))
    first second

-- a place that is outside of all saved ranges is outside of each
outside-span : (undo : List ℕ) (k count i place : ℕ) → i < count → IsOutsideAll (saved_ranges undo k count) place
    → IsOutside (saved_range undo (k + i)).at (length (saved_range undo (k + i)).bytes) place
outside-span undo k zero i place below outside = absurd (omega (arith, below))
outside-span undo k (suc count) zero place below outside =
    let here : k ≡ k + 0 = omega arith in
    subst (λ (n : ℕ). IsOutside (saved_range undo n).at (length (saved_range undo n).bytes) place) here outside.0
outside-span undo k (suc count) (suc i) place below outside =
    let there : suc k + i ≡ k + suc i = omega arith in
    subst (λ (n : ℕ). IsOutside (saved_range undo n).at (length (saved_range undo n).bytes) place) there
    (outside-span undo (suc k) count i place (omega (arith, below)) outside.1)

-- a saved range that is laid back mends
pub mends_file-range : (name undo : List ℕ) (k : ℕ) (a b : DiskSeen) → k < number_at 4 undo 16
    → Passes (TearsRange name (saved_range undo k).at (length (saved_range undo k).bytes)) a b
    → Passes (MendsFile name undo) a b
mends_file-range name undo k a b below passes =
    passes-wider (TearsRange name (saved_range undo k).at (length (saved_range undo k).bytes)) (MendsFile name undo) a b
    (λ x y step. (
      record {
        there = step.0.there;
        no_shorter = omega (arith, step.0.no_shorter);
        same = λ place low inside outside.
            let here : 0 + k ≡ k = omega arith in
            step.0.same place
            (subst (λ (n : ℕ). IsOutside (saved_range undo n).at (length (saved_range undo n).bytes) place) here
            (outside-span undo 0 (number_at 4 undo 16) k place below outside)) inside;
      },
      step.1,
    ))
    passes

-- one saved range more
pub saved_ranges-more : (undo : List ℕ) (k count : ℕ)
    → saved_ranges undo k (count + 1) ≡ saved_ranges undo k count ++ saved_range undo (k + count) ∷ []
saved_ranges-more undo k zero = let here : k ≡ k + 0 = omega arith in ap (λ (n : ℕ). saved_range undo n ∷ []) here
saved_ranges-more undo k (suc count) =
    let one : suc count + 1 ≡ suc (count + 1) = omega arith in
    let there : suc k + count ≡ k + suc count = omega arith in
    ap (λ (n : ℕ). saved_ranges undo k n) one
    ∙ ap (λ (l : List ByteRange). saved_range undo k ∷ l)
    (saved_ranges-more undo (suc k) count
    ∙ ap (λ (n : ℕ). saved_ranges undo (suc k) count ++ saved_range undo n ∷ []) there)

-- one saved range more that is laid back
pub laid_back-more : (undo file mid new : List ℕ) (k : ℕ) → mid ≡ laid (saved_ranges undo 0 k) file
    → new ≡ with_laid mid (saved_range undo k).at (saved_range undo k).bytes
    → new ≡ laid (saved_ranges undo 0 (k + 1)) file
laid_back-more undo file mid new k before one =
    one
    ∙ ap (λ (f : List ℕ). with_laid f (saved_range undo k).at (saved_range undo k).bytes) before
    ∙ sym (laid-more (saved_ranges undo 0 k) (saved_range undo k) file)
    ∙ ap (λ (s : List ByteRange). laid s file)
    (sym (saved_ranges-more undo 0 k
    ∙ (let here : 0 + k ≡ k = omega arith in ap (λ (n : ℕ). saved_ranges undo 0 k ++ saved_range undo n ∷ []) here)))
