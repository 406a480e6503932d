-- What a recovery makes of a file.
use Rattle.std.proofs.Common.{◌≡◌, ◌≢◌, ℕ, suc, ◌+◌, ◌^◌, ◌<◌, ◌≤◌, inl, inr, true, false, get_or, refl, List, [], ◌∷◌}
use Rattle.std.proofs.Common.{length, take, Option, Some, None, unwrap_or, ap, ◌∙◌, arith, length-take}
use Rattle.std.specs.Prelude.{nat_eq, nat_le}
use Rattle.std.proofs.lemmas.Bool.{cases_eq, cond-false, cond-true, eq-eqb, le-leb, eqb-true, false_from_ne_true}
use Rattle.std.proofs.lemmas.List.{ext_get_or, get_or-take}
use Rattle.quota_types.specs.Bytes.{byte_at, number_at}
use Rattle.edit_journal.specs.ByteRanges.{ByteRange, laid}
use Rattle.edit_journal.specs.UndoSaves.{IsOutsideAll, saved_bytes, Saves, SavesFrom, SavesOne}
use Rattle.edit_journal.specs.Undo.{is_usable, recovered, saved_range, saved_ranges, range_fits, ranges_fit, undone}
use Rattle.edit_journal.proofs.LaidBytesLemmas.{length-laid, length-saved_most, saved-within}
use Rattle.edit_journal.proofs.SavedLemmas.{laid_back, saved_range-bytes}

-- a range fits by its parts
fits_by : (old_length : ℕ) (span : ByteRange) → length span.bytes ≤ 1024 → span.at ≤ 2 ^ 42
    → (1 ≤ length span.bytes → span.at + length span.bytes ≤ old_length) → range_fits old_length span ≡ true
fits_by old_length span few low within =
    let a : nat_le (length span.bytes) 1024 ≡ true = le-leb _ _ few in
    let b : nat_le span.at (2 ^ 42) ≡ true = le-leb _ _ low in
    elim (cases_eq (length span.bytes) 0) [
      | inl none ↦ let c : nat_eq (length span.bytes) 0 ≡ true = eq-eqb _ _ none in rw (a, b, c) refl
      | inr some ↦
          let c : nat_le (span.at + length span.bytes) old_length ≡ true = le-leb _ _ (within (omega arith)) in
          let d : nat_eq (length span.bytes) 0 ≡ false = false_from_ne_true _ (λ e. some (eqb-true _ _ e)) in
          rw (a, b, c, d) refl
    ]

-- a range that was saved fits
fits_saved : (old undo : List ℕ) (k : ℕ) (range : ByteRange) → SavesOne old k range.at (length range.bytes) undo
    → range_fits (length old) (saved_range undo k) ≡ true
fits_saved old undo k range saves =
    let same = saved_range-bytes old k range undo saves in
    let long : length (saved_range undo k).bytes ≡ length (saved_bytes old range.at (length range.bytes)) =
    ap length same in
    fits_by (length old) (saved_range undo k)
    (omega (arith, long, length-saved_most old range, saves.few))
    (omega (arith, saves.place, saves.low))
    (λ some. omega (arith, long, saves.place, saved-within old range (omega (arith, long, some))))

-- all do
all_fit : (old undo : List ℕ) (k : ℕ) (ranges : List ByteRange) → SavesFrom old k ranges undo
    → ranges_fit (length old) (saved_ranges undo k (length ranges)) ≡ true
all_fit old undo k [] saves = refl
all_fit old undo k (range ∷ rest) saves =
    let one : range_fits (length old) (saved_range undo k) ≡ true = fits_saved old undo k range saves.0 in
    let others : ranges_fit (length old) (saved_ranges undo (suc k) (length rest)) ≡ true =
    all_fit old undo (suc k) rest saves.1 in
    rw (one, others) refl

-- so the undo file is usable
usable-saved : (old file undo : List ℕ) (ranges : List ByteRange) → Saves old ranges undo → byte_at undo 0 ≡ 1
    → length old ≤ length file → is_usable file undo ≡ true
usable-saved old file undo ranges saves opened longer =
    let a : nat_eq (byte_at undo 0) 1 ≡ true = eq-eqb _ _ opened in
    let b : nat_le (number_at 8 undo 8) (length file) ≡ true = le-leb _ _ (omega (arith, saves.old_length, longer)) in
    let c : nat_le (number_at 4 undo 16) 12 ≡ true = le-leb _ _ (omega (arith, saves.count, saves.most)) in
    let d : ranges_fit (number_at 8 undo 8) (saved_ranges undo 0 (number_at 4 undo 16)) ≡ true =
    ap (λ (n : ℕ). ranges_fit n (saved_ranges undo 0 (number_at 4 undo 16))) saves.old_length
    ∙ ap (λ (n : ℕ). ranges_fit (length old) (saved_ranges undo 0 n)) saves.count
    ∙ all_fit old undo 0 ranges saves.saved in
    rw (a, b, c, d) refl

-- and what it says is the old file
undone-saved : (old file undo : List ℕ) (ranges : List ByteRange) → Saves old ranges undo → length old ≤ length file
    → ((place : ℕ) → IsOutsideAll ranges place → place < length old → get_or file place 0 ≡ get_or old place 0)
    → undone file undo ≡ old
undone-saved old file undo ranges saves longer same =
    let whole : List ℕ = laid (saved_ranges undo 0 (length ranges)) file in
    ap (λ (n : ℕ). take n (laid (saved_ranges undo 0 (number_at 4 undo 16)) file)) saves.old_length
    ∙ ap (λ (n : ℕ). take (length old) (laid (saved_ranges undo 0 n) file)) saves.count
    ∙ ext_get_or 0 (take (length old) whole) old
    (omega (arith, length-take (length old) whole, length-laid (saved_ranges undo 0 (length ranges)) file, longer))
    (λ i below.
    let inside : i < length old = omega (arith, below, length-take (length old) whole) in
    get_or-take (length old) whole i 0 inside
    ∙ laid_back old undo 0 ranges file i saves.saved inside (λ outside. same i outside inside))

-- a file that is the old one outside of the ranges, with its ranges saved and an open gate, recovers to the old one
pub recovered-saved : (old file undo : List ℕ) (ranges : List ByteRange) → Saves old ranges undo → byte_at undo 0 ≡ 1
    → length old ≤ length file
    → ((place : ℕ) → IsOutsideAll ranges place → place < length old → get_or file place 0 ≡ get_or old place 0)
    → recovered (Some file) (Some undo) ≡ Some old
recovered-saved old file undo ranges saves opened longer same =
    ap (λ (f : List ℕ). Some f)
    (cond-true _ _ _ (usable-saved old file undo ranges saves opened longer)
    ∙ undone-saved old file undo ranges saves longer same)

unusable-closed : (file undo : List ℕ) → byte_at undo 0 ≢ 1 → is_usable file undo ≡ false
unusable-closed file undo closed =
    let a : nat_eq (byte_at undo 0) 1 ≡ false = false_from_ne_true _ (λ e. closed (eqb-true _ _ e)) in
    rw a refl

-- a file whose gate is closed recovers to itself
pub recovered-closed : (file : List ℕ) (undo : Option (List ℕ)) → byte_at (unwrap_or undo []) 0 ≢ 1
    → recovered (Some file) undo ≡ Some file
recovered-closed file None closed = refl
recovered-closed file (Some undo) closed =
    ap (λ (f : List ℕ). Some f) (cond-false _ _ _ (unusable-closed file undo closed))
