-- What is left where the gate of an undo file is closed in place.
use Rattle.std.proofs.Common.{◌≡◌, ◌↔◌, IsTrue, inl, inr, ℕ, zero, suc, ◌+◌, ◌<◌, ◌≤◌, Bool, true, false, ◌&&◌}
use Rattle.std.proofs.Common.{if◌then◌else◌, refl, List, [], ◌∷◌, length, take, Option, Some, None, unwrap_or}
use Rattle.std.proofs.Common.{option_map, ap, ◌∙◌, subst, sym, arith}
use Rattle.std.specs.Prelude.{nat_eq, nat_le}
use Rattle.std.proofs.lemmas.Bool.{cases_eq, cases_lt, cond-false, false_from_ne_true, false≢true, leb-true}
use Rattle.outside.specs.World.{World}
use Rattle.disk.specs.DiskCalls.{IsOutside, Torn}
use Rattle.quota_types.specs.Bytes.{byte_at, number_at}
use Rattle.quota_types.proofs.BytesLemmas.{number_same}
use Rattle.edit_journal.specs.ByteRanges.{ByteRange, laid}
use Rattle.edit_journal.specs.Undo.{bytes_at, is_usable, range_at, recovered, saved_range, saved_ranges, ranges_fit}
use Rattle.edit_journal.specs.UndoSaves.{HoldsItsRanges}
use Rattle.edit_journal.proofs.RecoveryResultLemmas.{recovered-closed}
use Rattle.edit_journal.proofs.SavedLemmas.{bytes_at-same}
use Rattle.edit_journal.proofs.WrittenLemmas.{length-or_none}

-- whether an undo file holds its ranges, by its length and whether they end within that
pub holds-by : (undo : List ℕ) (len count : ℕ) (within : Bool) → len ≡ length undo → 1024 ≤ len → count ≤ 12
    → count ≡ number_at 4 undo 16
    → (IsTrue within ↔ ((k : ℕ) → k < count → range_at k + 16 + number_at 2 undo (range_at k + 8) ≤ len))
    → IsTrue within ↔ HoldsItsRanges undo
holds-by undo len count within long room most many is = (
  λ so. record {
    room = omega (arith, long, room);
    within = λ few k below. omega (arith, is.0 so k (omega (arith, below, many)), long);
  },
  λ holds.
      is.1 (λ k below. omega (arith, holds.within (omega (arith, many, most)) k (omega (arith, below, many)), long)),
)

-- the same where its length was asked for before
pub holds-sized : (undo : List ℕ) (found : Option ℕ) (len count : ℕ) (within : Bool) (a b : World)
    → found ≡ option_map length (a undo) → len ≡ unwrap_or found 0 → b ≡ a → 1024 ≤ len → count ≤ 12
    → count ≡ number_at 4 (unwrap_or (a undo) []) 16
    → (IsTrue within
    ↔ ((k : ℕ) → k < count → range_at k + 16 + number_at 2 (unwrap_or (b undo) []) (range_at k + 8) ≤ len))
    → IsTrue within ↔ HoldsItsRanges (unwrap_or (a undo) [])
holds-sized undo found len count within a b size long same room most many is =
    holds-by (unwrap_or (a undo) []) len count within (long ∙ length-or_none (a undo) found size) room most many
    (subst (λ (f : World). IsTrue within
    ↔ ((k : ℕ) → k < count → range_at k + 16 + number_at 2 (unwrap_or (f undo) []) (range_at k + 8) ≤ len)) same is)

-- a file with the bytes of another one behind the first, within the end of that
abbrev SameBehind : List ℕ → List ℕ → Type 0
SameBehind undo new = (p : ℕ) → 1 ≤ p → p < length undo → byte_at new p ≡ byte_at undo p

-- numbers behind the first byte stay
number-behind : (width at : ℕ) (undo new : List ℕ) → SameBehind undo new → 1 ≤ at → at + width ≤ length undo
    → number_at width new at ≡ number_at width undo at
number-behind width at undo new same behind within =
    number_same width at new undo (λ p from to. same p (omega (arith, from, behind)) (omega (arith, to, within)))

abbrev span_by : ℕ → List ℕ → ByteRange
span_by at bytes = record { at = at; bytes = bytes }

-- a saved range that ends within its undo file
span-behind : (undo new : List ℕ) (k : ℕ) → SameBehind undo new
    → range_at k + 16 + number_at 2 undo (range_at k + 8) ≤ length undo → saved_range new k ≡ saved_range undo k
span-behind undo new k same within =
    let many : ℕ = number_at 2 undo (range_at k + 8) in
    let place = number-behind 8 (range_at k) undo new same (omega arith) (omega (arith, within)) in
    let number = number-behind 2 (range_at k + 8) undo new same (omega arith) (omega (arith, within)) in
    let bytes = bytes_at-same many (range_at k + 16) new undo
    (λ p from to. same p (omega (arith, from)) (omega (arith, to, within))) in
    ap (λ (n : ℕ). span_by n (bytes_at new (range_at k + 16) (number_at 2 new (range_at k + 8)))) place
    ∙ ap (λ (n : ℕ). span_by (number_at 8 undo (range_at k)) (bytes_at new (range_at k + 16) n)) number
    ∙ ap (λ (l : List ℕ). span_by (number_at 8 undo (range_at k)) l) bytes

-- so do saved ranges that end within their undo file
spans-behind : (undo new : List ℕ) (k count : ℕ) → SameBehind undo new
    → ((i : ℕ) → k ≤ i → i < k + count → range_at i + 16 + number_at 2 undo (range_at i + 8) ≤ length undo)
    → saved_ranges new k count ≡ saved_ranges undo k count
spans-behind undo new k zero same within = refl
spans-behind undo new k (suc count) same within =
    ap (λ (s : ByteRange). s ∷ saved_ranges new (suc k) count)
    (span-behind undo new k same (within k (omega arith) (omega arith)))
    ∙ ap (λ (s : List ByteRange). saved_range undo k ∷ s)
    (spans-behind undo new (suc k) count same (λ i from to. within i (omega (arith, from)) (omega (arith, to))))

-- what a recovery makes of a file, by what it reads of the undo file
abbrev recovered_by : List ℕ → (gate old_length count : ℕ) → List ByteRange → Option (List ℕ)
recovered_by file gate old_length count spans =
    Some (if nat_eq gate 1 && nat_le old_length (length file) && nat_le count 12 && ranges_fit old_length spans
    then take old_length (laid spans file) else file)

-- four facts, of which the third does not hold
and-third_false : (a b d : Bool) → (a && b && false && d) ≡ false
and-third_false true true d = refl
and-third_false true false d = refl
and-third_false false b d = refl

-- an undo file that names too many ranges
unusable-many : (file undo : List ℕ) → 12 < number_at 4 undo 16 → is_usable file undo ≡ false
unusable-many file undo many =
    let c : nat_le (number_at 4 undo 16) 12 ≡ false =
    false_from_ne_true _ (λ is. absurd (omega (arith, many, leb-true _ _ is))) in
    ap (λ (b : Bool). nat_eq (byte_at undo 0) 1 && nat_le (number_at 8 undo 8) (length file) && b
    && ranges_fit (number_at 8 undo 8) (saved_ranges undo 0 (number_at 4 undo 16))) c
    ∙ and-third_false (nat_eq (byte_at undo 0) 1) (nat_le (number_at 8 undo 8) (length file)) _

-- where the gate is open, and open still
recovered-open : (file undo new : List ℕ) → byte_at undo 0 ≡ 1 → byte_at new 0 ≡ 1 → HoldsItsRanges undo
    → SameBehind undo new → recovered (Some file) (Some undo) ≡ Some file → recovered (Some file) (Some new) ≡ Some file
recovered-open file undo new was opened holds same itself =
    let long = number-behind 8 8 undo new same (omega arith) (omega (arith, holds.room)) in
    let many = number-behind 4 16 undo new same (omega arith) (omega (arith, holds.room)) in
    elim (cases_lt 12 (number_at 4 undo 16)) [
      | inl more ↦ ap (λ (f : List ℕ). Some f) (cond-false _ _ _ (unusable-many file new (omega (arith, more, many))))
      | inr most ↦
          let spans = spans-behind undo new 0 (number_at 4 undo 16) same
          (λ i from to. holds.within (omega (arith, most)) i (omega (arith, to))) in
          ap (λ (n : ℕ). recovered_by file n (number_at 8 new 8) (number_at 4 new 16)
          (saved_ranges new 0 (number_at 4 new 16))) (opened ∙ sym was)
          ∙ ap (λ (n : ℕ).
          recovered_by file (byte_at undo 0) n (number_at 4 new 16) (saved_ranges new 0 (number_at 4 new 16))) long
          ∙ ap (λ (n : ℕ). recovered_by file (byte_at undo 0) (number_at 8 undo 8) n (saved_ranges new 0 n)) many
          ∙ ap (λ (s : List ByteRange).
          recovered_by file (byte_at undo 0) (number_at 8 undo 8) (number_at 4 undo 16) s) spans
          ∙ itself
    ]

-- a file that recovers to itself beside an undo file with an open gate does so while that gate is torn, where the undo
-- file holds its ranges
pub recovered-torn : (file undo new : Option (List ℕ)) → byte_at (unwrap_or undo []) 0 ≡ 1
    → HoldsItsRanges (unwrap_or undo []) → Torn (IsOutside 0 1) undo new → recovered file undo ≡ file
    → recovered file new ≡ file
recovered-torn None undo new opened holds torn itself = refl
recovered-torn (Some file) None new opened holds torn itself = absurd (omega (arith, holds.room))
recovered-torn (Some file) (Some undo) None opened holds torn itself = absurd (false≢true (torn.there refl))
recovered-torn (Some file) (Some undo) (Some new) opened holds torn itself =
    elim (cases_eq (byte_at new 0) 1) [
      | inl still ↦
          recovered-open file undo new opened still holds (λ p behind below. torn.same p (inr behind) below) itself
      | inr closed ↦ recovered-closed file (Some new) closed
    ]
