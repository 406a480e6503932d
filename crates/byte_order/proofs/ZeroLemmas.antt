-- Bytes that are all 0, with their words turned round.
use Rattle.std.proofs.Common.{◌≡◌, ℕ, suc, ◌<◌, ◌==◌, ◌⊎◌, inl, inr, Bool, true, false, List, [], ◌∷◌, length, get_or}
use Rattle.std.proofs.Common.{refl, sym, ap, ◌∙◌, arith}
use Rattle.std.specs.List.{list_all}
use Rattle.std.proofs.lemmas.Bool.{cases_lt}
use Rattle.std.proofs.lemmas.List.{get_or_past}
use Rattle.std.proofs.lemmas.List.Folds.{list_all_at}
use Rattle.quota_types.specs.Bytes.{byte_at}
use Rattle.byte_order.specs.declared.order.Order.{Order}
use Rattle.byte_order.specs.declared.order.Order.TheVariants.{Little, Big}
use Rattle.byte_order.specs.Words.{in_order, turned, turned_place}
use Rattle.byte_order.proofs.TurnedLemmas.{byte_at-turned, turned_back}

-- all bytes are 0
abbrev pub are_zeros : List ℕ → Bool
are_zeros bytes = list_all (λ byte. byte == 0) bytes

either : (b : Bool) → (b ≡ true) ⊎ (b ≡ false)
either true = inl refl
either false = inr refl

zero_at : (bytes : List ℕ) → are_zeros bytes ≡ true → (k : ℕ) → byte_at bytes k ≡ 0
zero_at bytes zeros k = elim (cases_lt k (length bytes)) [
  | inl low ↦ elim (either (get_or bytes k 0 == 0)) [
    | inl zero ↦ grind arith
    | inr other ↦ let some : are_zeros bytes ≡ false = list_all_at (λ byte. byte == 0) bytes k 0 low other in cc
  ]
  | inr high ↦ get_or_past bytes k 0 high
]

zeros_each : (bytes : List ℕ) → ((k : ℕ) → k < length bytes → byte_at bytes k ≡ 0) → are_zeros bytes ≡ true
zeros_each [] each = refl
zeros_each (byte ∷ bytes) each =
    let first : byte ≡ 0 = each 0 (omega arith) in
    let rest = zeros_each bytes (λ k lt. each (suc k) (omega arith)) in
    rw (first, rest)

zeros_turned : (file : List ℕ) → are_zeros file ≡ true → are_zeros (turned file) ≡ true
zeros_turned file zeros = zeros_each (turned file) (λ k lt. byte_at-turned file k ∙ zero_at file zeros (turned_place k))

zeros_back : (file : List ℕ) → are_zeros (turned file) ≡ true → are_zeros file ≡ true
zeros_back file zeros =
    zeros_each file (λ k lt. ap (byte_at file) (sym (turned_back k)) ∙ sym (byte_at-turned file (turned_place k))
    ∙ zero_at (turned file) zeros (turned_place k))

same_tests : (b c : Bool) → (b ≡ true → c ≡ true) → (c ≡ true → b ≡ true) → c ≡ b
same_tests true c to from = to refl
same_tests false true to from = sym (from refl)
same_tests false false to from = refl

-- bytes are all 0 exactly where those of their words are
pub zeros_in_order : (order : Order) (file : List ℕ) → are_zeros (in_order order file) ≡ are_zeros file
zeros_in_order Little file = refl
zeros_in_order Big file = same_tests (are_zeros file) (are_zeros (turned file)) (zeros_turned file) (zeros_back file)
