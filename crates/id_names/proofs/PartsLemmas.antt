-- Parts of bytes around a separator, cut off from the front.
use Rattle.std.proofs.Common.{◌≡◌, ℕ, ◌+◌, Bool, false, List, [], ◌∷◌, take, drop, position, Some, None, refl, arith}
use Rattle.std.specs.List.{slice_split, before_first, after_first}
use Rattle.std.proofs.lemmas.Bool.Decides.{nat_tests}
use Rattle.std.proofs.lemmas.List.Quantifiers.{position-Some}
use Rattle.std.proofs.lemmas.List.Splits.{slice_split_first}
use Rattle.id_names.proofs.FirstLemmas.{first_place}

-- the first part ends at the first separator
pub cut_at : (p : ℕ → Bool) (xs : List ℕ) (at : ℕ) → position p xs ≡ Some at
    → slice_split p xs ≡ take at xs ∷ slice_split p (drop (at + 1) xs)
cut_at p xs at h =
    let in_list = (position-Some p xs at 0 h).0 in
    let place = first_place p xs at h in
    let first : slice_split p xs ≡ before_first p xs ∷ slice_split p (after_first p xs) =
    slice_split_first p xs 0 (omega arith) in
    rw place at first

none_past : (x : ℕ) (p : ℕ → Bool) (xs : List ℕ) → p x ≡ false → position p (x ∷ xs) ≡ None → position p xs ≡ None
none_past x p xs fails h = grind (arith, nat_tests)

none_here : (x : ℕ) (p : ℕ → Bool) (xs : List ℕ) → position p (x ∷ xs) ≡ None → p x ≡ false
none_here x p xs h = grind (arith, nat_tests)

-- with no separator there is one part
pub cut_nowhere : (p : ℕ → Bool) (xs : List ℕ) → position p xs ≡ None → slice_split p xs ≡ xs ∷ []
cut_nowhere p [] h = refl
cut_nowhere p (x ∷ xs) h =
    let fails = none_here x p xs h in
    let rest = cut_nowhere p xs (none_past x p xs fails h) in
    rw (fails, rest) refl
