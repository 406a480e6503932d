-- Entries in the order of their identifiers.
use Rattle.std.proofs.Common.{◌≡◌, ℕ, ◌+◌, ◌<◌, ◌≤◌, Bool, true, false, List, get_or, length, nat_eq, nat_lt}
use Rattle.std.proofs.Common.{arith}
use Rattle.std.specs.Prelude.{IsPermutation}
use Rattle.std.specs.Bool.{OnFalse, OnTrue}
use Rattle.std.specs.Cmp.{nat_eq_equiv}
use Rattle.std.specs.List.{IsAllAdjacentAnswer, IsDistinct}
use Rattle.std.specs.List.Sorted.{IsNonDecreasing, IsNonDecreasingBy, IsStrictlyIncreasing}
use Rattle.std.proofs.lemmas.Bool.Decides.{nat_tests}
use Rattle.std.proofs.lemmas.List.{get_or-map, length-map}
use Rattle.std.proofs.lemmas.List.Sorted.{IsPermutation-map}
use Rattle.std.proofs.lemmas.Map.Keys.{IsDistinct-IsPermutation, IsStrictlyIncreasing-from_distinct}
use Rattle.quota_types.specs.declared.record.Entry.{Entry}
use Rattle.quota_value.specs.Listed.{ids_of}

-- any entry of an identifier
abbrev entry_of : ℕ → Entry
entry_of id = record {
  id = id;
  rec = record { ihard = 0; isoft = 0; inodes = 0; bhard = 0; bsoft = 0; space = 0; btime = 0; itime = 0 };
}

-- the identifier at a place
id_at : (xs : List Entry) (k d : ℕ) → k < length xs → get_or (ids_of xs) k d ≡ (get_or xs k (entry_of d)).id
id_at xs k d low = get_or-map (λ (e : Entry). e.id) xs k (entry_of d) d low

long_as : (xs : List Entry) → length (ids_of xs) ≡ length xs
long_as xs = length-map xs (λ (e : Entry). e.id)

-- what a test of each two neighbours says of the identifiers
pub ascends_as_told : (told : Bool) (xs : List Entry)
    → IsAllAdjacentAnswer (λ (x y : Entry) (b : Bool). b ≡ nat_lt x.id y.id) xs told
    → OnTrue told (IsStrictlyIncreasing (ids_of xs)) × OnFalse told (¬ IsStrictlyIncreasing (ids_of xs))
ascends_as_told true xs all = (
  λ k low.
      let here : true ≡ nat_lt (get_or xs k (entry_of 0)).id (get_or xs (k + 1) (entry_of 0)).id =
      all k (entry_of 0) (omega (arith, low, long_as xs)) in
      let less : (get_or xs k (entry_of 0)).id < (get_or xs (k + 1) (entry_of 0)).id = grind (arith, nat_tests) in
      omega (
        arith,
        less,
        id_at xs k 0 (omega (arith, low, long_as xs)),
        id_at xs (k + 1) 0 (omega (arith, low, long_as xs)),
      ),
  tt,
)
ascends_as_told false xs some = (
  tt,
  λ rises.
      let k : ℕ = some.0 in
      let low : k + 1 < length xs = some.1 in
      let here : false ≡ nat_lt (get_or xs k (entry_of 0)).id (get_or xs (k + 1) (entry_of 0)).id =
      some.2 (entry_of 0) in
      let not_less : (get_or xs (k + 1) (entry_of 0)).id ≤ (get_or xs k (entry_of 0)).id = grind (arith, nat_tests) in
      omega (
        arith,
        not_less,
        id_at xs k 0 (omega (arith, low)),
        id_at xs (k + 1) 0 low,
        rises k (omega (arith, low, long_as xs)),
      ),
)

-- identifiers that differ ascend once they are sorted
pub sorted_ascends : (list out : List Entry) → IsPermutation list out → IsNonDecreasingBy (λ (e : Entry). e.id) out
    → IsDistinct nat_eq (ids_of list) → IsStrictlyIncreasing (ids_of out)
sorted_ascends list out moved sorted distinct =
    let also : IsDistinct nat_eq (ids_of out) =
    IsDistinct-IsPermutation nat_eq (λ x y. nat_eq_equiv.symm x y) (ids_of list) (ids_of out)
    (IsPermutation-map (λ (e : Entry). e.id) list out moved) distinct in
    let falls : IsNonDecreasing (ids_of out) = λ i j d before low.
    let inside : j < length out = omega (arith, low, long_as out) in
    omega (
      arith,
      id_at out i d (omega (arith, before, inside)),
      id_at out j d inside,
      sorted i j (entry_of d) before inside,
    ) in
    IsStrictlyIncreasing-from_distinct (ids_of out) falls also
