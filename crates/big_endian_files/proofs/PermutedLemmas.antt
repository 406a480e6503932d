-- What stands in a list by its key, also where the list is in another order.
use Rattle.std.proofs.Common.{◌≡◌, ℕ, suc, ◌<◌, ◌≤◌, true, false, List, [], ◌∷◌, length}
use Rattle.std.proofs.Common.{Some, None, refl, sym, ◌∙◌, inl, inr, arith, ne_eqb, nat_eq}
use Rattle.std.specs.Prelude.{IsPermutation}
use Rattle.std.specs.Cmp.{nat_eq_equiv}
use Rattle.std.specs.List.{AllByRecursion, Contains, IsDistinct}
use Rattle.std.specs.Map.{keys_of, lookup}
use Rattle.std.proofs.lemmas.Bool.Decides.{eqb_tells}
use Rattle.std.proofs.lemmas.List.Sorted.{Contains-permutation, IsPermutation-map, IsPermutation-sym}
use Rattle.std.proofs.lemmas.Map.Entries.{lookup_from_place}
use Rattle.std.proofs.lemmas.Map.Keys.{IsDistinct-IsPermutation}
use Rattle.std.proofs.lemmas.Map.Views.{Contains-from_lookup}
use Rattle.std.proofs.lemmas.Option.{slice_get_read}
use Rattle.quota_radix.specs.declared.tree_path.TreePath.{TreePath}
use Rattle.quota_radix.specs.Tree.{numbers_of}
use Rattle.quota_radix.proofs.DescentLemmas.{option_cases}
use Rattle.quota_radix.proofs.PathLemmas.{Rises}

-- numbers that rise are above one that is below them
above : (x low high : ℕ) (ps : List TreePath) → Rises low ps high → x < low
    → AllByRecursion (λ (y : ℕ). nat_eq x y ≡ false) (numbers_of ps)
above x low high [] r under = tt
above x low high (p ∷ ps) r under =
    let from : low ≤ p.number = r.0 in (
      ne_eqb x p.number (λ e. omega (arith, e, from, under)),
      above x (suc p.number) high ps r.1 (omega arith),
    )

-- and differ
pub distinct_rising : (low high : ℕ) (ps : List TreePath) → Rises low ps high → IsDistinct nat_eq (numbers_of ps)
unfolding IsDistinct
distinct_rising low high [] r = tt
distinct_rising low high (p ∷ ps) r =
    (above p.number (suc p.number) high ps r.1 (omega arith), distinct_rising (suc p.number) high ps r.1)

-- numbers are the same where the test says so
exact : (x y : ℕ) → nat_eq x y ≡ true → x ≡ y
exact x y is = elim (eqb_tells x y) [
  | inl same ↦ same.1
  | inr other ↦ absurd (let no : true ≡ false = sym is ∙ other.0 in cc)
]

-- an entry whose keys differ is found by its key
there : {X : Type 0} (q : ℕ) (x : X) (es : List (ℕ × X)) → IsDistinct nat_eq (keys_of es) → Contains es (q, x)
    → lookup (nat_eq q) es ≡ Some x
there q x es distinct at =
    lookup_from_place nat_eq_equiv es at.0 q x distinct (slice_get_read es (length es) at.0 (q, x) refl at.1 (sym at.2))

-- by each key the same is found, also where the entries are in another order
pub lookup_permuted : {X : Type 0} (q : ℕ) (es fs : List (ℕ × X)) → IsPermutation es fs
    → IsDistinct nat_eq (keys_of es) → lookup (nat_eq q) es ≡ lookup (nat_eq q) fs
lookup_permuted {X} q es fs moved distinct =
    let also : IsDistinct nat_eq (keys_of fs) =
    IsDistinct-IsPermutation nat_eq (λ x y. nat_eq_equiv.symm x y) (keys_of es) (keys_of fs)
    (IsPermutation-map (λ (e : ℕ × X). e.0) es fs moved) distinct in
    elim (option_cases (lookup (nat_eq q) es)) [
      | inl none ↦ elim (option_cases (lookup (nat_eq q) fs)) [
        | inl nothing ↦ none ∙ sym nothing
        | inr some ↦
            let found : lookup (nat_eq q) es ≡ Some some.0 = there q some.0 es distinct
            (Contains-permutation fs es (q, some.0) (IsPermutation-sym es fs moved)
            (Contains-from_lookup exact q some.0 fs some.1)) in
            absurd (let no : None ≡ Some some.0 = sym none ∙ found in cc)
      ]
      | inr some ↦ some.1 ∙ sym (there q some.0 fs also
          (Contains-permutation es fs (q, some.0) moved (Contains-from_lookup exact q some.0 es some.1)))
    ]
