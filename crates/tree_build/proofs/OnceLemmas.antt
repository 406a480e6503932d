-- The numbers of a list, each once.
use Rattle.std.proofs.Common.{◌≡◌, ◌≢◌, ℕ, suc, ◌/◌, ◌<◌, ◌≤◌, Bool, false, cond, not, ◌==◌, List, [], ◌∷◌, ◌++◌, map}
use Rattle.std.proofs.Common.{filter, refl, sym, ap, subst, ◌∙◌, inl, inr, arith, ne_eqb, eq-eqb}
use Rattle.std.proofs.lemmas.Bool.{cases_Bool}
use Rattle.std.proofs.lemmas.Bool.Decides.{eqb_tells}
use Rattle.std.proofs.lemmas.List.Elements.{filter-append}
use Rattle.std.specs.List.{AllByRecursion}
use Rattle.quota_types.proofs.AscendsLemmas.{Ascends}
use Rattle.tree_build.specs.NewFile.{parents_of}
use Rattle.tree_build.specs.Size.{each_once}

-- a number is not another one
abbrev pub is_not : ℕ → ℕ → Bool
is_not number other = not (other == number)

-- two filters in either order
filters_swap : (p q : ℕ → Bool) (xs : List ℕ) → filter p (filter q xs) ≡ filter q (filter p xs)
filters_swap p q [] = refl
filters_swap p q (x ∷ xs) =
    let rest = filters_swap p q xs in
    elim (cases_Bool (p x)) [
      | inl keeps ↦ elim (cases_Bool (q x)) [
        | inl keeps_too ↦ ap (λ (b : Bool). filter p (cond b (x ∷ filter q xs) (filter q xs))) keeps_too
            ∙ ap (λ (b : Bool). cond b (x ∷ filter p (filter q xs)) (filter p (filter q xs))) keeps
            ∙ ap (λ (ys : List ℕ). x ∷ ys) rest
            ∙ sym (ap (λ (b : Bool). filter q (cond b (x ∷ filter p xs) (filter p xs))) keeps
            ∙ ap (λ (b : Bool). cond b (x ∷ filter q (filter p xs)) (filter q (filter p xs))) keeps_too)
        | inr not_q ↦ ap (λ (b : Bool). filter p (cond b (x ∷ filter q xs) (filter q xs))) not_q ∙ rest
            ∙ sym (ap (λ (b : Bool). filter q (cond b (x ∷ filter p xs) (filter p xs))) keeps
            ∙ ap (λ (b : Bool). cond b (x ∷ filter q (filter p xs)) (filter q (filter p xs))) not_q)
      ]
      | inr not_p ↦ elim (cases_Bool (q x)) [
        | inl keeps_too ↦ ap (λ (b : Bool). filter p (cond b (x ∷ filter q xs) (filter q xs))) keeps_too
            ∙ ap (λ (b : Bool). cond b (x ∷ filter p (filter q xs)) (filter p (filter q xs))) not_p
            ∙ rest ∙ sym (ap (λ (b : Bool). filter q (cond b (x ∷ filter p xs) (filter p xs))) not_p)
        | inr not_q ↦ ap (λ (b : Bool). filter p (cond b (x ∷ filter q xs) (filter q xs))) not_q ∙ rest
            ∙ sym (ap (λ (b : Bool). filter q (cond b (x ∷ filter p xs) (filter p xs))) not_p)
      ]
    ]

-- a filter that drops a number, after one that drops only that
filter_both : (p : ℕ → Bool) (x : ℕ) (xs : List ℕ) → p x ≡ false → filter p (filter (is_not x) xs) ≡ filter p xs
filter_both p x [] drops = refl
filter_both p x (y ∷ ys) drops =
    let rest = filter_both p x ys drops in
    elim (eqb_tells y x) [
      | inl same ↦
          ap (λ (b : Bool). filter p (cond (not b) (y ∷ filter (is_not x) ys) (filter (is_not x) ys))) same.0 ∙ rest
          ∙ sym (ap (λ (b : Bool). cond b (y ∷ filter p ys) (filter p ys)) (ap p same.1 ∙ drops))
      | inr other ↦ ap (λ (b : Bool). filter p (cond (not b) (y ∷ filter (is_not x) ys) (filter (is_not x) ys))) other.0
          ∙ ap (λ (zs : List ℕ). cond (p y) (y ∷ zs) zs) rest
    ]

-- a filter of numbers of which each stands once
pub filter-each_once : (p : ℕ → Bool) (xs : List ℕ) → filter p (each_once xs) ≡ each_once (filter p xs)
filter-each_once p [] = refl
filter-each_once p (x ∷ xs) =
    let rest = filter-each_once p xs in
    elim (cases_Bool (p x)) [
      | inl keeps ↦ ap
          (λ (b : Bool).
          cond b (x ∷ filter p (filter (is_not x) (each_once xs))) (filter p (filter (is_not x) (each_once xs)))) keeps
          ∙ ap (λ (ys : List ℕ). x ∷ ys) (filters_swap p (is_not x) (each_once xs) ∙ ap (filter (is_not x)) rest)
          ∙ sym (ap (λ (b : Bool). each_once (cond b (x ∷ filter p xs) (filter p xs))) keeps)
      | inr drops ↦ ap
          (λ (b : Bool).
          cond b (x ∷ filter p (filter (is_not x) (each_once xs))) (filter p (filter (is_not x) (each_once xs)))) drops
          ∙ filter_both p x (each_once xs) drops ∙ rest
          ∙ sym (ap (λ (b : Bool). each_once (cond b (x ∷ filter p xs) (filter p xs))) drops)
    ]

filter_of_map : (q : ℕ → Bool) (f : ℕ → ℕ) (xs : List ℕ) → filter q (map f xs) ≡ map f (filter (λ x. q (f x)) xs)
filter_of_map q f [] = refl
filter_of_map q f (x ∷ xs) =
    let rest = filter_of_map q f xs in
    elim (cases_Bool (q (f x))) [
      | inl keeps ↦ ap (λ (b : Bool). cond b (f x ∷ filter q (map f xs)) (filter q (map f xs))) keeps
          ∙ ap (λ (ys : List ℕ). f x ∷ ys) rest
          ∙ sym (ap (λ (b : Bool). map f (cond b (x ∷ filter (λ y. q (f y)) xs) (filter (λ y. q (f y)) xs))) keeps)
      | inr drops ↦ ap (λ (b : Bool). cond b (f x ∷ filter q (map f xs)) (filter q (map f xs))) drops ∙ rest
          ∙ sym (ap (λ (b : Bool). map f (cond b (x ∷ filter (λ y. q (f y)) xs) (filter (λ y. q (f y)) xs))) drops)
    ]

-- what is made of each number, each once
pub each_once-map : (f : ℕ → ℕ) (xs : List ℕ) → each_once (map f (each_once xs)) ≡ each_once (map f xs)
each_once-map f [] = refl
each_once-map f (x ∷ xs) =
    let others : List ℕ = each_once xs in
    let dropped : filter (is_not (f x)) (map f (filter (is_not x) others)) ≡ filter (is_not (f x)) (map f others) =
    filter_of_map (is_not (f x)) f (filter (is_not x) others)
    ∙ ap (map f) (filter_both (λ y. is_not (f x) (f y)) x others (ap not (eq-eqb (f x) (f x) refl)))
    ∙ sym (filter_of_map (is_not (f x)) f others) in
    ap (λ (ys : List ℕ). f x ∷ ys) (
    filter-each_once (is_not (f x)) (map f (filter (is_not x) others)) ∙ ap each_once dropped
    ∙ sym (filter-each_once (is_not (f x)) (map f others))
    ∙ ap (filter (is_not (f x))) (each_once-map f xs)
    )

filter_none : (x : ℕ) (xs : List ℕ) → AllByRecursion (λ n. n ≡ x) xs → filter (is_not x) xs ≡ []
filter_none x [] all = refl
filter_none x (y ∷ ys) all =
    ap (λ (b : Bool). cond (not b) (y ∷ filter (is_not x) ys) (filter (is_not x) ys)) (eq-eqb y x all.0)
    ∙ filter_none x ys all.1

pub filter_all : (x : ℕ) (xs : List ℕ) → AllByRecursion (λ n. n ≢ x) xs → filter (is_not x) xs ≡ xs
filter_all x [] all = refl
filter_all x (y ∷ ys) all =
    ap (λ (b : Bool). cond (not b) (y ∷ filter (is_not x) ys) (filter (is_not x) ys)) (ne_eqb y x all.0)
    ∙ ap (λ (zs : List ℕ). y ∷ zs) (filter_all x ys all.1)

-- a number that stands at the front and nowhere behind stands first
pub once_run : (x : ℕ) (xs ys : List ℕ) → AllByRecursion (λ n. n ≡ x) xs → AllByRecursion (λ n. n ≢ x) ys
    → each_once (x ∷ xs ++ ys) ≡ x ∷ each_once ys
once_run x xs ys same other =
    ap (λ (zs : List ℕ). x ∷ zs) (
    filter-each_once (is_not x) (xs ++ ys)
    ∙ ap each_once (filter-append (is_not x) xs ys
    ∙ ap (λ (zs : List ℕ). zs ++ filter (is_not x) ys) (filter_none x xs same) ∙ filter_all x ys other)
    )

-- numbers that do not fall, from one on
abbrev pub Climbs : ℕ → List ℕ → Type 0
Climbs low [] = Unit {0}
Climbs low (x ∷ xs) = (low ≤ x) × Climbs x xs

climbs_other : (low : ℕ) (xs : List ℕ) → Ascends low xs → Ascends (suc low) (filter (is_not low) xs)
climbs_other low [] r = tt
climbs_other low (x ∷ xs) r =
    let from : low ≤ x = r.0 in
    elim (eqb_tells x low) [
      | inl same ↦ subst
          (λ (b : Bool). Ascends (suc low) (cond (not b) (x ∷ filter (is_not low) xs) (filter (is_not low) xs)))
          (sym same.0)
          (subst (λ (zs : List ℕ). Ascends (suc low) zs)
          (sym (filter_all low xs (above low (suc x) xs (omega arith) r.1)))
          (subst (λ (n : ℕ). Ascends (suc n) xs) same.1 r.1))
      | inr other ↦ subst
          (λ (b : Bool). Ascends (suc low) (cond (not b) (x ∷ filter (is_not low) xs) (filter (is_not low) xs)))
          (sym other.0) (
            omega (arith, from, other.1),
            subst (λ (zs : List ℕ). Ascends (suc x) zs)
                (sym (filter_all low xs (above low (suc x) xs (omega arith) r.1))) r.1,
          )
    ]
  where
    above : (n low : ℕ) (xs : List ℕ) → n < low → Ascends low xs → AllByRecursion (λ m. m ≢ n) xs
    above n low [] lt r = tt
    above n low (x ∷ xs) lt r =
        let from : low ≤ x = r.0 in ((λ e. omega (arith, e, from)), above n (suc x) xs (omega arith) r.1)

-- they strictly ascend where each stands once
pub ascends-each_once : (low : ℕ) (xs : List ℕ) → Climbs low xs → Ascends low (each_once xs)
ascends-each_once low [] r = tt
ascends-each_once low (x ∷ xs) r = (r.0, climbs_other x (each_once xs) (ascends-each_once x xs r.1))

-- the numbers without their last digits ascend too
pub ascends-parents_of : (xs : List ℕ) → Ascends 0 xs → Ascends 0 (parents_of xs)
ascends-parents_of xs r = ascends-each_once 0 (map (λ n. n / 256) xs) (climbs_parents 0 0 xs (omega arith) r)
  where
    climbs_parents : (low from : ℕ) (xs : List ℕ) → low ≤ from / 256 → Ascends from xs
        → Climbs low (map (λ n. n / 256) xs)
    climbs_parents low from [] le r = tt
    climbs_parents low from (x ∷ xs) le r =
        let above : from ≤ x = r.0 in (omega arith, climbs_parents (x / 256) (suc x) xs (omega arith) r.1)
