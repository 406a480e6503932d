-- How many beginnings identifiers have, as they are met one after another.
use Rattle.std.proofs.Common.{◌≡◌, ◌≢◌, ℕ, suc, ◌+◌, ◌/◌, ◌^◌, ◌<◌, ◌≤◌, ◌==◌, Bool, cond, not, List, [], ◌∷◌, ◌++◌}
use Rattle.std.proofs.Common.{length, map, filter, get_or, take, drop, Option, Some, None, refl, sym, ap, subst, ◌∙◌}
use Rattle.std.proofs.Common.{inl, inr, arith, length-append, eq-eqb}
use Rattle.std.proofs.Math.Nat.{div-mul-le_self}
use Rattle.std.proofs.lemmas.Bool.Decides.{eqb_tells}
use Rattle.std.proofs.lemmas.List.{append-nil, drop_more, map-append, map_more, take-append-drop}
use Rattle.std.proofs.lemmas.List.Elements.{filter-append}
use Rattle.std.proofs.lemmas.Nat.{le-div}
use Rattle.std.specs.List.{AllByRecursion}
use Rattle.std.specs.List.Sorted.{IsStrictlyIncreasing}
use Rattle.quota_types.specs.declared.record.Entry.{Entry}
use Rattle.quota_value.specs.Listed.{ids_of}
use Rattle.quota_types.specs.Ids.{IsAfter}
use Rattle.tree_build.specs.declared.needed.Needed.{Needed}
use Rattle.tree_build.specs.Beginnings.{IsLastOf, new_beginnings}
use Rattle.quota_types.specs.Times.{StandsIn}
use Rattle.tree_build.specs.Needed.{HasMet}
use Rattle.tree_build.specs.Size.{beginnings, each_once}
use Rattle.quota_types.proofs.TimesLemmas.{times-append, times-cons-same, times_cases}
use Rattle.quota_types.proofs.AscendsLemmas.{Ascends, Ascends-of, Ascends-right}
use Rattle.quota_types.proofs.ListLemmas.{AllByRecursion-weaker}
use Rattle.tree_build.proofs.DataBlockLemmas.{no_entry}
use Rattle.tree_build.proofs.OnceLemmas.{filter-each_once, is_not}
use Rattle.quota_radix.proofs.PathLemmas.{each-append}

-- a number that is there already adds nothing
once_known : (xs : List ℕ) (y : ℕ) → StandsIn xs y → each_once (xs ++ y ∷ []) ≡ each_once xs
once_known [] y stands = absurd (omega arith)
once_known (x ∷ xs) y stands = elim (times_cases x xs y) [
  | inl same ↦
      let gone : filter (is_not x) (y ∷ []) ≡ [] =
      ap (λ (b : Bool). cond (not b) (y ∷ []) []) (eq-eqb y x (sym same.0)) in
      ap (λ (zs : List ℕ). x ∷ zs) (
      filter-each_once (is_not x) (xs ++ y ∷ [])
      ∙ ap each_once (filter-append (is_not x) xs (y ∷ []) ∙ ap (λ (zs : List ℕ). filter (is_not x) xs ++ zs) gone
      ∙ append-nil (filter (is_not x) xs))
      ∙ sym (filter-each_once (is_not x) xs)
      )
  | inr other ↦ ap (λ (zs : List ℕ). x ∷ filter (is_not x) zs) (once_known xs y (omega (arith, stands, other.1)))
]

-- and one that is not there is one more
once_new : (xs : List ℕ) (y : ℕ) → AllByRecursion (λ x. x ≢ y) xs → each_once (xs ++ y ∷ []) ≡ each_once xs ++ y ∷ []
once_new [] y new = refl
once_new (x ∷ xs) y new =
    let there : filter (is_not x) (y ∷ []) ≡ y ∷ [] = elim (eqb_tells y x) [
      | inl same ↦ absurd (new.0 (sym same.1))
      | inr other ↦ ap (λ (b : Bool). cond (not b) (y ∷ []) []) other.0
    ] in
    ap (λ (zs : List ℕ). x ∷ zs) (
    ap (filter (is_not x)) (once_new xs y new.1) ∙ filter-append (is_not x) (each_once xs) (y ∷ [])
    ∙ ap (λ (zs : List ℕ). filter (is_not x) (each_once xs) ++ zs) there
    )

each_of_stands : (P : ℕ → Type 0) (xs : List ℕ) (n : ℕ) → AllByRecursion P xs → StandsIn xs n → P n
each_of_stands P [] n all stands = absurd (omega arith)
each_of_stands P (x ∷ xs) n all stands = elim (times_cases x xs n) [
  | inl same ↦ subst P same.0 all.0
  | inr other ↦ each_of_stands P xs n all.1 (omega (arith, stands, other.1))
]

ascends_before : (low : ℕ) (xs : List ℕ) (y : ℕ) (ys : List ℕ) → Ascends low (xs ++ y ∷ ys)
    → AllByRecursion (λ x. x < y) xs
ascends_before low [] y ys r = tt
ascends_before low (x ∷ xs) y ys r = ((Ascends-right (suc x) xs (y ∷ ys) r.1).0, ascends_before (suc x) xs y ys r.1)

divided : (m n k : ℕ) → 0 < k → m < n → m / k ≤ n / k
divided m n k some lt = le-div (m / k) n k some (omega (arith, div-mul-le_self m k))

stands_map : (f : ℕ → ℕ) (xs : List ℕ) (n : ℕ) → StandsIn xs n → StandsIn (map f xs) (f n)
stands_map f [] n stands = absurd (omega arith)
stands_map f (x ∷ xs) n stands = elim (times_cases x xs n) [
  | inl same ↦
      subst (λ (m : ℕ). StandsIn (f x ∷ map f xs) (f m)) same.0 (omega (arith, times-cons-same (f x) (map f xs)))
  | inr other ↦ elim (times_cases (f x) (map f xs) (f n)) [
    | inl same ↦ omega (arith, same.1)
    | inr differs ↦ omega (arith, differs.1, stands_map f xs n (omega (arith, stands, other.1)))
  ]
]

-- one more identifier has one more beginning where it begins differently from the last one, and otherwise none
beginnings_more : (left_out : ℕ) (ids : List ℕ) (last : Option ℕ) (id : ℕ) → 0 < 256 ^ left_out → IsLastOf last ids
    → IsAfter last id
    → beginnings left_out (ids ++ id ∷ []) ≡ beginnings left_out ids + new_beginnings (256 ^ left_out) last id
beginnings_more left_out ids None id some last is =
    ap (λ (xs : List ℕ). beginnings left_out (xs ++ id ∷ [])) last
    ∙ sym (ap (λ (xs : List ℕ). beginnings left_out xs + 1) last)
beginnings_more left_out ids (Some before) id some last is =
    let d : ℕ = 256 ^ left_out in
    let begun : List ℕ = map (λ id. id / d) ids in
    let split : beginnings left_out (ids ++ id ∷ []) ≡ length (each_once (begun ++ id / d ∷ [])) =
    ap (λ (xs : List ℕ). length (each_once xs)) (map-append (λ id. id / d) ids (id ∷ [])) in
    let up : before / d ≤ id / d = divided before id d some is in
    elim (eqb_tells (before / d) (id / d)) [
      | inl same ↦
          let there : StandsIn begun (id / d) =
          subst (StandsIn begun) same.1 (stands_map (λ id. id / d) ids before last.0) in
          let none : ◌≡◌ {A = ℕ} (cond (before / d == id / d) 0 1) 0 = ap (λ (b : Bool). cond b 0 1) same.0 in
          let known : length (each_once (begun ++ id / d ∷ [])) ≡ length (each_once begun) =
          ap (λ (xs : List ℕ). length xs) (once_known begun (id / d) there) in
          omega (arith, split, known, none)
      | inr other ↦
          let one : ◌≡◌ {A = ℕ} (cond (before / d == id / d) 0 1) 1 = ap (λ (b : Bool). cond b 0 1) other.0 in
          let new : AllByRecursion (λ x. x ≢ id / d) begun =
          each_of_map (λ x. x ≢ id / d) (λ id. id / d) ids
          (AllByRecursion-weaker (λ (n : ℕ). n ≤ before) (λ (n : ℕ). n / d ≢ id / d) ids
          (λ n le e. let low : n / d ≤ before / d = divided_le n before d some le in omega (arith, low, up, other.1, e))
          last.1) in
          let more : length (each_once (begun ++ id / d ∷ [])) ≡ length (each_once begun) + 1 =
          ap (λ (xs : List ℕ). length xs) (once_new begun (id / d) new)
          ∙ length-append (each_once begun) (id / d ∷ []) in
          omega (arith, split, more, one)
    ]
  where
    divided_le : (m n k : ℕ) → 0 < k → m ≤ n → m / k ≤ n / k
    divided_le m n k some le = le-div (m / k) n k some (omega (arith, div-mul-le_self m k))

    each_of_map : (P : ℕ → Type 0) (f : ℕ → ℕ) (xs : List ℕ) → AllByRecursion (λ x. P (f x)) xs
        → AllByRecursion P (map f xs)
    each_of_map P f [] all = tt
    each_of_map P f (x ∷ xs) all = (all.0, each_of_map P f xs all.1)

-- the last identifier once there is one more
last_more : (ids : List ℕ) (last : Option ℕ) (id : ℕ) → IsLastOf last ids → IsAfter last id
    → IsLastOf (Some id) (ids ++ id ∷ [])
last_more ids last id is after = (
  omega (arith, times-append ids (id ∷ []) id, times-cons-same id []),
  each-append (λ (n : ℕ). n ≤ id) ids (id ∷ []) (up_to last is after) (omega arith, tt),
)
  where
    up_to : (last : Option ℕ) → IsLastOf last ids → IsAfter last id → AllByRecursion (λ n. n ≤ id) ids
    up_to None is after = subst (AllByRecursion (λ n. n ≤ id)) (sym is) tt
    up_to (Some before) is after =
        AllByRecursion-weaker (λ (n : ℕ). n ≤ before) (λ (n : ℕ). n ≤ id) ids (λ n le. omega (arith, le, after)) is.1

-- one more identifier was met
pub met_more : (ids : List ℕ) (old new : Needed) (id : ℕ) → IsAfter old.last id → HasMet ids old
    → new.entries ≡ old.entries + 1
    → new.firsts ≡ old.firsts + new_beginnings (256 ^ 3) old.last id
    → new.seconds ≡ old.seconds + new_beginnings (256 ^ 2) old.last id
    → new.thirds ≡ old.thirds + new_beginnings (256 ^ 1) old.last id → new.last ≡ Some id → HasMet (ids ++ id ∷ []) new
met_more ids old new id after met entries firsts seconds thirds last = record {
  entries = omega (arith, entries, met.entries, length-append ids (id ∷ []));
  firsts = omega (arith, firsts, met.firsts, beginnings_more 3 ids old.last id (omega arith) met.last after);
  seconds = omega (arith, seconds, met.seconds, beginnings_more 2 ids old.last id (omega arith) met.last after);
  thirds = omega (arith, thirds, met.thirds, beginnings_more 1 ids old.last id (omega arith) met.last after);
  last = subst (λ (o : Option ℕ). IsLastOf o (ids ++ id ∷ [])) (sym last) (last_more ids old.last id met.last after);
}

-- an identifier of an ascending list comes after those in front of it
pub after_met : (list : List Entry) (place : ℕ) (needed : Needed) → IsStrictlyIncreasing (ids_of list)
    → place < length list → HasMet (ids_of (take place list)) needed
    → IsAfter needed.last (get_or list place no_entry).id
after_met list place needed rising low met = go needed.last met.last
  where
    parted : ids_of list ≡ ids_of (take place list) ++ (get_or list place no_entry).id ∷ ids_of (drop (place + 1) list)
    parted =
        ap ids_of (sym (take-append-drop place list))
        ∙ map-append (λ (entry : Entry). entry.id) (take place list) (drop place list)
        ∙ ap (λ (es : List Entry). ids_of (take place list) ++ ids_of es) (drop_more list place no_entry low)

    before : AllByRecursion (λ x. x < (get_or list place no_entry).id) (ids_of (take place list))
    before =
        ascends_before 0 (ids_of (take place list)) (get_or list place no_entry).id (ids_of (drop (place + 1) list))
        (subst (Ascends 0) parted (Ascends-of (ids_of list) rising))

    go : (last : Option ℕ) → IsLastOf last (ids_of (take place list)) → IsAfter last (get_or list place no_entry).id
    go None is = tt
    go (Some last) is =
        each_of_stands (λ (n : ℕ). n < (get_or list place no_entry).id) (ids_of (take place list)) last before is.0

-- the identifiers in front once there is one more
pub ids_more : (list : List Entry) (place : ℕ) → place < length list
    → ids_of (take (place + 1) list) ≡ ids_of (take place list) ++ (get_or list place no_entry).id ∷ []
ids_more list place low = map_more (λ (entry : Entry). entry.id) list place no_entry low
