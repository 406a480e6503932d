-- Blocks that are added to a set one after another.
use Rattle.std.proofs.Common.{◌≡◌, ℕ, ◌+◌, ◌<◌, ◌≤◌, Bool, List, [], ◌∷◌, ◌++◌, length, get_or, map, take, drop, sym}
use Rattle.std.proofs.Common.{ap, subst, ◌∙◌, arith, append_assoc}
use Rattle.std.proofs.lemmas.List.{drop_more, map-append, map_more, take-append-drop, take_all}
use Rattle.file_blocks.specs.BlockSet.{AreFlagsOf}
use Rattle.quota_types.specs.Times.{StandsIn, StandsTwiceIn, times}
use Rattle.quota_types.proofs.TimesLemmas.{times-append, times-cons-same, few_of_distinct}

-- the set after one more block
pub met_more : {X : Type 0} (f : X → ℕ) (blocks : ℕ) (flags : List Bool) (numbers : List ℕ) (xs : List X) (i : ℕ)
    (d : X) → i < length xs
    → AreFlagsOf blocks flags ((numbers ++ map f (take i xs)) ++ f (get_or xs i d) ∷ [])
    → AreFlagsOf blocks flags (numbers ++ map f (take (i + 1) xs))
met_more f blocks flags numbers xs i d low are =
    subst (λ (all : List ℕ). AreFlagsOf blocks flags all)
    (append_assoc numbers (map f (take i xs)) (f (get_or xs i d) ∷ [])
    ∙ ap (λ (all : List ℕ). numbers ++ all) (sym (map_more f xs i d low))) are

-- the set after all blocks
pub met_all : {X : Type 0} (f : X → ℕ) (blocks : ℕ) (flags : List Bool) (numbers : List ℕ) (xs : List X) (i : ℕ)
    → length xs ≤ i
    → AreFlagsOf blocks flags (numbers ++ map f (take i xs)) → AreFlagsOf blocks flags (numbers ++ map f xs)
met_all {X} f blocks flags numbers xs i all are =
    subst (λ (ys : List X). AreFlagsOf blocks flags (numbers ++ map f ys)) (take_all i xs all) are

-- the numbers of a list, parted at one of them
parted : {X : Type 0} (f : X → ℕ) (xs : List X) (i : ℕ) (d : X) → i < length xs
    → map f xs ≡ map f (take i xs) ++ f (get_or xs i d) ∷ map f (drop (i + 1) xs)
parted {X} f xs i d low =
    ap (map f) (sym (take-append-drop i xs)) ∙ map-append f (take i xs) (drop i xs)
    ∙ ap (λ (ys : List X). map f (take i xs) ++ map f ys) (drop_more xs i d low)

-- one of the numbers stands among them
pub stands_mapped : {X : Type 0} (f : X → ℕ) (xs : List X) (i : ℕ) (d : X) → i < length xs
    → StandsIn (map f xs) (f (get_or xs i d))
stands_mapped f xs i d low =
    let n : ℕ = f (get_or xs i d) in
    let behind : List ℕ = map f (drop (i + 1) xs) in
    omega (
      arith,
      ap (λ (all : List ℕ). times all n) (parted f xs i d low),
      times-append (map f (take i xs)) (n ∷ behind) n,
      times-cons-same n behind,
    )

-- one that was met before stands twice
pub met_twice : {X : Type 0} (f : X → ℕ) (numbers : List ℕ) (xs : List X) (i : ℕ) (d : X) → i < length xs
    → StandsIn (numbers ++ map f (take i xs)) (f (get_or xs i d))
    → StandsTwiceIn (numbers ++ map f xs) (f (get_or xs i d))
met_twice f numbers xs i d low stands =
    let n : ℕ = f (get_or xs i d) in
    let first : List ℕ = map f (take i xs) in
    let behind : List ℕ = map f (drop (i + 1) xs) in
    omega (
      arith,
      stands,
      ap (λ (all : List ℕ). times all n) (parted f xs i d low),
      times-append numbers first n,
      times-append numbers (map f xs) n,
      times-append first (n ∷ behind) n,
      times-cons-same n behind,
    )

-- no more blocks are marked than there are
pub marked_fit : (blocks : ℕ) (flags : List Bool) (numbers : List ℕ) → AreFlagsOf blocks flags numbers
    → length numbers ≤ blocks
marked_fit blocks flags numbers are = few_of_distinct blocks numbers are.distinct are.inside
