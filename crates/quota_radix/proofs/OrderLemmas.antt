-- Lists by their places, and paths whose numbers ascend.
use Rattle.std.proofs.Common.{◌≡◌, ℕ, zero, suc, ◌<◌, ◌≤◌, List, [], ◌∷◌, ◌++◌, length, get_or, refl, ap, arith}
use Rattle.std.specs.List.{AllByRecursion}
use Rattle.quota_types.proofs.AscendsLemmas.{Ascends}
use Rattle.quota_radix.specs.declared.tree_path.TreePath.{TreePath}
use Rattle.quota_radix.specs.Tree.{numbers_of}
use Rattle.quota_radix.proofs.PathLemmas.{Rises}

-- what holds at each place holds of each element
pub each_of_places : {X : Type 0} (P : X → Type 0) (absent : X) (xs : List X)
    → ((k : ℕ) → k < length xs → P (get_or xs k absent)) → AllByRecursion P xs
each_of_places P absent [] at = tt
each_of_places P absent (x ∷ xs) at =
    (at 0 (omega arith), each_of_places P absent xs (λ k lt. at (suc k) (omega arith)))

pub each_at : {X : Type 0} (P : X → Type 0) (absent : X) (xs : List X) → AllByRecursion P xs → (k : ℕ) → k < length xs
    → P (get_or xs k absent)
each_at P absent [] all k lt = absurd (omega arith)
each_at P absent (x ∷ xs) all zero lt = all.0
each_at P absent (x ∷ xs) all (suc k) lt = each_at P absent xs all.1 k (omega arith)

pub each_both : {X : Type 0} (P Q : X → Type 0) (xs : List X) → AllByRecursion P xs → AllByRecursion Q xs
    → AllByRecursion (λ x. P x × Q x) xs
each_both P Q [] p q = tt
each_both P Q (x ∷ xs) p q = ((p.0, q.0), each_both P Q xs p.1 q.1)

pub each_left : {X : Type 0} (P : X → Type 0) (xs ys : List X) → AllByRecursion P (xs ++ ys) → AllByRecursion P xs
each_left P [] ys all = tt
each_left P (x ∷ xs) ys all = (all.0, each_left P xs ys all.1)

pub each_right : {X : Type 0} (P : X → Type 0) (xs ys : List X) → AllByRecursion P (xs ++ ys) → AllByRecursion P ys
each_right P [] ys all = all
each_right P (x ∷ xs) ys all = each_right P xs ys all.1

pub length_numbers : (ps : List TreePath) → length (numbers_of ps) ≡ length ps
length_numbers [] = refl
length_numbers (p ∷ ps) = ap suc (length_numbers ps)

pub number_at_place : (ps : List TreePath) (k : ℕ) (absent : TreePath) → k < length ps
    → get_or (numbers_of ps) k 0 ≡ (get_or ps k absent).number
number_at_place [] k absent lt = absurd (omega arith)
number_at_place (p ∷ ps) zero absent lt = refl
number_at_place (p ∷ ps) (suc k) absent lt = number_at_place ps k absent (omega arith)

-- paths whose numbers ascend and are below a bound
pub rises_of : (low high : ℕ) (ps : List TreePath) → low ≤ high → Ascends low (numbers_of ps)
    → AllByRecursion (λ (p : TreePath). p.number < high) ps → Rises low ps high
rises_of low high [] le r below = le
rises_of low high (p ∷ ps) le r below = (r.0, rises_of (suc p.number) high ps below.0 r.1 below.1)

pub rises_bound : (low high : ℕ) (ps : List TreePath) → Rises low ps high → low ≤ high
rises_bound low high [] r = r
rises_bound low high (p ∷ ps) r =
    let from : low ≤ p.number = r.0 in
    let rest = rises_bound (suc p.number) high ps r.1 in
    omega arith
