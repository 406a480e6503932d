-- Lists whose elements all pass, and lists with their places.
use Rattle.std.proofs.Common.{◌≡◌, ℕ, ◌+◌, List, [], ◌∷◌, ◌++◌, length, Option, Some, None, refl, ap, ◌∙◌, arith}
use Rattle.std.specs.Prelude.{Bool, cond, filter, IfSome}
use Rattle.std.specs.List.{AllByRecursion, cons_option, enumerate_from, filter_map}

-- tests that agree at each element keep the same
pub filter_same : {X : Type 0} (p q : X → Bool) (xs : List X) → AllByRecursion (λ x. p x ≡ q x) xs
    → filter p xs ≡ filter q xs
filter_same p q [] same = refl
filter_same p q (x ∷ xs) same =
    ap (λ rest. cond (p x) (x ∷ rest) rest) (filter_same p q xs same.1)
    ∙ ap (λ b. cond b (x ∷ filter q xs) (filter q xs)) same.0

-- and so do functions
pub filter_map_same : {X Y : Type 0} (f g : X → Option Y) (xs : List X) → AllByRecursion (λ x. f x ≡ g x) xs
    → filter_map f xs ≡ filter_map g xs
filter_map_same f g [] same = refl
filter_map_same f g (x ∷ xs) same =
    ap (λ rest. cons_option (f x) rest) (filter_map_same f g xs same.1)
    ∙ ap (λ o. cons_option o (filter_map g xs)) same.0

-- what holds of all that a function gives holds of what it gives of each element
pub each_given : {X Y : Type 0} (h : X → Option Y) (P : Y → Type 0) (xs : List X) → AllByRecursion P (filter_map h xs)
    → AllByRecursion (λ x. IfSome (h x) P) xs
each_given h P [] all = tt
each_given {X} {Y} h P (x ∷ xs) all = given (h x) (λ rest. each_given h P xs rest) all
  where
    given : (o : Option Y) → (AllByRecursion P (filter_map h xs) → AllByRecursion (λ (x : X). IfSome (h x) P) xs)
        → AllByRecursion P (cons_option o (filter_map h xs))
        → IfSome o P × AllByRecursion (λ (x : X). IfSome (h x) P) xs
    given None behind all = (tt, behind all)
    given (Some y) behind all = (all.0, behind all.1)

-- the places of two lists in a row
pub enumerate_from-append : {X : Type 0} (n : ℕ) (xs ys : List X)
    → enumerate_from n (xs ++ ys) ≡ enumerate_from n xs ++ enumerate_from (n + length xs) ys
enumerate_from-append n [] ys = ap (λ k. enumerate_from k ys) (omega arith)
enumerate_from-append n (x ∷ xs) ys =
    ap (λ rest. (n, x) ∷ rest) (enumerate_from-append (n + 1) xs ys)
    ∙ ap (λ k. (n, x) ∷ (enumerate_from (n + 1) xs ++ enumerate_from k ys)) (omega arith)
