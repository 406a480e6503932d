-- Lists and options of anything.
use Rattle.std.proofs.Common.{suc, ◌≤◌, List, [], ◌∷◌, length, Option, Some, None, arith, ◌≡◌, refl}
use Rattle.std.specs.List.{cons_option, filter_map, AllByRecursion}
use Rattle.std.specs.Option.{option_or}

-- a list of those that are there is no longer than the whole
pub length-filter_map : {X Y : Type 0} (f : X → Option Y) (xs : List X) → length (filter_map f xs) ≤ length xs
length-filter_map f [] = omega arith
length-filter_map {X} {Y} f (x ∷ xs) =
    let rest = length-filter_map f xs in
    elim (f x) as (λ (o : Option Y). length (cons_option o (filter_map f xs)) ≤ suc (length xs)) [
      | None ↦ omega (arith, rest)
      | Some y ↦ omega (arith, rest)
    ]

-- what holds of each element still holds of each where it says less
pub AllByRecursion-weaker : {X : Type 0} (P Q : X → Type 0) (xs : List X) → ((x : X) → P x → Q x) → AllByRecursion P xs
    → AllByRecursion Q xs
AllByRecursion-weaker P Q [] weaker all = tt
AllByRecursion-weaker P Q (x ∷ xs) weaker all = (weaker x all.0, AllByRecursion-weaker P Q xs weaker all.1)

pub option_or-none : {X : Type 0} (o : Option X) → option_or o None ≡ o
option_or-none None = refl
option_or-none (Some x) = refl
