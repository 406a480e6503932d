-- Words that a table does not have, and tests over lists.
use Rattle.std.proofs.Common.{◌≡◌, Bool, false, ◌||◌, List, [], ◌∷◌, map, ℕ, refl, sym, ap}
use Rattle.std.specs.List.{list_any}
use Rattle.std.specs.Str.{bytes_eq}
use Rattle.std.proofs.lemmas.Bool.{false_from_ne_true}
use Rattle.std.proofs.lemmas.Slice.Eq.{bytes_eq-Decides}

-- another word is not that of an entry
pub bytes_eq-other : (entry word : List ℕ) → (word ≡ entry → ⊥) → bytes_eq entry word ≡ false
bytes_eq-other entry word other = false_from_ne_true _ (λ same. other (sym ((bytes_eq-Decides entry word).0 same)))

-- a test over what a function makes of a list
pub list_any-map : {A B : Type 0} (test : B → Bool) (f : A → B) (xs : List A)
    → list_any test (map f xs) ≡ list_any (λ x. test (f x)) xs
list_any-map test f [] = refl
list_any-map test f (x ∷ xs) = ap (λ rest. test (f x) || rest) (list_any-map test f xs)
