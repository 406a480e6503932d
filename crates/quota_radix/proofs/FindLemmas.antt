-- What is found in joined lists, and the first of two values that may be there.
use Rattle.std.proofs.Common.{◌≡◌, Bool, true, false, cond, List, [], ◌∷◌, ◌++◌, find, Some, None, refl, sym, ap, ◌∙◌}
use Rattle.std.proofs.Common.{◌⊎◌, inl, inr}

-- what is found in a joined list
pub find_first : {X : Type 0} (test : X → Bool) (xs ys : List X) (x : X) → find test xs ≡ Some x
    → find test (xs ++ ys) ≡ Some x
find_first test [] ys x found = absurd cc
find_first {X} test (y ∷ xs) ys x found = elim (cases test y) [
  | inl passes ↦ ap (λ (b : Bool). cond b (Some y) (find test (xs ++ ys))) passes
      ∙ sym (ap (λ (b : Bool). cond b (Some y) (find test xs)) passes) ∙ found
  | inr fails ↦ ap (λ (b : Bool). cond b (Some y) (find test (xs ++ ys))) fails
      ∙ find_first test xs ys x (sym (ap (λ (b : Bool). cond b (Some y) (find test xs)) fails) ∙ found)
]
  where
    cases : {X : Type 0} (test : X → Bool) (y : X) → (test y ≡ true) ⊎ (test y ≡ false)
    cases test y = elim (test y) as (λ (b : Bool). (b ≡ true) ⊎ (b ≡ false)) [ true ↦ inl refl | false ↦ inr refl ]

pub find_later : {X : Type 0} (test : X → Bool) (xs ys : List X) → find test xs ≡ None
    → find test (xs ++ ys) ≡ find test ys
find_later test [] ys none = refl
find_later {X} test (y ∷ xs) ys none = elim (cases test y) [
  | inl passes ↦
      absurd (let some : Some y ≡ None = sym (ap (λ (b : Bool). cond b (Some y) (find test xs)) passes) ∙ none in cc)
  | inr fails ↦ ap (λ (b : Bool). cond b (Some y) (find test (xs ++ ys))) fails
      ∙ find_later test xs ys (sym (ap (λ (b : Bool). cond b (Some y) (find test xs)) fails) ∙ none)
]
  where
    cases : {X : Type 0} (test : X → Bool) (y : X) → (test y ≡ true) ⊎ (test y ≡ false)
    cases test y = elim (test y) as (λ (b : Bool). (b ≡ true) ⊎ (b ≡ false)) [ true ↦ inl refl | false ↦ inr refl ]
