-- A set of names in memory, as a name is taken out of it.
use Rattle.std.proofs.Common.{◌≡◌, Bool, true, false, cond, not, List, [], ◌∷◌, ◌||◌, filter, refl, sym, ap, ◌∙◌, inl}
use Rattle.std.proofs.Common.{inr, String, ℕ}
use Rattle.std.specs.Str.{bytes_eq}
use Rattle.std.specs.String.{string_bytes}
use Rattle.std.specs.declared.alloc.Global.{Global}
use Rattle.std.proofs.lemmas.Bool.{cases_Bool, true≢false}
use Rattle.memory_objects.specs.NameSet.{names_in}
use Rattle.outside.specs.Unsynced.{with_name}
use Rattle.outside.proofs.UnsyncedLemmas.{same_names}
use Rattle.outside.proofs.WorldLemmas.{bytes_eq-true}

both_false : (test : Bool) → cond test false false ≡ false
both_false true = refl
both_false false = refl

gone : (test named rest : Bool) → (test ≡ false → named ≡ false)
    → cond test false (named || rest) ≡ cond test false rest
gone true named rest differs = refl
gone false named rest differs = ap (λ (b : Bool). b || rest) (differs refl)

stays : (test named rest : Bool) → (test ≡ true → named ≡ true → ⊥)
    → (named || cond test false rest) ≡ cond test false (named || rest)
stays true true rest apart = absurd (apart refl refl)
stays true false rest apart = refl
stays false named rest apart = refl

filtered : (name other : List ℕ) (texts : List (String Global))
    → names_in (filter (λ (text : String Global). not (bytes_eq (string_bytes text) name)) texts) other
    ≡ with_name (names_in texts) name false other
filtered name other [] = sym (both_false (bytes_eq name other))
filtered name other (text ∷ texts) =
    let kept : List (String Global) = filter (λ (t : String Global). not (bytes_eq (string_bytes t) name)) texts in
    elim (cases_Bool (bytes_eq (string_bytes text) name)) [
      | inl e ↦ ap (λ (test : Bool). names_in (cond (not test) (text ∷ kept) kept) other) e
          ∙ filtered name other texts
          ∙ sym (gone (bytes_eq name other) (bytes_eq (string_bytes text) other) (names_in texts other)
          (λ differs. ap (λ (n : List ℕ). bytes_eq n other) (bytes_eq-true _ _ e) ∙ differs))
      | inr e ↦ ap (λ (test : Bool). names_in (cond (not test) (text ∷ kept) kept) other) e
          ∙ ap (λ (b : Bool). bytes_eq (string_bytes text) other || b) (filtered name other texts)
          ∙ stays (bytes_eq name other) (bytes_eq (string_bytes text) other) (names_in texts other)
          (λ one two.
          true≢false (sym (ap (λ (n : List ℕ). bytes_eq (string_bytes text) n) (bytes_eq-true _ _ one) ∙ two) ∙ e))
    ]

-- a name that was taken out of the set
pub names_in-removed : (name : List ℕ) (texts kept : List (String Global))
    → kept ≡ filter (λ (text : String Global). not (bytes_eq (string_bytes text) name)) texts
    → names_in kept ≡ with_name (names_in texts) name false
names_in-removed name texts kept is =
    ap (λ (t : List (String Global)). names_in t) is ∙ same_names _ _ (λ other. filtered name other texts)
