-- Named files, as a world.
use Rattle.std.proofs.Common.{◌≡◌, ◌≢◌, inl, inr, ℕ, zero, suc, Bool, true, false, cond, List, [], ◌∷◌, length, take}
use Rattle.std.proofs.Common.{Option, Some, None, refl, sym, ap, ◌∙◌}
use Rattle.std.specs.Option.{option_map_or, unwrap_or}
use Rattle.std.specs.Str.{bytes_eq}
use Rattle.std.proofs.lemmas.Bool.{cases_Bool, cond-true, cond-false, false_from_ne_true}
use Rattle.std.proofs.lemmas.Slice.Eq.{bytes_eq-Decides}
use Rattle.outside.specs.World.{World, KeepsOthers, KeepsOtherTwo, overwritten, with_bytes, with_file, with_new_name}

-- two worlds with the same file under each name
pub same_world : (one other : World) → ((name : List ℕ) → one name ≡ other name) → one ≡ other
same_world one other same = λ i name. same name i

-- the same name
pub bytes_eq-same : (name : List ℕ) → bytes_eq name name ≡ true
bytes_eq-same name = (bytes_eq-Decides name name).1 refl

pub bytes_eq-true : (one other : List ℕ) → bytes_eq one other ≡ true → one ≡ other
bytes_eq-true one other = (bytes_eq-Decides one other).0

pub bytes_eq-ne : (one other : List ℕ) → one ≢ other → bytes_eq one other ≡ false
bytes_eq-ne one other differ = false_from_ne_true _ (λ e. differ (bytes_eq-true one other e))

-- a name that has this file already
pub with_file-same : (files : World) (name : List ℕ) (file : Option (List ℕ)) → files name ≡ file
    → with_file files name file ≡ files
with_file-same files name file is = same_world _ _ (λ other.
    elim (cases_Bool (bytes_eq name other)) [
      | inl e ↦ cond-true _ _ _ e ∙ sym is ∙ ap (λ (n : List ℕ). files n) (bytes_eq-true _ _ e)
      | inr e ↦ cond-false _ _ _ e
    ])

-- one choice after another by the same test
pub cond-again : (test : Bool) (x y z : Option (List ℕ)) → cond test x (cond test y z) ≡ cond test x z
cond-again true x y z = refl
cond-again false x y z = refl

-- two choices by tests that are not both true
pub cond_swap : (one other : Bool) (x y z : Option (List ℕ)) → (one ≡ true → other ≡ true → ⊥)
    → cond one x (cond other y z) ≡ cond other y (cond one x z)
cond_swap true true x y z apart = absurd (apart refl refl)
cond_swap true false x y z apart = refl
cond_swap false other x y z apart = refl

-- two names that differ are not both equal to a third
pub apart_names : (one other name : List ℕ) → one ≢ other → bytes_eq one name ≡ true → bytes_eq other name ≡ true → ⊥
apart_names one other name differ e f = differ (bytes_eq-true one name e ∙ sym (bytes_eq-true other name f))

-- bytes written into a file that was not there
pub with_bytes-made : (files : World) (name : List ℕ) (at : ℕ) (bytes empty made : List ℕ) → files name ≡ None
    → empty ≡ [] → made ≡ overwritten empty at bytes → with_file files name (Some made) ≡ with_bytes files name at bytes
with_bytes-made files name at bytes empty made absent none written =
    ap (λ (b : List ℕ). with_file files name (Some b)) (written ∙ ap (λ (e : List ℕ). overwritten e at bytes) none)
    ∙ ap (λ (f : Option (List ℕ)). with_file files name (Some (overwritten (unwrap_or f []) at bytes))) (sym absent)

moved_again : (one other : Bool) (x z : Option (List ℕ))
    → cond one x (cond other None (cond one None z)) ≡ cond one x (cond other None z)
moved_again true other x z = refl
moved_again false other x z = refl

-- a file given another name, where the other file of that name was removed before
pub with_new_name-removed : (files : World) (from to bytes : List ℕ) → from ≢ to → files from ≡ Some bytes
    → with_new_name (with_file files to None) from to ≡ with_new_name files from to
with_new_name-removed files from to bytes differ there =
    let kept : World = with_file files to None in
    let still_there : kept from ≡ Some bytes =
    cond-false _ _ _ (bytes_eq-ne to from (λ same. differ (sym same))) ∙ there in
    ap (λ (file : Option (List ℕ)).
    option_map_or (λ (b : List ℕ). with_file (with_file kept from None) to (Some b)) file kept) still_there
    ∙ same_world _ _ (λ other. moved_again (bytes_eq to other) (bytes_eq from other) (Some bytes) (files other))
    ∙ sym (ap (λ (file : Option (List ℕ)).
    option_map_or (λ (b : List ℕ). with_file (with_file files from None) to (Some b)) file files) there)

-- a file that is not there given another name
pub with_new_name-absent : (files : World) (from to : List ℕ) → files from ≡ None → with_new_name files from to ≡ files
with_new_name-absent files from to absent =
    ap (λ (file : Option (List ℕ)).
    option_map_or (λ (bytes : List ℕ). with_file (with_file files from None) to (Some bytes)) file files) absent

-- the file of the name that got it
pub with_file-at : (files : World) (name : List ℕ) (file : Option (List ℕ)) → with_file files name file name ≡ file
with_file-at files name file = cond-true _ _ _ (bytes_eq-same name)

-- a file that was put in the place of one that had just been put there
pub with_file-again : (files : World) (name : List ℕ) (one other : Option (List ℕ))
    → with_file (with_file files name one) name other ≡ with_file files name other
with_file-again files name one other = same_world _ _ (λ n. cond-again (bytes_eq name n) other one (files n))

-- all other files stay where one is put or removed
pub KeepsOthers-with_file : (files : World) (name : List ℕ) (file : Option (List ℕ))
    → KeepsOthers name files (with_file files name file)
KeepsOthers-with_file files name file other differ =
    cond-false _ _ _ (bytes_eq-ne name other (λ same. differ (sym same)))

new_name-others : (files : World) (from to : List ℕ) (file : Option (List ℕ))
    → KeepsOtherTwo from to files
    (option_map_or (λ (bytes : List ℕ). with_file (with_file files from None) to (Some bytes)) file files)
new_name-others files from to None other differ differs = refl
new_name-others files from to (Some bytes) other differ differs =
    KeepsOthers-with_file (with_file files from None) to (Some bytes) other differs
    ∙ KeepsOthers-with_file files from None other differ

-- all files but two stay where one is given another name
pub with_new_name-others : (files : World) (from to : List ℕ)
    → KeepsOtherTwo from to files (with_new_name files from to)
with_new_name-others files from to = new_name-others files from to (files from)

-- as many from the front as a longer front has
pub take-length-take : (n : ℕ) (xs : List ℕ) → take (length (take n xs)) xs ≡ take n xs
take-length-take zero xs = refl
take-length-take (suc n) [] = refl
take-length-take (suc n) (x ∷ xs) = ap (λ (ys : List ℕ). x ∷ ys) (take-length-take n xs)
