-- First matches in a list with one more element at its end.
use Rattle.std.proofs.Common.{◌≡◌, ℕ, ◌≤◌, Bool, true, false, not, cond, if◌then◌else◌, List, [], ◌∷◌, ◌++◌, length}
use Rattle.std.proofs.Common.{find, position, slice_get, Option, Some, None, refl, ap, ◌∙◌, arith}
use Rattle.std.specs.List.{position_or_len}
use Rattle.std.specs.Map.{lookup}
use Rattle.std.specs.Option.{option_map, option_or}
use Rattle.std.specs.Str.{bytes_eq}
use Rattle.std.proofs.lemmas.Bool.Decides.{nat_tests}
use Rattle.std.proofs.lemmas.List.{length_push}
use Rattle.std.proofs.lemmas.List.Folds.{find-append, find_at, position_or_len_push}
use Rattle.std.proofs.lemmas.Option.{slice_get_past}
use Rattle.std.proofs.lemmas.List.Sums.{prefix_len-le-length}
use Rattle.id_names.specs.FirstMatch.{first_id}
use Rattle.id_names.specs.NamesFile.{NameLine}

-- a look-up in entries
pub lookup_push : {K X : Type 0} (test : K → Bool) (es : List (K × X)) (e : K × X)
    → lookup test (es ++ e ∷ []) ≡ option_or (lookup test es) (if test e.0 then Some e.1 else None)
lookup_push test [] e = refl
lookup_push {X = X} test (x ∷ xs) e =
    step (test x.0) x.1 (lookup test (xs ++ e ∷ [])) (lookup test xs) _ (lookup_push test xs e)
  where
    step : (b : Bool) (first : X) (new old tail : Option X) → new ≡ option_or old tail
        → cond b (Some first) new ≡ option_or (cond b (Some first) old) tail
    step true first new old tail same = refl
    step false first new old tail same = same

-- the place that `position` finds
pub first_place : {X : Type 0} (p : X → Bool) (xs : List X) (at : ℕ) → position p xs ≡ Some at
    → position_or_len p xs ≡ at
first_place p xs at h = grind (arith, nat_tests)

no_place : {X : Type 0} (p : X → Bool) (xs : List X) → position p xs ≡ None → length xs ≤ position_or_len p xs
no_place p xs h = grind (arith, nat_tests)

-- what stands at the first place is found
pub find_from_position : {X : Type 0} (p : X → Bool) (xs : List X) (at : ℕ) → position p xs ≡ Some at
    → find p xs ≡ slice_get xs at
find_from_position p xs at h = find_at p xs ∙ ap (slice_get xs) (first_place p xs at h)

-- and where there is no place, nothing is
pub find-none : {X : Type 0} (p : X → Bool) (xs : List X) → position p xs ≡ None → find p xs ≡ None
find-none p xs h = find_at p xs ∙ slice_get_past xs (position_or_len p xs) (no_place p xs h)

-- a place in a list
pub position_push : {X : Type 0} (p : X → Bool) (xs : List X) (y : X)
    → position p (xs ++ y ∷ []) ≡ option_or (position p xs) (if p y then Some (length xs) else None)
position_push p xs y =
    let place = position_or_len_push p xs y in
    let more = length_push xs y in
    let within = prefix_len-le-length (λ x. not (p x)) xs in
    grind (arith, nat_tests)

read_or : {X Y : Type 0} (f : X → Y) (o : Option X) (b : Bool) (x : X)
    → option_map f (option_or o (cond b (Some x) None)) ≡ option_or (option_map f o) (if b then Some (f x) else None)
read_or f None true x = refl
read_or f None false x = refl
read_or f (Some y) b x = refl

-- an identifier of a name
pub first_id_push : (lines : List NameLine) (line : NameLine) (name : List ℕ)
    → first_id (lines ++ line ∷ []) name
    ≡ option_or (first_id lines name) (if bytes_eq name line.name then Some line.id else None)
first_id_push lines line name =
    ap (option_map (λ (l : NameLine). l.id)) (find-append (λ (l : NameLine). bytes_eq name l.name) lines (line ∷ []))
    ∙ read_or (λ (l : NameLine). l.id) (find (λ (l : NameLine). bytes_eq name l.name) lines)
    (bytes_eq name line.name) line
