-- The names that an index keeps, and its lines, when one more is added.
use Rattle.std.proofs.Common.{◌≡◌, ℕ, zero, suc, Bool, true, false, List, [], ◌∷◌, ◌++◌, length, slice_get, Some, None}
use Rattle.std.proofs.Common.{Vec, Global, refl, sym, ap, ◌∙◌, if◌then◌else◌}
use Rattle.std.specs.Map.{lookup, lookup_key}
use Rattle.std.specs.Option.{option_map, option_or}
use Rattle.std.specs.Str.{bytes_eq}
use Rattle.std.proofs.lemmas.List.{length-map, map-append}
use Rattle.std.proofs.lemmas.Map.Made.{lookup_key_passes}
use Rattle.std.proofs.lemmas.Option.{slice_get-map}
use Rattle.std.proofs.lemmas.Slice.Eq.{bytes_eq-Decides}
use Rattle.quota_types.proofs.ListLemmas.{option_or-none}
use Rattle.id_names.specs.Index.{name_list}
use Rattle.id_names.proofs.FirstLemmas.{lookup_push}

-- what stands in a list stands in a longer one
pub slice_get-kept : {X : Type 0} (xs ys : List X) (place : ℕ) (x : X) → slice_get xs place ≡ Some x
    → slice_get (xs ++ ys) place ≡ Some x
slice_get-kept [] ys place x h = cc
slice_get-kept (y ∷ xs) ys zero x h = h
slice_get-kept (y ∷ xs) ys (suc place) x h = slice_get-kept xs ys place x h

-- and the first of what was added stands behind it
pub slice_get-seam : {X : Type 0} (xs : List X) (x : X) → slice_get (xs ++ x ∷ []) (length xs) ≡ Some x
slice_get-seam [] x = refl
slice_get-seam (y ∷ xs) x = slice_get-seam xs x

-- the names of an index, each with the identifier of its first line
abbrev pub Entries : Type 0
Entries = List (Vec ℕ Global × ℕ)

-- the test of a name's bytes
abbrev pub has_name : List ℕ → Vec ℕ Global → Bool
has_name name key = bytes_eq name key.items

-- a name that was found stands at its place
pub found_place : (es : Entries) (place : ℕ) (key : Vec ℕ Global) (id : ℕ) (name : List ℕ)
    → slice_get es place ≡ Some (key, id) → lookup_key (has_name name) es ≡ Some key
    → slice_get (name_list es) place ≡ Some name
found_place es place key id name at found =
    let same : name ≡ key.items =
    (bytes_eq-Decides name key.items).0 (lookup_key_passes (has_name name) es key found) in
    slice_get-map (λ (e : Vec ℕ Global × ℕ). e.0.items) es place
    ∙ ap (option_map (λ (e : Vec ℕ Global × ℕ). e.0.items)) at ∙ ap Some (sym same)

-- a name that was found has its identifier, and another one changes nothing
pub found_id : (es : Entries) (name : List ℕ) (id first : ℕ) → lookup (has_name name) es ≡ Some first → (other : List ℕ)
    → lookup (has_name other) es
    ≡ option_or (lookup (has_name other) es) (if bytes_eq other name then Some id else None)
found_id es name id first found other = by (bytes_eq other name) refl
  where
    by : (b : Bool) → bytes_eq other name ≡ b
        → lookup (has_name other) es ≡ option_or (lookup (has_name other) es) (if b then Some id else None)
    by false differs = sym (option_or-none (lookup (has_name other) es))
    by true is =
        let same : other ≡ name = (bytes_eq-Decides other name).0 is in
        let here : lookup (has_name other) es ≡ Some first = ap (λ (n : List ℕ). lookup (has_name n) es) same ∙ found in
        rw here refl

module _ (es new : Entries) (key : Vec ℕ Global) (id : ℕ) (name : List ℕ) (added : new ≡ es ++ (key, id) ∷ [])
    (spelled : key.items ≡ name) where
  listed : name_list new ≡ name_list es ++ name ∷ []
  listed =
      ap name_list added ∙ map-append (λ (e : Vec ℕ Global × ℕ). e.0.items) es ((key, id) ∷ [])
      ∙ ap (λ (n : List ℕ). name_list es ++ n ∷ []) spelled

  -- a new name stands behind the others
  pub added_place : slice_get (name_list new) (length es) ≡ Some name
  added_place =
      ap (λ (names : List (List ℕ)). slice_get names (length es)) listed
      ∙ ap (slice_get (name_list es ++ name ∷ [])) (sym (length-map es (λ (e : Vec ℕ Global × ℕ). e.0.items)))
      ∙ slice_get-seam (name_list es) name

  -- the others stay where they are
  pub added_others : (place : ℕ) (other : List ℕ) → slice_get (name_list es) place ≡ Some other
      → slice_get (name_list new) place ≡ Some other
  added_others place other at =
      ap (λ (names : List (List ℕ)). slice_get names place) listed
      ∙ slice_get-kept (name_list es) (name ∷ []) place other at

  -- and it has its identifier, where it had none
  pub added_id : (other : List ℕ)
      → lookup (has_name other) new
      ≡ option_or (lookup (has_name other) es) (if bytes_eq other name then Some id else None)
  added_id other =
      ap (lookup (has_name other)) added ∙ lookup_push (has_name other) es (key, id)
      ∙ ap (λ (n : List ℕ). option_or (lookup (has_name other) es) (if bytes_eq other n then Some id else None)) spelled
