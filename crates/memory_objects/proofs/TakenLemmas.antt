-- What was taken from the front of what is left.
use Rattle.std.proofs.Common.{◌≡◌, ℕ, suc, ◌+◌, List, ◌∷◌, ◌++◌, length, get_or, min, map, take, drop, Some, sym, ap}
use Rattle.std.proofs.Common.{◌∙◌, arith, length-take}
use Rattle.std.specs.List.{slice_get}
use Rattle.std.specs.Option.{option_map}
use Rattle.std.proofs.Math.Seq.{drop-cons}
use Rattle.std.proofs.lemmas.List.{drop-drop, take_at, take-append-drop, take_min}
use Rattle.std.proofs.lemmas.Option.{get_or_from_slice_get, slice_get-map, slice_get_within}

-- this many bytes were copied from the front of what is left
pub taken_front : (bytes copied rest : List ℕ) (at count : ℕ) → copied ≡ take count (drop at bytes)
    → length copied ≡ count → drop at bytes ≡ take count (copied ++ rest) ++ drop (at + count) bytes
taken_front bytes copied rest at count is long =
    sym (take-append-drop count (drop at bytes))
    ∙ ap (λ (front : List ℕ). front ++ drop count (drop at bytes)) (sym is ∙ sym (take_at copied rest count long))
    ∙ ap (λ (back : List ℕ). take count (copied ++ rest) ++ back) (drop-drop count at bytes)

-- the first of those that are left, as they are seen
pub taken_first : {A X : Type 0} (view : A → X) (items : List A) (at : ℕ) (first : A) → slice_get items at ≡ Some first
    → drop at (map view items) ≡ view first ∷ drop (at + 1) (map view items)
taken_first {X = X} view items at first there =
    let one_more : suc at ≡ at + 1 = omega arith in
    let there_too = slice_get-map view items at ∙ ap (option_map view) there in
    drop-cons (map view items) at (view first) (slice_get_within (map view items) at (view first) there_too)
    ∙ ap (λ (n : ℕ). get_or (map view items) at (view first) ∷ drop n (map view items)) one_more
    ∙ ap (λ (seen : X). seen ∷ drop (at + 1) (map view items))
    (get_or_from_slice_get (map view items) at (view first) (view first) there_too)

-- the front of a datagram was copied
pub taken_datagram : (bytes copied rest : List ℕ) (len : ℕ) → len ≡ min (length bytes) 4096 → copied ≡ take len bytes
    → take len (copied ++ rest) ≡ take 4096 bytes
taken_datagram bytes copied rest len least is =
    let least_too : len ≡ min 4096 (length bytes) = omega (arith, least) in
    take_at copied rest len (omega (arith, ap length is, length-take len bytes, least))
    ∙ is
    ∙ ap (λ (n : ℕ). take n bytes) least_too
    ∙ take_min 4096 bytes
