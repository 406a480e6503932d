-- Listed entries as pairs.
use Rattle.std.proofs.Common.{◌≡◌, ℕ, List, [], ◌∷◌, map, refl, ap}
use Rattle.quota_types.specs.declared.record.Entry.{Entry}
use Rattle.quota_types.specs.declared.record.Rec.{Rec}
use Rattle.quota_value.specs.Listed.{ids_of}

-- entries as pairs, as a finite map has them
abbrev pub pairs_of : List Entry → List (ℕ × Rec)
pairs_of list = map (λ entry. (entry.id, entry.rec)) list

pub map-pairs_of : (list : List Entry) → map (λ (pair : ℕ × Rec). pair.0) (pairs_of list) ≡ ids_of list
map-pairs_of [] = refl
map-pairs_of (entry ∷ list) = ap (λ (ids : List ℕ). entry.id ∷ ids) (map-pairs_of list)
