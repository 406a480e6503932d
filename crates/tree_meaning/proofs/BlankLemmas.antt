-- A block of zeros.
use Rattle.std.proofs.Common.{◌≡◌, ℕ, ◌+◌, ◌*◌, ◌≤◌, true, List, [], ◌∷◌, ◌++◌, get_or, take, drop, replicate, refl, ap}
use Rattle.std.proofs.Common.{◌∙◌, inl, inr, arith, length-take}
use Rattle.std.proofs.lemmas.Bool.{cases_lt}
use Rattle.std.proofs.lemmas.List.{get_or_past, get_or-drop, get_or-take, get_or-replicate}
use Rattle.std.specs.List.{flat_map, range_with_len}
use Rattle.quota_types.specs.Bytes.{byte_at}
use Rattle.quota_types.specs.Format.{record_size}
use Rattle.quota_types.specs.declared.file_kind.Format.{Format}
use Rattle.entry_codec.specs.Entry.{entries_per_block, is_unused}
use Rattle.entry_codec.proofs.SpellingLemmas.{is_unused-zeros}
use Rattle.tree_meaning.specs.Entries.{entry_bytes, id_in, used_ids}
use Rattle.tree_meaning.proofs.EntryLemmas.{unused_none}

-- a part of a list in which all is 0
pub zero_part : (size at : ℕ) (xs : List ℕ) → ((k : ℕ) → at ≤ k → byte_at xs k ≡ 0) → (k : ℕ)
    → get_or (take size (drop at xs)) k 0 ≡ 0
zero_part size at xs zeros k = elim (cases_lt k size) [
  | inl low ↦ get_or-take size (drop at xs) k 0 low ∙ get_or-drop at xs k 0 ∙ zeros (at + k) (omega arith)
  | inr high ↦ get_or_past (take size (drop at xs)) k 0 (omega (arith, high, length-take size (drop at xs)))
]

pub zero_bytes : (at : ℕ) → byte_at (replicate 1024 0) at ≡ 0
zero_bytes at = elim (cases_lt at 1024) [
  | inl low ↦ get_or-replicate 1024 at 0 0 low
  | inr high ↦ get_or_past (replicate 1024 0) at 0 high
]

-- each entry of a block of zeros is unused
pub blank_unused : (format : Format) (place : ℕ) → is_unused (entry_bytes format (replicate 1024 0) place) ≡ true
blank_unused format place =
    is_unused-zeros (entry_bytes format (replicate 1024 0) place)
    (λ k low.
    zero_part (record_size format) (16 + record_size format * place) (replicate 1024 0) (λ at from. zero_bytes at) k)

-- so it has no used identifier
pub blank_ids : (format : Format) → used_ids format (replicate 1024 0) ≡ []
unfolding used_ids
blank_ids format = none_made (range_with_len 0 (entries_per_block format))
  where
    none_made : (places : List ℕ)
        → flat_map (λ place. id_in format (entry_bytes format (replicate 1024 0) place)) places ≡ []
    none_made [] = refl
    none_made (place ∷ places) =
        ap
        (λ (ids : List ℕ). ids ++ flat_map (λ place. id_in format (entry_bytes format (replicate 1024 0) place)) places)
        (unused_none format (entry_bytes format (replicate 1024 0) place) (blank_unused format place))
        ∙ none_made places
