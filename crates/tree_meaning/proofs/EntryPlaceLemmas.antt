-- The entries of a data block of which one was put, overwritten or cleared.
use Rattle.std.proofs.Common.{◌≡◌, ◌≢◌, ℕ, zero, suc, ◌+◌, ◌*◌, ◌<◌, ◌≤◌, Bool, ◌||◌, ◌==◌, List, [], ◌∷◌, length, map}
use Rattle.std.proofs.Common.{find, Option, option_map, refl, sym, ap, ◌∙◌, inl, inr, arith}
use Rattle.std.proofs.Math.Nat.{mul-le-mul_left}
use Rattle.std.proofs.lemmas.Bool.{cases_lt}
use Rattle.std.proofs.lemmas.List.Folds.{flat_map-map}
use Rattle.std.specs.List.{cons_option, filter_map, flat_map, list_any, range_with_len}
use Rattle.quota_types.specs.KeptBytes.{KeepsOutside}
use Rattle.quota_types.specs.Format.{record_size}
use Rattle.quota_types.specs.declared.file_kind.Format.{Format}
use Rattle.quota_types.specs.declared.record.Entry.{Entry}
use Rattle.entry_codec.specs.Entry.{entries_per_block, is_unused}
use Rattle.tree_meaning.specs.Entries.{entries_in, entry_bytes, entry_of, has_unused, id_in, used_entries, used_ids}
use Rattle.tree_meaning.specs.EntryPlaces.{HasSameEntries, KeepsOutsideEntry}
use Rattle.tree_meaning.specs.TreeFile.{record_in}
use Rattle.file_blocks.proofs.WordLemmas.{same_part}

-- the other entries of a block of which the bytes of one changed
pub outside_entry : (format : Format) (place at : ℕ) (old new : List ℕ) → length new ≡ length old
    → KeepsOutsideEntry format place old new → at ≢ place
    → entry_bytes format new at ≡ entry_bytes format old at
outside_entry format place at old new long keeps other =
    let size : ℕ = record_size format in
    same_part size (16 + size * at) new old long (λ k from to. elim (cases_lt at place) [
      | inl less ↦ let room : size * suc at ≤ size * place = mul-le-mul_left size less in
          keeps.before k (omega (arith, room, to))
      | inr more ↦ let room : size * suc place ≤ size * at = mul-le-mul_left size (omega (arith, more, other)) in
          keeps.behind k (omega (arith, room, from))
    ])

-- and all entries of one of which bytes before the entries changed
pub before_entries : (format : Format) (from to : ℕ) (old new : List ℕ) → to ≤ 16 → length new ≡ length old
    → KeepsOutside from to old new → HasSameEntries format old new
before_entries format from to old new le long keeps = λ at low.
    same_part (record_size format) (16 + record_size format * at) new old long
    (λ k above below. keeps.behind k (omega arith))

-- the bytes of each entry of a block
abbrev pub all_bytes : Format → List ℕ → List (List ℕ)
all_bytes format block = map (entry_bytes format block) (range_with_len 0 (entries_per_block format))

kept_of_made : {X Y : Type 0} (f : ℕ → X) (g : X → Option Y) (ks : List ℕ)
    → filter_map (λ k. g (f k)) ks ≡ filter_map g (map f ks)
kept_of_made f g [] = refl
kept_of_made f g (k ∷ ks) = ap (cons_option (g (f k))) (kept_of_made f g ks)

any_of_made : {X : Type 0} (f : ℕ → X) (test : X → Bool) (ks : List ℕ)
    → list_any (λ k. test (f k)) ks ≡ list_any test (map f ks)
any_of_made f test [] = refl
any_of_made f test (k ∷ ks) = ap (λ (b : Bool). test (f k) || b) (any_of_made f test ks)

pub entries_are : (format : Format) (block : List ℕ)
    → used_entries format block ≡ filter_map (entry_of format) (all_bytes format block)
unfolding entries_in
entries_are format block =
    kept_of_made (entry_bytes format block) (entry_of format) (range_with_len 0 (entries_per_block format))

pub ids_are : (format : Format) (block : List ℕ)
    → used_ids format block ≡ flat_map (id_in format) (all_bytes format block)
unfolding used_ids
ids_are format block =
    sym (flat_map-map (id_in format) (entry_bytes format block) (range_with_len 0 (entries_per_block format)))

pub unused_are : (format : Format) (block : List ℕ)
    → has_unused format block ≡ list_any is_unused (all_bytes format block)
unfolding has_unused
unused_are format block = any_of_made (entry_bytes format block) is_unused (range_with_len 0 (entries_per_block format))

-- what is made of numbers of which each gives the same
pub made_same : {X : Type 0} (f g : ℕ → X) (low count : ℕ) → ((k : ℕ) → low ≤ k → k < low + count → f k ≡ g k)
    → map f (range_with_len low count) ≡ map g (range_with_len low count)
made_same f g low zero same = refl
made_same {X} f g low (suc count) same =
    let here : f low ≡ g low = same low (omega arith) (omega arith) in
    let rest : map f (range_with_len (low + 1) count) ≡ map g (range_with_len (low + 1) count) =
    made_same f g (low + 1) count (λ k from to. same k (omega arith) (omega arith)) in
    λ i. here i ∷ rest i

-- a block with the same entries as another one has the same that are used
module _ (format : Format) (old new : List ℕ) (keeps : HasSameEntries format old new) where
  same_bytes : all_bytes format new ≡ all_bytes format old
  same_bytes =
      made_same (entry_bytes format new) (entry_bytes format old) 0 (entries_per_block format)
      (λ k from to. keeps k (omega (arith, to)))

  pub entries_kept : used_entries format new ≡ used_entries format old
  entries_kept = entries_are format new ∙ ap (filter_map (entry_of format)) same_bytes ∙ sym (entries_are format old)

  pub ids_kept : used_ids format new ≡ used_ids format old
  ids_kept = ids_are format new ∙ ap (flat_map (id_in format)) same_bytes ∙ sym (ids_are format old)

  pub unused_kept : has_unused format new ≡ has_unused format old
  unused_kept = unused_are format new ∙ ap (list_any is_unused) same_bytes ∙ sym (unused_are format old)

  pub record_kept : (id : ℕ) → record_in format new id ≡ record_in format old id
  record_kept id =
      ap (λ (entries : List Entry).
      option_map (λ (entry : Entry). entry.rec) (find (λ (entry : Entry). entry.id == id) entries)) entries_kept
