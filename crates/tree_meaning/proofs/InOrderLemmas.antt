-- The used entries of a block that is read in a byte order, and those of the block's words.
use Rattle.std.proofs.Common.{◌≡◌, ℕ, ◌+◌, ◌*◌, Bool, true, false, cond, List, [], ◌∷◌, ◌++◌, map, take, drop, None}
use Rattle.std.proofs.Common.{Some}
use Rattle.std.proofs.Common.{refl, sym, ap, ◌∙◌, arith}
use Rattle.std.specs.List.{cons_option, filter_map, flat_map, range_with_len}
use Rattle.quota_types.specs.Bytes.{number_at}
use Rattle.quota_types.specs.Format.{record_size}
use Rattle.quota_types.specs.Kept.{without_marker}
use Rattle.quota_types.specs.declared.file_kind.Format.{Format}
use Rattle.quota_types.specs.declared.file_kind.Format.TheVariants.{V1, V1R32, V2R0, V2R1}
use Rattle.quota_types.specs.declared.record.Entry.{Entry}
use Rattle.byte_order.specs.declared.order.Order.{Order}
use Rattle.byte_order.specs.Words.{in_order}
use Rattle.byte_order.proofs.WordsLemmas.{part_in_order, word_in_order}
use Rattle.byte_order.proofs.ZeroLemmas.{zeros_in_order}
use Rattle.entry_codec.specs.Entry.{entries_per_block, is_unused, stored_id, stored_id_in}
use Rattle.tree_meaning.specs.Entries.{entries_in, entry_bytes, entry_in, id_in, stored_record_in, used_ids}

-- the words of an entry
entry_in_order : (order : Order) (format : Format) (block : List ℕ) (place words : ℕ) → record_size format ≡ 4 * words
    → entry_bytes format (in_order order block) place ≡ in_order order (entry_bytes format block place)
entry_in_order order format block place words whole =
    let start : 16 + record_size format * place ≡ 4 * (4 + words * place) =
    omega (arith, ap (λ (n : ℕ). n * place) whole) in
    rw (start, whole) (part_in_order order block (4 + words * place) words)

-- the identifier of an entry is that of its words
id_in_order : (order : Order) (format : Format) (bytes : List ℕ)
    → id_in format (in_order order bytes)
    ≡ (cond (is_unused bytes) [] (stored_id_in order bytes ∷ []))
id_in_order order format bytes =
    ap (λ (b : Bool). cond b [] (stored_id (in_order order bytes) ∷ [])) (zeros_in_order order bytes)
    ∙ ap (λ (n : ℕ). cond (is_unused bytes) [] (n ∷ [])) (sym (word_in_order order bytes 0))

ids_of_entries : (order : Order) (format : Format) (block : List ℕ) (words : ℕ) → record_size format ≡ 4 * words
    → used_ids format (in_order order block) ≡ map (λ (entry : Entry). entry.id) (entries_in order format block)
unfolding used_ids entries_in
ids_of_entries order format block words whole = each (range_with_len 0 (entries_per_block format))
  where
    one_used : (unused : Bool) (entry : Entry) (entries : List Entry)
        → cond unused [] (entry.id ∷ []) ++ map (λ (entry : Entry). entry.id) entries
        ≡ map (λ (entry : Entry). entry.id) (cons_option (cond unused None (Some entry)) entries)
    one_used true entry entries = refl
    one_used false entry entries = refl

    each : (places : List ℕ)
        → flat_map (λ place. id_in format (entry_bytes format (in_order order block) place)) places
        ≡ map (λ (entry : Entry). entry.id)
        (filter_map (λ place. entry_in order format (entry_bytes format block place)) places)
    each [] = refl
    each (place ∷ places) =
        let bytes : List ℕ = entry_bytes format block place in
        let rest : List Entry = filter_map (λ place. entry_in order format (entry_bytes format block place)) places in
        ap (λ (ids : List ℕ). id_in format (entry_bytes format (in_order order block) place) ++ ids) (each places)
        ∙ ap (λ (of : List ℕ). id_in format of ++ map (λ (entry : Entry). entry.id) rest)
        (entry_in_order order format block place words whole)
        ∙ ap (λ (ids : List ℕ). ids ++ map (λ (entry : Entry). entry.id) rest) (id_in_order order format bytes)
        ∙ one_used (is_unused bytes) (record {
          id = stored_id_in order bytes;
          rec = without_marker (stored_id_in order bytes) (stored_record_in order format bytes);
        })
        rest

-- the identifiers of the used entries of a block's words are those of the entries, as they are read in the order
pub used_ids-in_order : (order : Order) (format : Format) (block : List ℕ)
    → used_ids format (in_order order block) ≡ map (λ (entry : Entry). entry.id) (entries_in order format block)
used_ids-in_order order V1 block = ids_of_entries order V1 block 10 refl
used_ids-in_order order V1R32 block = ids_of_entries order V1R32 block 8 refl
used_ids-in_order order V2R0 block = ids_of_entries order V2R0 block 12 refl
used_ids-in_order order V2R1 block = ids_of_entries order V2R1 block 18 refl
