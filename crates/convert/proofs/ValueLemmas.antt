-- Values whose records are in a list that ascends, and what becomes of them.
use Rattle.std.proofs.Common.{◌≡◌, ℕ, suc, ◌<◌, Bool, true, false, cond, List, [], ◌∷◌, ◌++◌, map, Option, Some, Ok}
use Rattle.std.proofs.Common.{Err, refl, sym, ap, subst, ◌∙◌, arith, inl, inr}
use Rattle.std.specs.Prelude.{T, ◌&&◌, not, filter, All, IfSome, slice_get}
use Rattle.std.specs.Cmp.{nat_cmp_is, nat_cmp_total, unsigned_tied}
use Rattle.std.specs.FinMap.{entries, entries_sorted, find, from_entries, get, get-entries, get-from_entries, is_sorted}
use Rattle.std.specs.FinMap.{nat_cmp-IsAntisymmetric}
use Rattle.std.specs.FinMap.Entries.{below_all, same_entries}
use Rattle.std.specs.List.{cons_option, filter_map}
use Rattle.std.specs.List.Sorted.{IsStrictlyIncreasing}
use Rattle.std.specs.Option.{option_to_list}
use Rattle.std.specs.Ordering.{is_lt, nat_cmp}
use Rattle.std.specs.declared.cmp.Ordering.TheVariants.{Less}
use Rattle.std.proofs.lemmas.Bool.Decides.{eqb_tells, nat_tests}
use Rattle.quota_types.specs.declared.field.NoRoom.{NoRoom}
use Rattle.quota_types.specs.declared.file_kind.Format.{Format}
use Rattle.quota_types.specs.declared.file_kind.Kind.{Kind}
use Rattle.quota_types.specs.declared.record.Entry.{Entry}
use Rattle.quota_types.specs.declared.record.Grace.{Grace}
use Rattle.quota_types.specs.declared.record.Rec.{Rec}
use Rattle.quota_types.specs.Kept.{IsKept, kept_of}
use Rattle.quota_types.specs.Rec.{is_null_of}
use Rattle.quota_types.proofs.AscendsLemmas.{Ascends, Ascends-of, Ascends-fewer, IsStrictlyIncreasing-of}
use Rattle.quota_value.specs.Listed.{ids_of, records_of, value_of}
use Rattle.quota_value.proofs.ListedLemmas.{map-pairs_of, pairs_of}
use Rattle.convert.specs.Conversion.{all_without_room, converted, converted_value, grace_no_room, lasting, lasting_kept}
use Rattle.convert.specs.Conversion.{record_no_room, unless}
use Rattle.convert.specs.Listing.{kept_entry, kept_list, lasting_entries, list_without_room}

-- Lists whose identifiers ascend.

-- those that limit or count something ascend too
lasting_ascends : (low : ℕ) (list : List Entry) → Ascends low (ids_of list)
    → Ascends low (ids_of (lasting_entries list))
lasting_ascends low [] ascends = tt
lasting_ascends low (entry ∷ list) ascends =
    by (lasting_ascends (suc entry.id) list ascends.1) (not (is_null_of entry.rec))
  where
    by : Ascends (suc entry.id) (ids_of (lasting_entries list)) → (b : Bool)
        → Ascends low (ids_of (cond b (entry ∷ lasting_entries list) (lasting_entries list)))
    by rest true = (ascends.0, rest)
    by rest false = Ascends-fewer (suc entry.id) low (ids_of (lasting_entries list)) (omega (arith, ascends.0)) rest

same_ids : (format : Format) (list : List Entry) → ids_of (map (kept_entry format) list) ≡ ids_of list
same_ids format [] = refl
same_ids format (entry ∷ list) = ap (λ (ids : List ℕ). entry.id ∷ ids) (same_ids format list)

pub kept_ascends : (format : Format) (list : List Entry) → IsStrictlyIncreasing (ids_of list)
    → IsStrictlyIncreasing (ids_of (kept_list format list))
kept_ascends format list rising =
    subst IsStrictlyIncreasing (sym (same_ids format (lasting_entries list)))
    (IsStrictlyIncreasing-of 0 (ids_of (lasting_entries list))
    (lasting_ascends 0 list (Ascends-of (ids_of list) rising)))

-- Lists and the maps of their records.

both_true : (a b : Bool) → T a → T b → T (a && b)
both_true true b p q = q
both_true false b p q = p

below_pairs : (id low : ℕ) (list : List Entry) → Ascends low (ids_of list) → id < low
    → T (below_all nat_cmp id (pairs_of list))
below_pairs id low [] ascends less = tt
below_pairs id low (entry ∷ list) ascends less =
    let before : Less ≡ nat_cmp id entry.id = nat_cmp_is id entry.id Less (omega (arith, less, ascends.0)) in
    both_true (is_lt (nat_cmp id entry.id)) (below_all nat_cmp id (pairs_of list)) (subst (λ o. T (is_lt o)) before tt)
    (below_pairs id (suc entry.id) list ascends.1 (omega (arith, less, ascends.0)))

sorted_pairs : (low : ℕ) (list : List Entry) → Ascends low (ids_of list) → T (is_sorted nat_cmp (pairs_of list))
sorted_pairs low [] ascends = tt
sorted_pairs low (entry ∷ list) ascends =
    both_true (below_all nat_cmp entry.id (pairs_of list)) (is_sorted nat_cmp (pairs_of list))
    (below_pairs entry.id (suc entry.id) list ascends.1 (omega arith)) (sorted_pairs (suc entry.id) list ascends.1)

-- the entries of its records are those of the list
pub pairs_listed : (list : List Entry) → IsStrictlyIncreasing (ids_of list) → entries (records_of list) ≡ pairs_of list
pairs_listed list ascends =
    same_entries nat_cmp nat_cmp_total nat_cmp-IsAntisymmetric (entries (records_of list)) (pairs_of list)
    (entries_sorted (records_of list))
    (sorted_pairs 0 list (Ascends-of (ids_of list) ascends))
    (λ id. sym (get-entries (records_of list) id) ∙ get-from_entries nat_cmp_total (pairs_of list) id)

-- the identifiers of its records are those of the list
pub ids_listed : (list : List Entry) → IsStrictlyIncreasing (ids_of list)
    → map (λ (pair : ℕ × Rec). pair.0) (entries (records_of list)) ≡ ids_of list
ids_listed list ascends =
    ap (λ (pairs : List (ℕ × Rec)). map (λ (pair : ℕ × Rec). pair.0) pairs) (pairs_listed list ascends)
    ∙ map-pairs_of list

found_kept : (format : Format) (list : List Entry) (id : ℕ)
    → All (λ (entry : Entry). IsKept format entry.id entry.rec) list
    → IfSome (find nat_cmp id (pairs_of list)) (IsKept format id)
found_kept format [] id all = tt
found_kept format (entry ∷ list) id all =
    elim (eqb_tells id entry.id) [
      | inl own ↦
          let here : find nat_cmp id (pairs_of (entry ∷ list)) ≡ Some entry.rec =
          grind (arith, unsigned_tied id entry.id, nat_tests) in
          subst (λ (o : Option Rec). IfSome o (IsKept format id)) (sym here)
          (subst (λ (n : ℕ). IsKept format n entry.rec) (sym own.1) (all 0 entry (omega arith)))
      | inr other ↦
          let later : find nat_cmp id (pairs_of (entry ∷ list)) ≡ find nat_cmp id (pairs_of list) =
          grind (arith, unsigned_tied id entry.id, nat_tests) in
          subst (λ (o : Option Rec). IfSome o (IsKept format id)) (sym later)
          (found_kept format list id (λ k d less. all (suc k) d (omega (arith, less))))
    ]

-- what holds of each entry of a list holds of each record
pub records_kept : (format : Format) (list : List Entry)
    → All (λ (entry : Entry). IsKept format entry.id entry.rec) list → (id : ℕ)
    → IfSome (get (records_of list) id) (IsKept format id)
records_kept format list all id =
    subst (λ (o : Option Rec). IfSome o (IsKept format id)) (sym (get-from_entries nat_cmp_total (pairs_of list) id))
    (found_kept format list id all)

-- The conversion of a value by its list.

lasting_pairs : (list : List Entry)
    → filter (λ (pair : ℕ × Rec). not (is_null_of pair.1)) (pairs_of list) ≡ pairs_of (lasting_entries list)
lasting_pairs [] = refl
lasting_pairs (entry ∷ list) = by (lasting_pairs list) (not (is_null_of entry.rec))
  where
    by : filter (λ (pair : ℕ × Rec). not (is_null_of pair.1)) (pairs_of list) ≡ pairs_of (lasting_entries list)
        → (b : Bool)
        → cond b ((entry.id, entry.rec) ∷ filter (λ (pair : ℕ × Rec). not (is_null_of pair.1)) (pairs_of list))
        (filter (λ (pair : ℕ × Rec). not (is_null_of pair.1)) (pairs_of list))
        ≡ pairs_of (cond b (entry ∷ lasting_entries list) (lasting_entries list))
    by rest true = ap (λ pairs. (entry.id, entry.rec) ∷ pairs) rest
    by rest false = rest

lasting_listed : (list : List Entry) → IsStrictlyIncreasing (ids_of list)
    → lasting (records_of list) ≡ pairs_of (lasting_entries list)
unfolding lasting
lasting_listed list ascends =
    ap (filter (λ (pair : ℕ × Rec). not (is_null_of pair.1))) (pairs_listed list ascends) ∙ lasting_pairs list

first_of_pairs : (format : Format) (list : List Entry)
    → filter_map (record_no_room format) (pairs_of list)
    ≡ filter_map (λ (entry : Entry). record_no_room format (entry.id, entry.rec)) list
first_of_pairs format [] = refl
first_of_pairs format (entry ∷ list) =
    ap (cons_option (record_no_room format (entry.id, entry.rec))) (first_of_pairs format list)

kept_pairs : (format : Format) (list : List Entry)
    → map (λ (pair : ℕ × Rec). (pair.0, kept_of format pair.0 pair.1)) (pairs_of list)
    ≡ pairs_of (map (kept_entry format) list)
kept_pairs format [] = refl
kept_pairs format (entry ∷ list) =
    ap (λ pairs. (entry.id, kept_of format entry.id entry.rec) ∷ pairs) (kept_pairs format list)

without_room_listed : (format old : Format) (kind : Kind) (grace : Grace) (flags : ℕ) (list : List Entry)
    → IsStrictlyIncreasing (ids_of list)
    → all_without_room format (value_of kind old grace flags list)
    ≡ option_to_list (grace_no_room format grace) ++ list_without_room format list
unfolding all_without_room
without_room_listed format old kind grace flags list ascends =
    ap (λ pairs. option_to_list (grace_no_room format grace) ++ filter_map (record_no_room format) pairs)
    (lasting_listed list ascends)
    ∙ ap (λ rest. option_to_list (grace_no_room format grace) ++ rest) (first_of_pairs format (lasting_entries list))

kept_listed : (format : Format) (list : List Entry) → IsStrictlyIncreasing (ids_of list)
    → lasting_kept format (records_of list) ≡ records_of (kept_list format list)
unfolding lasting_kept
kept_listed format list ascends =
    ap (λ pairs. from_entries {R = nat_cmp} (map (λ (pair : ℕ × Rec). (pair.0, kept_of format pair.0 pair.1)) pairs))
    (lasting_listed list ascends)
    ∙ ap (from_entries {R = nat_cmp}) (kept_pairs format (lasting_entries list))

pub converted_listed : (format old : Format) (kind : Kind) (grace : Grace) (flags : ℕ) (list : List Entry)
    → IsStrictlyIncreasing (ids_of list)
    → option_to_list (grace_no_room format grace) ++ list_without_room format list ≡ []
    → converted format (value_of kind old grace flags list) ≡ Ok (value_of kind format grace 0 (kept_list format list))
converted_listed format old kind grace flags list ascends fits =
    ap (λ without. unless (slice_get without 0) (converted_value format (value_of kind old grace flags list)))
    (without_room_listed format old kind grace flags list ascends ∙ fits)
    ∙ ap (λ records. Ok (record { kind = kind; format = format; grace = grace; flags = 0; records = records }))
    (kept_listed format list ascends)

pub refused_listed : (format old : Format) (kind : Kind) (grace : Grace) (flags : ℕ) (list : List Entry) (out : NoRoom)
    → IsStrictlyIncreasing (ids_of list)
    → slice_get (option_to_list (grace_no_room format grace) ++ list_without_room format list) 0 ≡ Some out
    → converted format (value_of kind old grace flags list) ≡ Err out
refused_listed format old kind grace flags list out ascends first =
    ap (λ o. unless o (converted_value format (value_of kind old grace flags list)))
    (ap (λ without. slice_get without 0) (without_room_listed format old kind grace flags list ascends) ∙ first)
