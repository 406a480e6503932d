-- The conversion of records in a list, one after another, each in its place.
use Rattle.std.proofs.Common.{◌≡◌, ◌≢◌, ℕ, zero, suc, ◌+◌, ◌<◌, ◌≤◌, Bool, true, false, not, cond, List, [], ◌∷◌}
use Rattle.std.proofs.Common.{length, map, get_or, set, Option, Some, None, refl, sym, ap, subst, ◌∙◌, arith}
use Rattle.std.proofs.Common.{below_more}
use Rattle.std.specs.Prelude.{All, slice_get}
use Rattle.std.specs.List.{cons_option, filter_map}
use Rattle.std.proofs.lemmas.List.{get_or-map, get_or-set_other, get_or-set_same, get_or_default, same_lists}
use Rattle.quota_types.specs.declared.field.NoRoom.{NoRoom}
use Rattle.quota_types.specs.declared.file_kind.Format.{Format}
use Rattle.quota_types.specs.declared.record.Entry.{Entry}
use Rattle.quota_types.specs.Kept.{IsKept}
use Rattle.quota_types.specs.Rec.{is_null_of}
use Rattle.convert.specs.Listing.{entry_no_room, kept_entry, lasting_entries}

-- so far there was room for each value, and each entry is what is kept of it; those behind are as they were
pub record IsKeptUpTo (format : Format) (old now : List Entry) (count : ℕ) : Type 0 where
  pub kept : (k : ℕ) → k < count → (d : Entry) → get_or now k d ≡ kept_entry format (get_or old k d)
  pub rest : (k : ℕ) (d : Entry) → count ≤ k → get_or now k d ≡ get_or old k d
  pub clean : (k : ℕ) → k < count → (d : Entry) → entry_no_room format (get_or old k d) ≡ None
  pub again : (k : ℕ) → k < count → (d : Entry) → IsKept format (get_or now k d).id (get_or now k d).rec
  pub lasting : (k : ℕ) → k < count → (d : Entry) → is_null_of (get_or now k d).rec ≡ false

module _ (format : Format) (old now : List Entry) (count : ℕ) (any made : Entry) (is : IsKeptUpTo format old now count)
    (less : count < length old) (same : length now ≡ length old) where
  abbrev here : Entry
  here = get_or now count any

  was : (d : Entry) → get_or old count d ≡ here
  was d = sym (is.rest count d (omega arith)) ∙ get_or_default now count d any (omega (arith, less, same))

  now_made : (d : Entry) → get_or (set now count made) count d ≡ made
  now_made d = get_or-set_same now count made d (omega (arith, less, same))

  other : (k : ℕ) (d : Entry) → k ≢ count → get_or (set now count made) k d ≡ get_or now k d
  other k d differ = get_or-set_other now count k made d differ

  -- one more entry is what is kept of it
  pub kept_more : made ≡ kept_entry format here → entry_no_room format here ≡ None → IsKept format made.id made.rec
      → is_null_of made.rec ≡ is_null_of here.rec
      → All (λ (e : Entry). is_null_of e.rec ≡ false) old → IsKeptUpTo format old (set now count made) (count + 1)
  kept_more keeps fits again null lasting = record {
    kept =
        below_more (λ k. (d : Entry) → get_or (set now count made) k d ≡ kept_entry format (get_or old k d)) count
        (λ k le d. other k d (λ at. absurd (omega (arith, le, at))) ∙ is.kept k le d)
        (λ d. now_made d ∙ keeps ∙ ap (kept_entry format) (sym (was d)));
    rest = λ k d le. other k d (λ at. absurd (omega (arith, le, at))) ∙ is.rest k d (omega (arith, le));
    clean =
        below_more (λ k. (d : Entry) → entry_no_room format (get_or old k d) ≡ None) count is.clean
        (λ d. ap (entry_no_room format) (was d) ∙ fits);
    again =
        below_more (λ k.
        (d : Entry) → IsKept format (get_or (set now count made) k d).id (get_or (set now count made) k d).rec) count
        (λ k le d. subst (λ (e : Entry). IsKept format e.id e.rec)
        (sym (other k d (λ at. absurd (omega (arith, le, at))))) (is.again k le d))
        (λ d. subst (λ (e : Entry). IsKept format e.id e.rec) (sym (now_made d)) again);
    lasting =
        below_more (λ k. (d : Entry) → is_null_of (get_or (set now count made) k d).rec ≡ false) count
        (λ k le d.
        ap (λ (e : Entry). is_null_of e.rec) (other k d (λ at. absurd (omega (arith, le, at)))) ∙ is.lasting k le d)
        (λ d. ap (λ (e : Entry). is_null_of e.rec) (now_made d) ∙ null
        ∙ ap (λ (e : Entry). is_null_of e.rec) (sym (was d)) ∙ lasting count d less);
  }

-- all entries are what is kept of them
pub kept_all : (format : Format) (old now : List Entry) (count : ℕ) → IsKeptUpTo format old now count
    → count ≡ length old → length now ≡ length old → now ≡ map (kept_entry format) old
kept_all format old now count is all same =
    same_lists now (map (kept_entry format) old) (same ∙ sym (length_mapped old))
    (λ k d less. is.kept k (omega (arith, less, all, same)) d
    ∙ sym (get_or-map (kept_entry format) old k d d (omega (arith, less, same))))
  where
    length_mapped : (list : List Entry) → length (map (kept_entry format) list) ≡ length list
    length_mapped [] = refl
    length_mapped (entry ∷ list) = ap suc (length_mapped list)

-- a list of entries that all have room
pub none_without : (format : Format) (list : List Entry)
    → ((k : ℕ) → k < length list → (d : Entry) → entry_no_room format (get_or list k d) ≡ None)
    → filter_map (entry_no_room format) list ≡ []
none_without format [] clean = refl
none_without format (entry ∷ list) clean =
    let first : entry_no_room format entry ≡ None = clean 0 (omega arith) entry in
    ap (λ (o : Option NoRoom). cons_option o (filter_map (entry_no_room format) list)) first
    ∙ none_without format list (λ k less d. clean (suc k) (omega (arith, less)) d)

-- behind entries that have room the first one without is told
pub first_without : (format : Format) (list : List Entry) (count : ℕ) (out : NoRoom) (entry : Entry)
    → ((k : ℕ) → k < count → (d : Entry) → entry_no_room format (get_or list k d) ≡ None)
    → count < length list → entry_no_room format (get_or list count entry) ≡ Some out
    → slice_get (filter_map (entry_no_room format) list) 0 ≡ Some out
first_without format [] count out entry clean less refused = absurd (omega (arith, less))
first_without format (first ∷ list) zero out entry clean less refused =
    ap (λ (o : Option NoRoom). slice_get (cons_option o (filter_map (entry_no_room format) list)) 0) refused
first_without format (first ∷ list) (suc count) out entry clean less refused =
    let none : entry_no_room format first ≡ None = clean 0 (omega arith) first in
    ap (λ (o : Option NoRoom). slice_get (cons_option o (filter_map (entry_no_room format) list)) 0) none
    ∙ first_without format list count out entry (λ k le d. clean (suc k) (omega (arith, le)) d)
    (omega (arith, less)) refused

-- what holds of one and of all others holds of all
all_cons : (P : Entry → Type 0) (entry : Entry) (list : List Entry) → P entry → All P list → All P (entry ∷ list)
all_cons P entry list own rest zero d less = own
all_cons P entry list own rest (suc k) d less = rest k d (omega (arith, less))

-- entries that limit or count something
pub all_lasting : (list : List Entry) → All (λ (entry : Entry). is_null_of entry.rec ≡ false) (lasting_entries list)
all_lasting [] = λ k d less. absurd (omega (arith, less))
all_lasting (entry ∷ list) = by (all_lasting list) (is_null_of entry.rec) refl
  where
    by : All (λ (e : Entry). is_null_of e.rec ≡ false) (lasting_entries list) → (null : Bool)
        → is_null_of entry.rec ≡ null
        → All (λ (e : Entry). is_null_of e.rec ≡ false)
        (cond (not null) (entry ∷ lasting_entries list) (lasting_entries list))
    by rest true is = rest
    by rest false is = all_cons (λ (e : Entry). is_null_of e.rec ≡ false) entry (lasting_entries list) is rest
