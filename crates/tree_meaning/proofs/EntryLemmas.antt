-- Numbers that stand in lists, as a loop over a list finds them.
use Rattle.std.proofs.Common.{◌≡◌, ℕ, zero, suc, ◌+◌, ◌<◌, ◌≤◌, Bool, true, false, cond, ◌||◌, List, [], ◌∷◌, ◌++◌}
use Rattle.std.proofs.Common.{length, map, take, get_or, Some, None, refl, sym, ap, subst, ◌∙◌, inl, inr, arith}
use Rattle.std.proofs.Common.{add-one}
use Rattle.std.proofs.Math.Bool.{or-false, or-true}
use Rattle.std.proofs.lemmas.Bool.{cases_eq, cases_lt}
use Rattle.std.proofs.Math.Seq.{take-suc}
use Rattle.std.proofs.lemmas.List.{append-nil, take_all}
use Rattle.std.proofs.lemmas.List.Concat.{flat_map-append}
use Rattle.std.proofs.lemmas.List.Folds.{list_any-append}
use Rattle.std.specs.List.{cons_option, filter_map, flat_map, list_any, range_with_len}
use Rattle.quota_types.specs.Times.{StandsIn, times}
use Rattle.quota_types.specs.Kept.{without_marker}
use Rattle.quota_types.specs.declared.file_kind.Format.{Format}
use Rattle.quota_types.specs.declared.record.Entry.{Entry}
use Rattle.entry_codec.specs.Entry.{entries_per_block, is_unused, stored_id}
use Rattle.tree_meaning.specs.Entries.{entries_in, entry_bytes, entry_of, id_in, stored_record, used_entries, used_ids}
use Rattle.quota_types.proofs.TimesLemmas.{times_cases, times-append, range_with_len-add}

-- the numbers of a longer beginning
pub stands_more : (P : ℕ → Type 0) (xs : List ℕ) (i : ℕ) → i < length xs → ((n : ℕ) → StandsIn (take i xs) n → P n)
    → P (get_or xs i 0)
    → (n : ℕ) → StandsIn (take (i + 1) xs) n → P n
stands_more P xs i h before here n stands =
    let split : take (i + 1) xs ≡ take i xs ++ get_or xs i 0 ∷ [] = rw add-one (take-suc xs i 0 h) in
    let both : times (take (i + 1) xs) n ≡ times (take i xs) n + times (get_or xs i 0 ∷ []) n =
    ap (λ (ys : List ℕ). times ys n) split ∙ times-append (take i xs) (get_or xs i 0 ∷ []) n in
    elim (times_cases (get_or xs i 0) [] n) [
      | inl same ↦ subst P same.0 here
      | inr other ↦ before n (omega (arith, both, stands, other.1))
    ]

-- numbers of which one more is above all before it stand once each
pub ascends_more : (xs : List ℕ) (i least : ℕ) → i < length xs
    → ((n : ℕ) → (times (take i xs) n ≤ 1) × (StandsIn (take i xs) n → n < least)) → least ≤ get_or xs i 0
    → (n : ℕ) → (times (take (i + 1) xs) n ≤ 1) × (StandsIn (take (i + 1) xs) n → n < get_or xs i 0 + 1)
ascends_more xs i least h before above n =
    let split : take (i + 1) xs ≡ take i xs ++ get_or xs i 0 ∷ [] = rw add-one (take-suc xs i 0 h) in
    let both : times (take (i + 1) xs) n ≡ times (take i xs) n + times (get_or xs i 0 ∷ []) n =
    ap (λ (ys : List ℕ). times ys n) split ∙ times-append (take i xs) (get_or xs i 0 ∷ []) n in
    elim (times_cases (get_or xs i 0) [] n) [
      | inl same ↦ elim (cases_lt (times (take i xs) n) 1) [
        | inl none ↦ (omega (arith, both, same.1, none), λ stands. omega (arith, same.0))
        | inr some ↦ absurd (omega (arith, (before n).1 some, above, same.0))
      ]
      | inr other ↦ (
        omega (arith, both, other.1, (before n).0),
        λ stands. omega (arith, (before n).1 (omega (arith, both, other.1, stands)), above),
      )
    ]

-- the numbers of the whole list
pub stands_in_all : (xs : List ℕ) (i n : ℕ) → length xs ≤ i → StandsIn xs n → StandsIn (take i xs) n
stands_in_all xs i n h stands = omega (arith, ap (λ (ys : List ℕ). times ys n) (take_all i xs h), stands)

-- one more number from 0 on
pub range-suc : (count : ℕ) → range_with_len 0 (count + 1) ≡ range_with_len 0 count ++ count ∷ []
range-suc count = range_with_len-add 0 count 1 ∙ ap (λ (n : ℕ). range_with_len 0 count ++ n ∷ []) (omega arith)

-- what is made of one more number
pub made_more : (f : ℕ → List ℕ) (count : ℕ) (so_far : List ℕ) → so_far ≡ flat_map f (range_with_len 0 count)
    → so_far ++ f count ≡ flat_map f (range_with_len 0 (count + 1))
made_more f count so_far is =
    ap (λ (xs : List ℕ). xs ++ f count) is
    ∙ sym (ap (flat_map f) (range-suc count) ∙ flat_map-append f (range_with_len 0 count) (count ∷ [])
    ∙ ap (λ (xs : List ℕ). flat_map f (range_with_len 0 count) ++ xs) (append-nil (f count)))

-- whether one more number or one before it passes
pub any_more : (test : ℕ → Bool) (count : ℕ) (so_far : Bool) → so_far ≡ list_any test (range_with_len 0 count)
    → (so_far || test count) ≡ list_any test (range_with_len 0 (count + 1))
any_more test count so_far is =
    ap (λ (b : Bool). b || test count) is
    ∙ sym (ap (list_any test) (range-suc count) ∙ list_any-append test (range_with_len 0 count) (count ∷ [])
    ∙ ap (λ (b : Bool). list_any test (range_with_len 0 count) || b) (or-false (test count)))

-- whether one passes of which none does
pub no_test : (test : ℕ → Bool) (low count : ℕ) → ((k : ℕ) → low ≤ k → k < low + count → test k ≡ false)
    → list_any test (range_with_len low count) ≡ false
no_test test low zero none = refl
no_test test low (suc count) none =
    ap (λ (b : Bool). b || list_any test (range_with_len (low + 1) count)) (none low (omega arith) (omega arith))
    ∙ no_test test (low + 1) count (λ k from to. none k (omega arith) (omega arith))

-- and of which one does
pub any_there : (test : ℕ → Bool) (low count k : ℕ) → low ≤ k → k < low + count → test k ≡ true
    → list_any test (range_with_len low count) ≡ true
any_there test low zero k from to passes = absurd (omega arith)
any_there test low (suc count) k from to passes = elim (cases_eq k low) [
  | inl same ↦ ap (λ (b : Bool). b || list_any test (range_with_len (low + 1) count)) (ap test (sym same) ∙ passes)
  | inr other ↦ ap (λ (b : Bool). test low || b)
      (any_there test (low + 1) count k (omega (arith, other)) (omega arith) passes) ∙ or-true (test low)
]

-- whether one passes of two tests that agree
pub any_same : (f g : ℕ → Bool) (low count : ℕ) → ((k : ℕ) → low ≤ k → k < low + count → f k ≡ g k)
    → list_any f (range_with_len low count) ≡ list_any g (range_with_len low count)
any_same f g low zero same = refl
any_same f g low (suc count) same =
    let here : f low ≡ g low = same low (omega arith) (omega arith) in
    let rest : list_any f (range_with_len (low + 1) count) ≡ list_any g (range_with_len (low + 1) count) =
    any_same f g (low + 1) count (λ k from to. same k (omega arith) (omega arith)) in
    λ i. here i || rest i

-- the identifier of an entry that is used
pub used_one : (format : Format) (bytes : List ℕ) (id : ℕ) → is_unused bytes ≡ false → id ≡ stored_id bytes
    → id ∷ [] ≡ id_in format bytes
used_one format bytes id used is =
    ap (λ (n : ℕ). n ∷ []) is ∙ sym (ap (λ (b : Bool). cond b [] (stored_id bytes ∷ [])) used)

-- and of one that is not
pub unused_none : (format : Format) (bytes : List ℕ) → is_unused bytes ≡ true → id_in format bytes ≡ []
unused_none format bytes unused = ap (λ (b : Bool). cond b [] (stored_id bytes ∷ [])) unused

-- the identifiers of the used entries of a block are those of the entries themselves
pub used_ids-entries : (format : Format) (block : List ℕ)
    → used_ids format block ≡ map (λ (entry : Entry). entry.id) (used_entries format block)
unfolding used_ids entries_in
used_ids-entries format block =
    each (λ place. entry_bytes format block place) (range_with_len 0 (entries_per_block format))
  where
    one_used : (unused : Bool) (entry : Entry) (entries : List Entry)
        → cond unused [] (entry.id ∷ []) ++ map (λ (entry : Entry). entry.id) entries
        ≡ map (λ (entry : Entry). entry.id) (cons_option (cond unused None (Some entry)) entries)
    one_used true entry entries = refl
    one_used false entry entries = refl

    each : (f : ℕ → List ℕ) (places : List ℕ)
        → flat_map (λ place. id_in format (f place)) places
        ≡ map (λ (entry : Entry). entry.id) (filter_map (λ place. entry_of format (f place)) places)
    each f [] = refl
    each f (place ∷ places) =
        ap (λ (ids : List ℕ). id_in format (f place) ++ ids) (each f places)
        ∙ one_used (is_unused (f place)) (record {
          id = stored_id (f place);
          rec = without_marker (stored_id (f place)) (stored_record format (f place));
        })
        (filter_map (λ place. entry_of format (f place)) places)
