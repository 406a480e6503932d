-- The entries of a finite map whose identifiers come after another one.
use Rattle.std.proofs.Common.{◌≡◌, ◌≢◌, ℕ, ◌-◌, ◌^◌, ◌<◌, ◌≤◌, Bool, true, false, cond, nat_lt, T, List, [], ◌∷◌}
use Rattle.std.proofs.Common.{Option, Some, None, filter, refl, sym, ap, subst, ◌∙◌, arith, eq-eqb, inl, inr}
use Rattle.std.proofs.lemmas.Bool.Decides.{nat_tests, eqb_tells}
use Rattle.std.proofs.lemmas.Option.{none-some, same_Some}
use Rattle.std.proofs.lemmas.Bool.{true≢false}
use Rattle.std.specs.Ordering.{nat_cmp}
use Rattle.std.specs.Cmp.{unsigned_tied}
use Rattle.std.specs.FinMap.{entries, find, is_sorted, get-entries, entries_sorted}
use Rattle.std.specs.FinMap.Entries.{below_all}
use Rattle.quota_types.specs.declared.record.Entry.{Entry}
use Rattle.quota_value.specs.QuotaValue.{Records}
use Rattle.quota_value.specs.NextRecord.{IsNextAfter}
use Rattle.quota_types.specs.Ids.{IsAfter}

-- whether an identifier comes after another one, or after none
abbrev pub is_after : Option ℕ → ℕ → Bool
is_after None id = true
is_after (Some after) id = nat_lt after id

-- those of the entries whose identifier comes after
abbrev pub entries_after : {X : Type 0} → Option ℕ → List (ℕ × X) → List (ℕ × X)
entries_after after es = filter (λ e. is_after after e.0) es

-- after none come all
pub entries_after-all : {X : Type 0} (es : List (ℕ × X)) → entries_after None es ≡ es
entries_after-all [] = refl
entries_after-all {X} (e ∷ es) = ap (λ (rest : List (ℕ × X)). e ∷ rest) (entries_after-all es)

-- an entry is found by its own identifier
found : {X : Type 0} (e : ℕ × X) (es : List (ℕ × X)) → find nat_cmp e.0 (e ∷ es) ≡ Some e.1
found e es = ap (λ (b : Bool). cond b (Some e.1) (find nat_cmp e.0 es)) (unsigned_tied e.0 e.0 ∙ eq-eqb e.0 e.0 refl)

-- and not by another one
passed : {X : Type 0} (id : ℕ) (e : ℕ × X) (es : List (ℕ × X)) → id ≢ e.0
    → find nat_cmp id (e ∷ es) ≡ find nat_cmp id es
passed id e es other = grind (arith, unsigned_tied id e.0, nat_tests)

-- what is not found among the entries is not found among the later ones
not_later : {X : Type 0} (id : ℕ) (e : ℕ × X) (es : List (ℕ × X)) → find nat_cmp id (e ∷ es) ≡ None
    → find nat_cmp id es ≡ None
not_later id e es none = grind arith

-- the first of entries in order is above the number, and the others are
above_first : {X : Type 0} (low : ℕ) (e : ℕ × X) (es : List (ℕ × X)) → T (below_all nat_cmp low (e ∷ es)) → low < e.0
above_first low e es above = grind (arith, nat_tests)

above_rest : {X : Type 0} (low : ℕ) (e : ℕ × X) (es : List (ℕ × X)) → T (below_all nat_cmp low (e ∷ es))
    → T (below_all nat_cmp low es)
above_rest low e es above = grind (arith, nat_tests)

-- entries in order, all above a number, do not have it or less
missing : {X : Type 0} (id low : ℕ) (es : List (ℕ × X)) → id ≤ low → T (below_all nat_cmp low es)
    → find nat_cmp id es ≡ None
missing id low [] le above = refl
missing id low (e ∷ es) le above =
    let over : low < e.0 = above_first low e es above in
    passed id e es (omega arith) ∙ missing id low es le (above_rest low e es above)

-- the fact and its test
after_test : (after : Option ℕ) (id : ℕ) → IsAfter after id → is_after after id ≡ true
after_test None id h = refl
after_test (Some after) id h = grind (arith, nat_tests)

test_after : (after : Option ℕ) (id : ℕ) → is_after after id ≡ true → IsAfter after id
test_after None id t = tt
test_after (Some after) id t = grind (arith, nat_tests)

-- an identifier that does not come after is not above one that does
not_after : (after : Option ℕ) (id other : ℕ) → IsAfter after id → is_after after other ≡ false
    → nat_lt id other ≡ false
not_after None id other h t = absurd (true≢false t)
not_after (Some after) id other h t = grind (arith, nat_tests)

-- what comes after that which comes after comes after
pub IsAfter-more : (after : Option ℕ) (id more : ℕ) → IsAfter after id → id < more → IsAfter after more
IsAfter-more None id more h lt = tt
IsAfter-more (Some after) id more h lt = omega arith

-- how many identifiers there may be after one, or after none
abbrev pub ids_after : Option ℕ → ℕ
ids_after None = 2 ^ 32
ids_after (Some id) = 2 ^ 32 - 1 - id

-- where all that is above a number comes after, so do entries that are all above it
all_after : {X : Type 0} (after : Option ℕ) (low : ℕ) (es : List (ℕ × X)) → ((k : ℕ) → low < k → IsAfter after k)
    → T (below_all nat_cmp low es) → entries_after after es ≡ es
all_after after low [] is above = refl
all_after {X} after low (e ∷ es) is above =
    ap (λ (b : Bool). cond b (e ∷ entries_after after es) (entries_after after es))
    (after_test after e.0 (is e.0 (above_first low e es above)))
    ∙ ap (λ (rest : List (ℕ × X)). e ∷ rest) (all_after after low es is (above_rest low e es above))

-- the entry that is looked for is the first
first_found : {X : Type 0} (after : Option ℕ) (id : ℕ) (x : X) (e : ℕ × X) (es : List (ℕ × X))
    → T (below_all nat_cmp e.0 es) → IsAfter after id
    → find nat_cmp id (e ∷ es) ≡ Some x → e.0 ≡ id
    → entries_after after (e ∷ es) ≡ (id, x) ∷ entries_after (Some id) (e ∷ es)
first_found {X} after id x e es above is here same =
    let value : e.1 ≡ x = same_Some e.1 x (sym (found e es) ∙ ap (λ (k : ℕ). find nat_cmp k (e ∷ es)) same ∙ here) in
    let is_here : IsAfter after e.0 = subst (IsAfter after) (sym same) is in
    let itself_not : nat_lt id e.0 ≡ false = grind (arith, nat_tests) in
    ap (λ (b : Bool). cond b (e ∷ entries_after after es) (entries_after after es)) (after_test after e.0 is_here)
    ∙ ap (λ (rest : List (ℕ × X)). e ∷ rest)
    (all_after after e.0 es (λ k lt. IsAfter-more after e.0 k is_here lt) above)
    ∙ ap (λ (k : ℕ). (k, e.1) ∷ es) same ∙ ap (λ (y : X). (id, y) ∷ es) value
    ∙ ap (λ (rest : List (ℕ × X)). (id, x) ∷ rest)
    (sym (ap (λ (b : Bool). cond b (e ∷ entries_after (Some id) es) (entries_after (Some id) es)) itself_not
    ∙ all_after (Some id) e.0 es (λ k lt. omega arith) above))

-- the entries after an identifier begin with the one that is found and has none before it
first_after : {X : Type 0} (after : Option ℕ) (id : ℕ) (x : X) (es : List (ℕ × X)) → T (is_sorted nat_cmp es)
    → IsAfter after id → find nat_cmp id es ≡ Some x
    → ((k : ℕ) → IsAfter after k → k < id → find nat_cmp k es ≡ None)
    → entries_after after es ≡ (id, x) ∷ entries_after (Some id) es
first_after after id x [] sorted is here least = absurd (none-some x here)
first_after {X} after id x (e ∷ es) sorted is here least =
    let above : T (below_all nat_cmp e.0 es) = grind arith in
    let rest_sorted : T (is_sorted nat_cmp es) = grind arith in
    elim (eqb_tells e.0 id) [
      | inl same ↦ first_found after id x e es above is here same.1
      | inr other ↦ elim (is_after after e.0) as
          (λ b. is_after after e.0 ≡ b
          → cond b (e ∷ entries_after after es) (entries_after after es) ≡ (id, x) ∷ entries_after (Some id) (e ∷ es)) [
            | true ↦ λ t.
                let not_before : e.0 < id → ⊥ =
                λ lt. none-some e.1 (sym (least e.0 (test_after after e.0 t) lt) ∙ found e es) in
                let before : id ≤ e.0 = omega arith in
                absurd
                (none-some x
                (sym (passed id e es (λ same. other.1 (sym same)) ∙ missing id e.0 es before above) ∙ here))
            | false ↦ λ t.
                let here_later : find nat_cmp id es ≡ Some x =
                sym (passed id e es (λ same. other.1 (sym same))) ∙ here in
                first_after after id x es rest_sorted is here_later (λ k later lt. not_later k e es (least k later lt))
                ∙ ap (λ (b : Bool). (id, x) ∷ cond b (e ∷ entries_after (Some id) es) (entries_after (Some id) es))
                (sym (not_after after id e.0 is t))
          ] refl
    ]

-- and are none, where none is found
none_after : {X : Type 0} (after : Option ℕ) (es : List (ℕ × X))
    → ((k : ℕ) → IsAfter after k → find nat_cmp k es ≡ None) → entries_after after es ≡ []
none_after after [] none = refl
none_after after (e ∷ es) none =
    elim (is_after after e.0) as
    (λ b. is_after after e.0 ≡ b → cond b (e ∷ entries_after after es) (entries_after after es) ≡ []) [
      | true ↦ λ t. absurd (none-some e.1 (sym (none e.0 (test_after after e.0 t)) ∙ found e es))
      | false ↦ λ t. none_after after es (λ k later. not_later k e es (none k later))
    ] refl

-- the entries after an identifier begin with the next one, where there is one
pub entries_after-next : (after : Option ℕ) (records : Records) (entry : Entry) → IsNextAfter after records (Some entry)
    → entries_after after (entries records) ≡ (entry.id, entry.rec) ∷ entries_after (Some entry.id) (entries records)
entries_after-next after records entry next =
    first_after after entry.id entry.rec (entries records) (entries_sorted records) next.0
    (sym (get-entries records entry.id) ∙ next.1)
    (λ k later less. sym (get-entries records k) ∙ next.2 k later less)

-- and are none, where there is none
pub entries_after-end : (after : Option ℕ) (records : Records) → IsNextAfter after records None
    → entries_after after (entries records) ≡ []
entries_after-end after records none =
    none_after after (entries records) (λ k later. sym (get-entries records k) ∙ none k later)
