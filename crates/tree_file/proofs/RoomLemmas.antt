-- How many blocks a tree file needs: those that it has, where each identifier has its leaf, and with one that has none
-- those that it has with its leaf.
use Rattle.std.proofs.Common.{◌≡◌, ◌≢◌, ℕ, ◌+◌, ◌-◌, ◌^◌, ◌<◌, Bool, true, false, cond, ◌==◌, nat_lt, if◌then◌else◌}
use Rattle.std.proofs.Common.{is_none, List, [], ◌∷◌, length, map, find, Option, Some, None, option_and_then}
use Rattle.std.proofs.Common.{option_map, refl, sym, ap, subst, ◌∙◌, inl, inr, arith, eq-eqb, ne_eqb}
use Rattle.std.proofs.lemmas.Bool.{cases_lt, lt-ltb, true≢false}
use Rattle.std.proofs.lemmas.Bool.Decides.{eqb_tells}
use Rattle.std.proofs.lemmas.Option.{slice_get_within}
use Rattle.std.specs.Cmp.{nat_cmp_total, unsigned_tied}
use Rattle.std.specs.FinMap.{entries, find as find_key, get, get-entries, get-insert, get-remove, insert, remove}
use Rattle.std.specs.Ordering.{nat_cmp}
use Rattle.quota_types.specs.Times.{StandsIn, times}
use Rattle.quota_types.specs.declared.file_kind.Format.{Format}
use Rattle.quota_types.proofs.FormatLemmas.{by_tree}
use Rattle.quota_types.specs.declared.record.Rec.{Rec}
use Rattle.quota_types.proofs.TimesLemmas.{stands_right, times-cons-same, times_cases}
use Rattle.file_blocks.specs.Block.{block_of}
use Rattle.quota_value.specs.QuotaValue.{QuotaValue, Records}
use Rattle.entry_codec.specs.Header.{format_of, header_of}
use Rattle.entry_codec.proofs.TreeLemmas.{version_tree}
use Rattle.quota_radix.specs.declared.tree_path.TreePath.{TreePath}
use Rattle.quota_radix.specs.Tree.{leaves, numbers_of}
use Rattle.quota_radix.specs.OnWay.{blocks_on_way}
use Rattle.quota_radix.proofs.AlongLemmas.{fifth_is_leaf}
use Rattle.quota_radix.proofs.DescentLemmas.{leaf_led_to, option_cases}
use Rattle.tree_meaning.specs.TreeHeads.{heads_of}
use Rattle.tree_meaning.specs.Ids.{ids_in}
use Rattle.tree_meaning.specs.TreeFile.{TreeStandsFor, record_in}
use Rattle.byte_order.specs.declared.order.Order.TheVariants.{Little}
use Rattle.tree_meaning.proofs.MeaningLemmas.{one_meaning}
use Rattle.tree_meaning.proofs.ValueLemmas.{sound_value, sound_value_ids}
use Rattle.tree_file.specs.BlocksWanted.{blocks_wanted, blocks_with_new, has_no_leaf, tree_blocks_wanted}
use Rattle.tree_change.specs.BlocksWanted.{blocks_taken, blocks_with}

-- where a test passes none of some numbers, none is found
none_passes : (test : ℕ → Bool) (ids : List ℕ) → ((n : ℕ) → StandsIn ids n → test n ≡ false) → find test ids ≡ None
none_passes test [] fails = refl
none_passes test (id ∷ ids) fails =
    ap (λ (b : Bool). cond b (Some id) (find test ids)) (fails id (omega (arith, times-cons-same id ids)))
    ∙ none_passes test ids (λ n stands. fails n (stands_right (id ∷ []) ids n stands))

-- where it passes one of them alone, that is found
one_passes : (test : ℕ → Bool) (id : ℕ) (ids : List ℕ) → test id ≡ true → StandsIn ids id
    → ((n : ℕ) → StandsIn ids n → n ≢ id → test n ≡ false) → find test ids ≡ Some id
one_passes test id [] passes stands fails = absurd (omega (arith, stands))
one_passes test id (n ∷ ids) passes stands fails = elim (times_cases n ids id) [
  | inl same ↦ ap (λ (b : Bool). cond b (Some n) (find test ids)) (ap test same.0 ∙ passes) ∙ ap Some same.0
  | inr other ↦
      ap (λ (b : Bool). cond b (Some n) (find test ids)) (fails n (omega (arith, times-cons-same n ids)) other.0)
      ∙ one_passes test id ids passes (omega (arith, stands, other.1))
      (λ k k_stands. fails k (stands_right (n ∷ []) ids k k_stands))
]

-- the record of an identifier among entries: that of the first one, or of one behind it
first_key : (e : ℕ × Rec) (es : List (ℕ × Rec)) (id : ℕ) (b : Bool) → (id == e.0) ≡ b
    → find_key nat_cmp id (e ∷ es) ≡ cond b (Some e.1) (find_key nat_cmp id es)
first_key e es id b is = ap (λ (own : Bool). cond own (Some e.1) (find_key nat_cmp id es)) (unsigned_tied id e.0 ∙ is)

-- the identifiers of entries are those that are found
key_found : (es : List (ℕ × Rec)) (id : ℕ) → StandsIn (map (λ (e : ℕ × Rec). e.0) es) id → find_key nat_cmp id es ≢ None
key_found [] id stands = absurd (omega (arith, stands))
key_found (e ∷ es) id stands = elim (times_cases e.0 (map (λ (x : ℕ × Rec). x.0) es) id) [
  | inl own ↦ λ none. let no : Some e.1 ≡ None = sym (first_key e es id true (eq-eqb id e.0 (sym own.0))) ∙ none in cc
  | inr other ↦ λ none. key_found es id (omega (arith, stands, other.1))
      (sym (first_key e es id false (ne_eqb id e.0 (λ same. other.0 (sym same)))) ∙ none)
]

found_key : (es : List (ℕ × Rec)) (id : ℕ) (rec : Rec) → find_key nat_cmp id es ≡ Some rec
    → StandsIn (map (λ (e : ℕ × Rec). e.0) es) id
found_key [] id rec found = absurd (let no : None ≡ Some rec = found in cc)
found_key (e ∷ es) id rec found = elim (times_cases e.0 (map (λ (x : ℕ × Rec). x.0) es) id) [
  | inl own ↦ omega (arith, own.1)
  | inr other ↦ omega (
    arith,
    other.1,
    found_key es id rec (sym (first_key e es id false (ne_eqb id e.0 (λ same. other.0 (sym same)))) ∙ found),
  )
]

-- the identifiers of records are those that have one
id_has_record : (records : Records) (id : ℕ) → StandsIn (ids_in records) id → get records id ≢ None
id_has_record records id stands = λ none. key_found (entries records) id stands (sym (get-entries records id) ∙ none)

record_has_id : (records : Records) (id : ℕ) (rec : Rec) → get records id ≡ Some rec → StandsIn (ids_in records) id
record_has_id records id rec is = found_key (entries records) id rec (sym (get-entries records id) ∙ is)

-- a record that is put in is there, and the others stay
put_own : (records : Records) (id : ℕ) (rec : Rec) → get (insert records id rec) id ≡ Some rec
put_own records id rec =
    get-insert nat_cmp_total records id rec id
    ∙ ap (λ (b : Bool). cond b (Some rec) (get records id)) (unsigned_tied id id ∙ eq-eqb id id refl)

put_rest : (records : Records) (id n : ℕ) (rec : Rec) → n ≢ id → get (insert records id rec) n ≡ get records n
put_rest records id n rec other =
    get-insert nat_cmp_total records id rec n
    ∙ ap (λ (b : Bool). cond b (Some rec) (get records n)) (unsigned_tied n id ∙ ne_eqb n id other)

-- an identifier that has a record once one was taken out had one before
taken_rest : (records : Records) (id n : ℕ) → get (remove records id) n ≢ None → get records n ≢ None
taken_rest records id n some = λ none. some (get-remove nat_cmp_total records id n ∙ elim (eqb_tells n id) [
  | inl own ↦ ap (λ (b : Bool). cond b None (get records n)) (unsigned_tied n id ∙ own.0)
  | inr other ↦ ap (λ (b : Bool). cond b None (get records n)) (unsigned_tied n id ∙ other.0) ∙ none
])

-- no leaf is found by a number that none of the leaves has
none_found : (id : ℕ) (ps : List TreePath) → times (numbers_of ps) id ≡ 0
    → find (λ (leaf : TreePath). leaf.number == id) ps ≡ None
none_found id [] none = refl
none_found id (p ∷ ps) none = elim (times_cases p.number (numbers_of ps) id) [
  | inl same ↦ absurd (omega (arith, none, same.1))
  | inr other ↦ ap (λ (b : Bool). cond b (Some p) (find (λ (leaf : TreePath). leaf.number == id) ps))
      (ne_eqb p.number id other.0) ∙ none_found id ps (omega (arith, none, other.1))
]

-- the identifiers of a file's value are those of its leaves
ids_of_value : (file : List ℕ) (value : QuotaValue) → TreeStandsFor file value
    → ids_in value.records ≡ numbers_of (leaves file (header_of file).blocks)
ids_of_value file value stands =
    let found = sound_value Little file value.kind value.format stands.magic stands.version stands.sound in
    ap (λ (v : QuotaValue). ids_in v.records) (one_meaning Little file value found.0 stands found.1)
    ∙ sound_value_ids Little file value.kind value.format stands.magic stands.version stands.sound

-- an identifier of the file's value has a leaf, and another one has none
has_leaf : (file : List ℕ) (value : QuotaValue) (id : ℕ) → TreeStandsFor file value → get value.records id ≢ None
    → has_no_leaf file (header_of file).blocks id ≡ false
has_leaf file value id stands some =
    let leaf : Option TreePath = find (λ (leaf : TreePath). leaf.number == id) (leaves file (header_of file).blocks) in
    let read = λ (leaf : TreePath). record_in value.format (block_of file leaf.block) id in
    elim (option_cases leaf) [
      | inl none ↦ absurd (some (stands.records id ∙ ap (option_and_then read) none))
      | inr there ↦ ap is_none there.1
    ]

lacks_leaf : (file : List ℕ) (value : QuotaValue) (id : ℕ) → TreeStandsFor file value → get value.records id ≡ None
    → has_no_leaf file (header_of file).blocks id ≡ true
lacks_leaf file value id stands none =
    let ps : List TreePath = leaves file (header_of file).blocks in
    ap is_none (none_found id ps (elim (cases_lt 0 (times (numbers_of ps) id)) [
      | inl some ↦ absurd
          (id_has_record value.records id
          (subst (λ (ids : List ℕ). StandsIn ids id) (sym (ids_of_value file value stands)) some) none)
      | inr over ↦ omega (arith, over)
    ]))

-- the way of an identifier that has a leaf has five blocks, the last one its data block
five_on_way : (file : List ℕ) (blocks id : ℕ) → id < 2 ^ 32 → has_no_leaf file blocks id ≡ false
    → 4 < length (blocks_on_way file blocks id)
five_on_way file blocks id small there =
    let leaf : Option TreePath = find (λ (leaf : TreePath). leaf.number == id) (leaves file blocks) in
    elim (option_cases leaf) [
      | inl none ↦ absurd (true≢false (sym (ap is_none none) ∙ there))
      | inr found ↦ slice_get_within (blocks_on_way file blocks id) 4 found.0.block
          (fifth_is_leaf file blocks id ∙ leaf_led_to file blocks id small
          ∙ ap (option_map (λ (leaf : TreePath). leaf.block)) found.1)
    ]

-- what a file needs, by the one identifier that has no leaf, where there is one
wanted_by_format : (format : Format) (file ids : List ℕ) (version : ℕ) → format_of version ≡ Some format
    → blocks_wanted format (Some file) ids
    ≡ blocks_with_new file (heads_of (header_of file)) (find (has_no_leaf file (header_of file).blocks) ids)
unfolding tree_blocks_wanted
wanted_by_format format file ids version is =
    by_tree (λ (format : Format). blocks_wanted format (Some file) ids
    ≡ blocks_with_new file (heads_of (header_of file)) (find (has_no_leaf file (header_of file).blocks) ids))
    refl refl format (version_tree format version is)

wanted_is : (file ids : List ℕ) (value : QuotaValue) (found : Option ℕ) → TreeStandsFor file value
    → find (has_no_leaf file (header_of file).blocks) ids ≡ found
    → blocks_wanted value.format (Some file) ids ≡ blocks_with_new file (heads_of (header_of file)) found
wanted_is file ids value found stands is =
    wanted_by_format value.format file ids (header_of file).version stands.version
    ∙ ap (blocks_with_new file (heads_of (header_of file))) is

-- a file needs as many blocks as it has for identifiers that have a record each
wanted_within : (file ids : List ℕ) (value : QuotaValue) → TreeStandsFor file value
    → ((n : ℕ) → StandsIn ids n → get value.records n ≢ None)
    → blocks_wanted value.format (Some file) ids ≡ (header_of file).blocks
wanted_within file ids value stands each =
    wanted_is file ids value None stands
    (none_passes (has_no_leaf file (header_of file).blocks) ids
    (λ n n_stands. has_leaf file value n stands (each n n_stands)))

-- so it does for those of its own value
pub wanted_held : (file : List ℕ) (value : QuotaValue) → TreeStandsFor file value
    → blocks_wanted value.format (Some file) (ids_in value.records) ≡ (header_of file).blocks
wanted_held file value stands = wanted_within file (ids_in value.records) value stands (id_has_record value.records)

-- and once the record of one was taken out
pub wanted_removed : (file : List ℕ) (value : QuotaValue) (id : ℕ) → TreeStandsFor file value
    → blocks_wanted value.format (Some file) (ids_in (remove value.records id)) ≡ (header_of file).blocks
wanted_removed file value id stands =
    wanted_within file (ids_in (remove value.records id)) value stands
    (λ n n_stands. taken_rest value.records id n (id_has_record (remove value.records id) n n_stands))

-- another identifier than the one whose record was put in had a record before
put_before : (records : Records) (id n : ℕ) (rec : Rec) → StandsIn (ids_in (insert records id rec)) n → n ≢ id
    → get records n ≢ None
put_before records id n rec stands other =
    λ none. id_has_record (insert records id rec) n stands (put_rest records id n rec other ∙ none)

-- no block is taken for an identifier that has a leaf
none_taken : (file : List ℕ) (value : QuotaValue) (id : ℕ) → id < 2 ^ 32 → TreeStandsFor file value
    → get value.records id ≢ None
    → blocks_with file (heads_of (header_of file)) id ≡ (header_of file).blocks
none_taken file value id small stands some =
    let way : List ℕ = blocks_on_way file (header_of file).blocks id in
    let long : nat_lt 4 (length way) ≡ true = lt-ltb 4 (length way)
    (five_on_way file (header_of file).blocks id small (has_leaf file value id stands some)) in
    let none : blocks_taken file (heads_of (header_of file)) id ≡ 0 =
    ap (λ (b : Bool). if b then 0 else (4 - length way) + (if (header_of file).first == 0 then 1 else 0)) long in
    omega (arith, none)

-- for the records with one put in it needs as many as it has with a leaf of that identifier
pub wanted_put : (file : List ℕ) (value : QuotaValue) (id : ℕ) (rec : Rec) → id < 2 ^ 32 → TreeStandsFor file value
    → blocks_wanted value.format (Some file) (ids_in (insert value.records id rec))
    ≡ blocks_with file (heads_of (header_of file)) id
wanted_put file value id rec small stands =
    let now : List ℕ = ids_in (insert value.records id rec) in
    elim (option_cases (get value.records id)) [
      | inl none ↦ wanted_is file now value (Some id) stands
          (one_passes (has_no_leaf file (header_of file).blocks) id now (lacks_leaf file value id stands none)
          (record_has_id (insert value.records id rec) id rec (put_own value.records id rec))
          (λ n n_stands other. has_leaf file value n stands (put_before value.records id n rec n_stands other)))
      | inr there ↦
          let some : get value.records id ≢ None = λ none. let no : Some there.0 ≡ None = sym there.1 ∙ none in cc in
          wanted_within file now value stands
          (λ n n_stands. elim (eqb_tells n id) [
            | inl own ↦ subst (λ (k : ℕ). get value.records k ≢ None) (sym own.1) some
            | inr other ↦ put_before value.records id n rec n_stands other.1
          ])
          ∙ sym (none_taken file value id small stands some)
    ]
