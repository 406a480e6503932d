-- One leaf more that counts: the identifiers that lead to each block, and the records that are found by it and without
-- it.
use Rattle.std.proofs.Common.{◌≡◌, ◌≢◌, ℕ, ◌≤◌, Bool, true, false, cond, find, ◌==◌, List, [], ◌∷◌, length, filter, map}
use Rattle.std.proofs.Common.{Option, Some, None, option_and_then, refl, sym, ap, subst, ◌∙◌, inl, inr, arith, eq-eqb}
use Rattle.std.proofs.Common.{ne_eqb}
use Rattle.std.proofs.lemmas.Bool.{cases_eq, cases_lt, le-leb}
use Rattle.std.specs.Cmp.{nat_cmp_total, unsigned_tied}
use Rattle.std.specs.FinMap.{get, get-insert, get-remove, insert, remove}
use Rattle.std.specs.List.{AllByRecursion}
use Rattle.quota_types.specs.declared.file_kind.Format.{Format}
use Rattle.quota_types.specs.declared.record.Rec.{Rec}
use Rattle.quota_types.specs.Times.{StandsIn, times}
use Rattle.quota_types.proofs.ListLemmas.{AllByRecursion-weaker}
use Rattle.quota_types.proofs.TimesLemmas.{length_of_times, stands_right, times-append, times-cons-same, times_cases}
use Rattle.file_blocks.specs.Block.{block_of}
use Rattle.quota_value.specs.QuotaValue.{Records}
use Rattle.free_chains.specs.declared.heads.Heads.{Heads}
use Rattle.quota_radix.specs.declared.tree_path.TreePath.{TreePath}
use Rattle.quota_radix.specs.Tree.{blocks_of, ids_at, leaves, numbers_of}
use Rattle.quota_radix.proofs.PathLemmas.{leaves_lead}
use Rattle.tree_meaning.specs.IsTree.{IsTree}
use Rattle.tree_meaning.specs.Loose.{loose_of}
use Rattle.tree_meaning.specs.Roles.{counts_as_data}
use Rattle.tree_meaning.specs.TreeFile.{record_by_leaves, record_in}
use Rattle.tree_meaning.proofs.ValueLemmas.{found_used}

-- the record that is put in is there, and that of another identifier stays
pub inserted_own : (records : Records) (id : ℕ) (rec : Rec) → get (insert records id rec) id ≡ Some rec
inserted_own records id rec =
    get-insert nat_cmp_total records id rec id
    ∙ ap (λ (b : Bool). cond b (Some rec) (get records id)) (unsigned_tied id id ∙ eq-eqb id id refl)

pub inserted_rest : (records : Records) (id number : ℕ) (rec : Rec) → id ≢ number
    → get (insert records id rec) number ≡ get records number
inserted_rest records id number rec other =
    get-insert nat_cmp_total records id rec number
    ∙ ap (λ (b : Bool). cond b (Some rec) (get records number))
    (unsigned_tied number id ∙ ne_eqb number id (λ same. other (sym same)))

-- the record that is taken out is none, and that of another identifier stays
pub removed_own : (records : Records) (id : ℕ) → get (remove records id) id ≡ None
removed_own records id =
    get-remove nat_cmp_total records id id
    ∙ ap (λ (b : Bool). cond b None (get records id)) (unsigned_tied id id ∙ eq-eqb id id refl)

pub removed_rest : (records : Records) (id number : ℕ) → id ≢ number
    → get (remove records id) number ≡ get records number
removed_rest records id number other =
    get-remove nat_cmp_total records id number
    ∙ ap (λ (b : Bool). cond b None (get records number))
    (unsigned_tied number id ∙ ne_eqb number id (λ same. other (sym same)))

-- where a list has no more of each number than another one, and is not shorter, the other has no number that it does
-- not have
pub no_stray : (xs ys : List ℕ) → ((n : ℕ) → times xs n ≤ times ys n) → length ys ≤ length xs → (n : ℕ) → times xs n ≡ 0
    → times ys n ≡ 0
no_stray xs ys fewer short n none = elim (cases_lt 0 (times ys n)) [
  | inr absent ↦ omega (arith, absent)
  | inl some ↦
      let more : length (n ∷ xs) ≤ length ys = length_of_times (n ∷ xs) ys (λ m. elim (times_cases n xs m) [
        | inl same ↦ omega (arith, some, same.1, none, ap (times xs) same.0, ap (times ys) same.0)
        | inr other ↦ omega (arith, other.1, fewer m)
      ]) in
      absurd (omega (arith, more, short))
]

-- the identifiers at the block that one more leaf names
pub ids_same : (leaf : TreePath) (ps : List TreePath)
    → ids_at (leaf ∷ ps) leaf.block ≡ leaf.number ∷ ids_at ps leaf.block
ids_same leaf ps =
    let rest : List TreePath = filter (λ (path : TreePath). path.block == leaf.block) ps in
    ap (λ (b : Bool). map (λ (path : TreePath). path.number) (cond b (leaf ∷ rest) rest))
    (eq-eqb leaf.block leaf.block refl)

-- and at another one
pub ids_other : (leaf : TreePath) (ps : List TreePath) (block : ℕ) → leaf.block ≢ block
    → ids_at (leaf ∷ ps) block ≡ ids_at ps block
ids_other leaf ps block other =
    let rest : List TreePath = filter (λ (path : TreePath). path.block == block) ps in
    ap (λ (b : Bool). map (λ (path : TreePath). path.number) (cond b (leaf ∷ rest) rest))
    (ne_eqb leaf.block block other)

-- an identifier that leads to a block is that of a leaf
pub ids_fewer : (ps : List TreePath) (block id : ℕ) → times (ids_at ps block) id ≤ times (numbers_of ps) id
ids_fewer [] block id = omega arith
ids_fewer (p ∷ ps) block id =
    let rest : List TreePath = filter (λ (path : TreePath). path.block == block) ps in
    elim (p.block == block) as
    (λ b.
    times (map (λ (path : TreePath). path.number) (cond b (p ∷ rest) rest)) id ≤ times (p.number ∷ numbers_of ps) id) [
      | true ↦ omega (
        arith,
        ids_fewer ps block id,
        times-append (p.number ∷ []) (ids_at ps block) id,
        times-append (p.number ∷ []) (numbers_of ps) id,
      )
      | false ↦ omega (arith, ids_fewer ps block id, times-append (p.number ∷ []) (numbers_of ps) id)
    ]

-- the block of an awaited leaf counts as data
pub awaited_counts : (held : List ℕ) (misplaced : Option ℕ) (file : List ℕ) (blocks : ℕ) (leaf : TreePath)
    → counts_as_data (loose_of held (Some leaf) misplaced) file blocks leaf.block ≡ true
awaited_counts held misplaced file blocks leaf =
    le-leb 1 (times (leaf.block ∷ blocks_of (leaves file blocks)) leaf.block)
    (omega (arith, times-cons-same leaf.block (blocks_of (leaves file blocks))))

-- the record of the first leaf's identifier, and that of another one
pub record_first : (format : Format) (file : List ℕ) (leaf : TreePath) (ps : List TreePath)
    → record_by_leaves format file (leaf ∷ ps) leaf.number ≡ record_in format (block_of file leaf.block) leaf.number
record_first format file leaf ps =
    ap (λ (b : Bool). option_and_then (λ (one : TreePath). record_in format (block_of file one.block) leaf.number)
    (cond b (Some leaf) (find (λ (one : TreePath). one.number == leaf.number) ps)))
    (eq-eqb leaf.number leaf.number refl)

pub record_rest : (format : Format) (file : List ℕ) (leaf : TreePath) (ps : List TreePath) (id : ℕ) → leaf.number ≢ id
    → record_by_leaves format file (leaf ∷ ps) id ≡ record_by_leaves format file ps id
record_rest format file leaf ps id other =
    ap (λ (b : Bool). option_and_then (λ (one : TreePath). record_in format (block_of file one.block) id)
    (cond b (Some leaf) (find (λ (one : TreePath). one.number == id) ps)))
    (ne_eqb leaf.number id other)

-- an identifier that no leaf has is found by none
pub record_absent : (format : Format) (file : List ℕ) (ps : List TreePath) (id : ℕ) → times (numbers_of ps) id ≡ 0
    → record_by_leaves format file ps id ≡ None
record_absent format file [] id none = refl
record_absent format file (p ∷ ps) id none = elim (times_cases p.number (numbers_of ps) id) [
  | inl same ↦ absurd (omega (arith, same.1, none))
  | inr other ↦ record_rest format file p ps id other.0 ∙ record_absent format file ps id (sym other.1 ∙ none)
]

-- the record of an identifier by some leaves is the same where it is in each block that they name
pub record_alike : (format : Format) (old new : List ℕ) (id : ℕ) (ps : List TreePath)
    → ((block : ℕ) → StandsIn (blocks_of ps) block
    → record_in format (block_of new block) id ≡ record_in format (block_of old block) id)
    → record_by_leaves format new ps id ≡ record_by_leaves format old ps id
record_alike format old new id [] stays = refl
record_alike format old new id (p ∷ ps) stays = elim (cases_eq p.number id) [
  | inl same ↦ subst (λ (n : ℕ). record_by_leaves format new (p ∷ ps) n ≡ record_by_leaves format old (p ∷ ps) n) same
      (record_first format new p ps
      ∙ subst (λ (n : ℕ). record_in format (block_of new p.block) n ≡ record_in format (block_of old p.block) n)
      (sym same) (stays p.block (omega (arith, times-cons-same p.block (blocks_of ps))))
      ∙ sym (record_first format old p ps))
  | inr other ↦ record_rest format new p ps id other
      ∙ record_alike format old new id ps
      (λ block stands. stays block (stands_right (p.block ∷ []) (blocks_of ps) block stands))
      ∙ sym (record_rest format old p ps id other)
]

-- a leaf has a record
abbrev HasRecord : Format → List ℕ → TreePath → Type 0
HasRecord format file leaf = (rec : Rec) × (record_in format (block_of file leaf.block) leaf.number ≡ Some rec)

-- where each leaf has one, an identifier without a record has no leaf
no_leaf_among : (format : Format) (file : List ℕ) (id : ℕ) (ps : List TreePath)
    → AllByRecursion (HasRecord format file) ps → record_by_leaves format file ps id ≡ None
    → times (numbers_of ps) id ≡ 0
no_leaf_among format file id [] all none = refl
no_leaf_among format file id (p ∷ ps) all none = elim (times_cases p.number (numbers_of ps) id) [
  | inl same ↦
      let one : record_in format (block_of file p.block) p.number ≡ Some all.0.0 = all.0.1 in
      let found : record_by_leaves format file (p ∷ ps) p.number ≡ None =
      ap (record_by_leaves format file (p ∷ ps)) same.0 ∙ none in
      let is : Some all.0.0 ≡ None = sym one ∙ sym (record_first format file p ps) ∙ found in
      absurd cc
  | inr other ↦ other.1 ∙ no_leaf_among format file id ps all.1 (sym (record_rest format file p ps id other.0) ∙ none)
]

pub no_leaf_of : (held : List ℕ) (misplaced : Option ℕ) (format : Format) (file : List ℕ) (len : ℕ) (heads : Heads)
    (records : Records) (id : ℕ)
    → IsTree (loose_of held None misplaced) format file len heads records → get records id ≡ None
    → times (numbers_of (leaves file heads.blocks)) id ≡ 0
no_leaf_of held misplaced format file len heads records id tree none =
    let ps : List TreePath = leaves file heads.blocks in
    no_leaf_among format file id ps
    (AllByRecursion-weaker (λ (p : TreePath). StandsIn (ids_at ps p.block) p.number) (HasRecord format file) ps
    (λ p stands. found_used format (block_of file p.block) p.number (omega (
      arith,
      tree.filled.one_entry p.block p.number stands,
    )))
    (leaves_lead file heads.blocks))
    (sym (tree.each_record id) ∙ none)
