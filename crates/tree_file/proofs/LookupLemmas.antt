-- The record of an identifier among the entries of a block, and in the file that they are a part of.
use Rattle.std.proofs.Common.{◌≡◌, ℕ, ◌≤◌, Bool, cond, ◌==◌, List, [], ◌∷◌, find, Option, Some, None, option_and_then}
use Rattle.std.proofs.Common.{sym, ap, subst, ◌∙◌, inl, inr, arith}
use Rattle.std.proofs.lemmas.Bool.{cases_Bool, cases_lt}
use Rattle.std.specs.FinMap.{get}
use Rattle.std.specs.List.{AllByRecursion}
use Rattle.quota_types.specs.declared.damage.Damage.{Damage}
use Rattle.quota_types.specs.declared.damage.DamageKind.TheVariants.{MissingEntry}
use Rattle.quota_types.specs.declared.file_kind.Format.{Format}
use Rattle.quota_types.specs.declared.record.Rec.{Rec}
use Rattle.quota_types.specs.Ids.{IsAfter}
use Rattle.quota_value.specs.QuotaValue.{QuotaValue}
use Rattle.quota_value.specs.NextRecord.{IsNextAfter}
use Rattle.entry_codec.specs.Header.{HeaderNumbers, header_of}
use Rattle.entry_codec.specs.Spelling.{AreOf}
use Rattle.entry_codec.specs.declared.header.Header.{Header}
use Rattle.quota_radix.specs.declared.tree_path.TreePath.{TreePath}
use Rattle.file_blocks.specs.Block.{block_of}
use Rattle.quota_types.specs.Times.{StandsIn, times}
use Rattle.tree_meaning.specs.Defect.{IsTreeDefect}
use Rattle.quota_radix.specs.Descent.{leaf_from}
use Rattle.tree_meaning.specs.Entries.{used_ids}
use Rattle.tree_meaning.specs.EntryRecords.{IsRecordIn}
use Rattle.tree_file.specs.Leaf.{IsLeafFault}
use Rattle.quota_radix.specs.Tree.{ids_at, leaves}
use Rattle.tree_meaning.specs.TreeFile.{TreeStandsFor, record_in, tree_record}
use Rattle.quota_radix.proofs.DescentLemmas.{IsPathFrom, leaf_is_from, no_leaf_from, not_some, some_same}
use Rattle.quota_radix.proofs.LeafLemmas.{IsLeaf}
use Rattle.quota_radix.proofs.PathLemmas.{leaves_lead}
use Rattle.tree_meaning.proofs.ValueLemmas.{found_used}
use Rattle.tree_file.proofs.UsedLemmas.{one_is_first}

-- what holds of each path holds of the one that is found
pub each_found : (P : TreePath → Type 0) (test : TreePath → Bool) (ps : List TreePath) (p : TreePath)
    → find test ps ≡ Some p → AllByRecursion P ps → P p
each_found P test [] p found all = absurd (not_some p (sym found))
each_found P test (q ∷ ps) p found all = elim (cases_Bool (test q)) [
  | inl passes ↦ subst P (some_same q p (sym (ap (λ (b : Bool). cond b (Some q) (find test ps)) passes) ∙ found)) all.0
  | inr fails ↦ each_found P test ps p (sym (ap (λ (b : Bool). cond b (Some q) (find test ps)) fails) ∙ found) all.1
]

-- a leaf whose block has no entry of its identifier is a damage
leaf_defect : (format : Format) (file : List ℕ) (numbers : HeaderNumbers) (leaf : TreePath) (damage : Damage)
    → IsLeaf file numbers.blocks leaf → IsLeafFault format file leaf damage
    → IsTreeDefect format file numbers damage
leaf_defect format file numbers leaf damage is fault =
    let same : damage ≡ record { kind = MissingEntry; block = leaf.block; id = leaf.number } =
    λ i. record { kind = fault.kind i; block = fault.block i; id = fault.id i } in
    let leads : StandsIn (ids_at (leaves file numbers.blocks) leaf.block) leaf.number =
    each_found (λ (other : TreePath). StandsIn (ids_at (leaves file numbers.blocks) other.block) other.number)
    (λ (other : TreePath). other.number == leaf.number)
    (leaves file numbers.blocks) leaf is (leaves_lead file numbers.blocks) in
    let none : times (used_ids format (block_of file leaf.block)) leaf.number ≡ 0 =
    elim (cases_lt 0 (times (used_ids format (block_of file leaf.block)) leaf.number)) [
      | inl some ↦
          let found = found_used format (block_of file leaf.block) leaf.number some in
          absurd (let no : Some found.0 ≡ None = sym found.1 ∙ fault.none in cc)
      | inr over ↦ omega (arith, over)
    ] in
    subst (IsTreeDefect format file numbers) (sym same) (record { leads = leads; none = none }, tt)

-- the damage of a leaf, by the header
pub leaf_damage : (header : Header) (file : List ℕ) (leaf : TreePath) (damage : Damage) → AreOf header (header_of file)
    → IsLeaf file header.blocks leaf
    → IsLeafFault header.format file leaf damage → IsTreeDefect header.format file (header_of file) damage
leaf_damage header file leaf damage of is fault =
    leaf_defect header.format file (header_of file) leaf damage
    (subst (λ (blocks : ℕ). IsLeaf file blocks leaf) (sym of.blocks) is) fault

-- the format of a value is that of the header
same_format : (header : Header) (file : List ℕ) (value : QuotaValue) → AreOf header (header_of file)
    → TreeStandsFor file value → value.format ≡ header.format
same_format header file value of stands =
    let same : Some value.format ≡ Some header.format = sym stands.version ∙ of.version in cc

-- the record of an identifier in a value is that of its leaf
value_record : (header : Header) (file : List ℕ) (value : QuotaValue) (id : ℕ) → AreOf header (header_of file)
    → TreeStandsFor file value
    → get value.records id ≡ tree_record header.format file header.blocks id
value_record header file value id of stands =
    stands.records id
    ∙ ap (λ (format : Format). tree_record format file (header_of file).blocks id)
    (same_format header file value of stands)
    ∙ ap (λ (blocks : ℕ). tree_record header.format file blocks id) of.blocks

-- an identifier without a leaf has no record
pub no_record : (header : Header) (file : List ℕ) (id : ℕ) → AreOf header (header_of file)
    → find (λ (other : TreePath). other.number == id) (leaves file header.blocks) ≡ None
    → (value : QuotaValue) → TreeStandsFor file value → get value.records id ≡ None
no_record header file id of none value stands =
    value_record header file value id of stands
    ∙ ap (option_and_then (λ (leaf : TreePath). record_in header.format (block_of file leaf.block) id)) none

-- one with a leaf has the record in its block
pub one_record : (header : Header) (file : List ℕ) (leaf : TreePath) (rec : Rec) → AreOf header (header_of file)
    → IsLeaf file header.blocks leaf
    → record_in header.format (block_of file leaf.block) leaf.number ≡ Some rec
    → (value : QuotaValue) → TreeStandsFor file value → get value.records leaf.number ≡ Some rec
one_record header file leaf rec of is found value stands =
    value_record header file value leaf.number of stands
    ∙ ap (option_and_then (λ (other : TreePath). record_in header.format (block_of file other.block) leaf.number)) is
    ∙ found

-- where there is no leaf from an identifier on, there is no next one
pub none_next : (header : Header) (file : List ℕ) (after : Option ℕ) (from : ℕ) → AreOf header (header_of file)
    → ((id : ℕ) → IsAfter after id → from ≤ id)
    → None ≡ leaf_from file header.blocks from → (value : QuotaValue) → TreeStandsFor file value
    → IsNextAfter after value.records None
none_next header file after from of first none value stands = λ id is.
    no_record header file id of (no_leaf_from file header.blocks from (sym none) id (first id is)) value stands

-- the leaf from an identifier on is that of the next one
pub one_next : (header : Header) (file : List ℕ) (after : Option ℕ) (from : ℕ) (leaf : TreePath) (rec : Rec)
    → AreOf header (header_of file) → ((id : ℕ) → IsAfter after id → from ≤ id)
    → ((id : ℕ) → from ≤ id → IsAfter after id) → Some leaf ≡ leaf_from file header.blocks from
    → (value : QuotaValue) → TreeStandsFor file value → get value.records leaf.number ≡ Some rec
    → IsNextAfter after value.records (Some (record { id = leaf.number; rec = rec }))
one_next header file after from leaf rec of first comes_after is value stands has =
    let next : IsPathFrom from (leaves file header.blocks) leaf =
    leaf_is_from file header.blocks from leaf (sym is) in (
      comes_after leaf.number next.above,
      has,
      λ id after_id below. no_record header file id of (next.none_between id (first id after_id) below) value stands,
    )

-- the record of any entry of an identifier in its block is that of the identifier
pub near_record : (header : Header) (file : List ℕ) (leaf : TreePath) (rec : Rec) → AreOf header (header_of file)
    → IsLeaf file header.blocks leaf
    → IsRecordIn header.format (block_of file leaf.block) leaf.number rec → (value : QuotaValue)
    → TreeStandsFor file value → get value.records leaf.number ≡ Some rec
near_record header file leaf rec of is there value stands =
    let leads : StandsIn (ids_at (leaves file header.blocks) leaf.block) leaf.number =
    each_found (λ (other : TreePath). StandsIn (ids_at (leaves file header.blocks) other.block) other.number)
    (λ (other : TreePath). other.number == leaf.number)
    (leaves file header.blocks) leaf is (leaves_lead file header.blocks) in
    let once : times (used_ids header.format (block_of file leaf.block)) leaf.number ≡ 1 =
    subst (λ (format : Format). times (used_ids format (block_of file leaf.block)) leaf.number ≡ 1)
    (same_format header file value of stands)
    (stands.sound.filled.one_entry leaf.block leaf.number
    (subst (λ (blocks : ℕ). StandsIn (ids_at (leaves file blocks) leaf.block) leaf.number) (sym of.blocks) leads)) in
    one_record header file leaf rec of is
    (one_is_first header.format (block_of file leaf.block) leaf.number rec once there) value stands

-- its leaf, and that it comes after
pub next_leaf : (file : List ℕ) (blocks from : ℕ) (leaf : TreePath) → Some leaf ≡ leaf_from file blocks from
    → IsLeaf file blocks leaf × (from ≤ leaf.number)
next_leaf file blocks from leaf is =
    let next : IsPathFrom from (leaves file blocks) leaf = leaf_is_from file blocks from leaf (sym is) in
    (next.there, next.above)
