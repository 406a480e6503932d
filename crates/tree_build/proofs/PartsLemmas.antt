-- The data blocks of a new file, with their leaves, as parts of its list.
use Rattle.std.proofs.Common.{◌≡◌, ◌≢◌, ℕ, zero, suc, ◌+◌, ◌-◌, ◌*◌, ◌<◌, ◌≤◌, min, Bool, cond, ◌==◌, List, [], ◌∷◌}
use Rattle.std.proofs.Common.{◌++◌, length, map, filter, find, take, drop, Option, Some, None, option_and_then}
use Rattle.std.proofs.Common.{option_map, nat_cmp, refl, sym, ap, subst, ◌∙◌, ◌⊎◌, inl, inr, arith, length-take}
use Rattle.std.proofs.Common.{length-drop, eq-eqb, ne_eqb, add-one}
use Rattle.std.proofs.Math.Seq.{take-add}
use Rattle.std.proofs.lemmas.Bool.{cases_eq}
use Rattle.std.proofs.lemmas.Bool.Decides.{eqb_tells}
use Rattle.std.proofs.lemmas.List.{append-nil, map-append, take_all}
use Rattle.std.proofs.lemmas.List.Concat.{flat_map-append}
use Rattle.std.proofs.lemmas.List.Elements.{filter-append}
use Rattle.std.specs.Cmp.{nat_cmp_total, unsigned_tied}
use Rattle.std.specs.FinMap.{get, get-from_entries}
use Rattle.std.specs.FinMap.Entries.{find as find_key}
use Rattle.std.specs.List.{AllByRecursion, flat_map, range_with_len}
use Rattle.quota_types.specs.Format.{IsTreeFormat}
use Rattle.quota_types.specs.declared.file_kind.Format.{Format}
use Rattle.quota_types.proofs.FormatLemmas.{by_tree}
use Rattle.quota_types.specs.declared.record.Entry.{Entry}
use Rattle.quota_types.specs.declared.record.Rec.{Rec}
use Rattle.entry_codec.specs.Entry.{entries_per_block}
use Rattle.quota_radix.specs.declared.tree_path.TreePath.{TreePath}
use Rattle.file_blocks.specs.Block.{block_of}
use Rattle.quota_value.specs.Listed.{ids_of, records_of}
use Rattle.tree_meaning.specs.Entries.{used_entries}
use Rattle.tree_build.specs.NewFile.{Part, leaves_in, part_of, parts_needed, parts_of}
use Rattle.quota_radix.specs.Tree.{numbers_of, ids_at}
use Rattle.tree_build.specs.Size.{filled_blocks}
use Rattle.tree_meaning.specs.TreeFile.{record_in}
use Rattle.tree_build.proofs.DataAddedLemmas.{parts_push}
use Rattle.quota_radix.proofs.FindLemmas.{find_first, find_later}

-- the leaf of an entry in a block
abbrev pub leaf_at : ℕ → Entry → TreePath
leaf_at block entry = record { number = entry.id; block = block }

-- what holds of each part holds of each by its place
pub each_part : (P : Part → Type 0) (format : Format) (list : List Entry) (first low count : ℕ)
    → AllByRecursion P (map (part_of format list first) (range_with_len low count))
    → (place : ℕ) → low ≤ place → place < low + count → P (part_of format list first place)
each_part P format list first low zero all place from to = absurd (omega arith)
each_part P format list first low (suc count) all place from to = elim (cases_eq low place) [
  | inl same ↦ subst (λ (k : ℕ). P (part_of format list first k)) same all.0
  | inr other ↦ each_part P format list first (low + 1) count all.1 place (omega (arith, other, from)) (omega arith)
]

-- the entries of the first parts are those of the list
first_parts : (format : Format) (list : List Entry) (first count : ℕ)
    → flat_map (λ (part : Part). part.entries) (parts_of format list first count)
    ≡ take (entries_per_block format * count) list
first_parts format list first zero =
    let none : entries_per_block format * 0 ≡ 0 = omega arith in sym (ap (λ (k : ℕ). take k list) none)
first_parts format list first (suc count) =
    let per : ℕ = entries_per_block format in
    let more : per * suc count ≡ per * count + per = omega arith in
    let entries : Part → List Entry = λ part. part.entries in
    ap (λ (k : ℕ). flat_map entries (parts_of format list first k)) (sym (add-one count))
    ∙ ap (flat_map entries) (parts_push format list first count)
    ∙ flat_map-append entries (parts_of format list first count) (part_of format list first count ∷ [])
    ∙ ap (λ (es : List Entry). es ++ flat_map entries (part_of format list first count ∷ []))
    (first_parts format list first count)
    ∙ ap (λ (es : List Entry). take (per * count) list ++ es) (append-nil (take per (drop (per * count) list)))
    ∙ sym (ap (λ (k : ℕ). take k list) more ∙ take-add (per * count) per list)

enough : (format : Format) → IsTreeFormat format → (count : ℕ)
    → count ≤ entries_per_block format * filled_blocks (entries_per_block format) count
enough = by_tree _ (λ count. omega arith) (λ count. omega arith)

pub all_parts : (format : Format) → IsTreeFormat format → (list : List Entry) (first : ℕ)
    → flat_map (λ (part : Part). part.entries) (parts_of format list first (parts_needed format list)) ≡ list
all_parts format tree list first =
    first_parts format list first (parts_needed format list)
    ∙ take_all (entries_per_block format * parts_needed format list) list (enough format tree (length list))

-- how many entries a part has
pub length_part : (format : Format) (list : List Entry) (first place : ℕ)
    → length (part_of format list first place).entries
    ≡ min (entries_per_block format) (length list - entries_per_block format * place)
length_part format list first place =
    length-take (entries_per_block format) (drop (entries_per_block format * place) list)
    ∙ ap (min (entries_per_block format)) (length-drop (entries_per_block format * place) list)

some_in_part : (format : Format) → IsTreeFormat format → (count place : ℕ)
    → place < filled_blocks (entries_per_block format) count
    → 1 ≤ min (entries_per_block format) (count - entries_per_block format * place)
some_in_part = by_tree _ (λ count place low. omega arith) (λ count place low. omega arith)

pub some_entries : (format : Format) → IsTreeFormat format → (list : List Entry) (first place : ℕ)
    → place < parts_needed format list → 1 ≤ length (part_of format list first place).entries
some_entries format tree list first place low =
    omega (arith, length_part format list first place, some_in_part format tree (length list) place low)

-- the identifiers of leaves
numbers_in : (block : ℕ) (entries : List Entry) → numbers_of (map (leaf_at block) entries) ≡ ids_of entries
numbers_in block [] = refl
numbers_in block (e ∷ es) = ap (λ (ns : List ℕ). e.id ∷ ns) (numbers_in block es)

pub numbers_of_leaves : (parts : List Part)
    → numbers_of (flat_map leaves_in parts) ≡ ids_of (flat_map (λ (part : Part). part.entries) parts)
numbers_of_leaves [] = refl
numbers_of_leaves (p ∷ ps) =
    map-append (λ (leaf : TreePath). leaf.number) (leaves_in p) (flat_map leaves_in ps)
    ∙ ap (λ (ns : List ℕ). ns ++ numbers_of (flat_map leaves_in ps)) (numbers_in p.block p.entries)
    ∙ ap (λ (ns : List ℕ). ids_of p.entries ++ ns) (numbers_of_leaves ps)
    ∙ sym (map-append (λ (entry : Entry). entry.id) p.entries (flat_map (λ (part : Part). part.entries) ps))

-- the leaves that name a block
ids_at-append : (ps qs : List TreePath) (block : ℕ) → ids_at (ps ++ qs) block ≡ ids_at ps block ++ ids_at qs block
ids_at-append ps qs block =
    ap (map (λ (path : TreePath). path.number)) (filter-append (λ (path : TreePath). path.block == block) ps qs)
    ∙ map-append (λ (path : TreePath). path.number) (filter (λ (path : TreePath). path.block == block) ps)
    (filter (λ (path : TreePath). path.block == block) qs)

ids_same : (block : ℕ) (entries : List Entry) → ids_at (map (leaf_at block) entries) block ≡ ids_of entries
ids_same block [] = refl
ids_same block (e ∷ es) =
    let later : List TreePath = filter (λ (path : TreePath). path.block == block) (map (leaf_at block) es) in
    ap (λ (b : Bool). map (λ (path : TreePath). path.number) (cond b (leaf_at block e ∷ later) later))
    (eq-eqb block block refl)
    ∙ ap (λ (ns : List ℕ). e.id ∷ ns) (ids_same block es)

ids_other : (block other : ℕ) (entries : List Entry) → block ≢ other → ids_at (map (leaf_at block) entries) other ≡ []
ids_other block other [] ne = refl
ids_other block other (e ∷ es) ne =
    let later : List TreePath = filter (λ (path : TreePath). path.block == other) (map (leaf_at block) es) in
    ap (λ (b : Bool). map (λ (path : TreePath). path.number) (cond b (leaf_at block e ∷ later) later))
    (ne_eqb block other ne) ∙ ids_other block other es ne

pub ids_nowhere : (format : Format) (list : List Entry) (first low count block : ℕ)
    → ((place : ℕ) → low ≤ place → place < low + count → first + place ≢ block)
    → ids_at (flat_map leaves_in (map (part_of format list first) (range_with_len low count))) block ≡ []
ids_nowhere format list first low zero block none = refl
ids_nowhere format list first low (suc count) block none =
    let part : Part = part_of format list first low in
    let rest : List TreePath = flat_map leaves_in (map (part_of format list first) (range_with_len (low + 1) count)) in
    ids_at-append (leaves_in part) rest block
    ∙ ap (λ (ns : List ℕ). ns ++ ids_at rest block)
    (ids_other part.block block part.entries (none low (omega arith) (omega arith)))
    ∙ ids_nowhere format list first (low + 1) count block (λ place from to. none place (omega arith) (omega arith))

pub ids_there : (format : Format) (list : List Entry) (first low count place : ℕ) → low ≤ place → place < low + count
    → ids_at (flat_map leaves_in (map (part_of format list first) (range_with_len low count))) (first + place)
    ≡ ids_of (part_of format list first place).entries
ids_there format list first low zero place from to = absurd (omega arith)
ids_there format list first low (suc count) place from to =
    let part : Part = part_of format list first low in
    let rest : List TreePath = flat_map leaves_in (map (part_of format list first) (range_with_len (low + 1) count)) in
    ids_at-append (leaves_in part) rest (first + place) ∙ elim (cases_eq low place) [
      | inl same ↦
          let here : ids_at (leaves_in part) (first + place) ≡ ids_of (part_of format list first place).entries =
          subst (λ (k : ℕ). ids_at (leaves_in part) (first + k) ≡ ids_of (part_of format list first k).entries) same
          (ids_same part.block part.entries) in
          ap (λ (ns : List ℕ). ns ++ ids_at rest (first + place)) here
          ∙ ap (λ (ns : List ℕ). ids_of (part_of format list first place).entries ++ ns)
          (ids_nowhere format list first (low + 1) count (first + place) (λ other above below e. omega (
            arith,
            e,
            above,
            same,
          )))
          ∙ append-nil (ids_of (part_of format list first place).entries)
      | inr other ↦
          ap (λ (ns : List ℕ). ns ++ ids_at rest (first + place))
          (ids_other part.block (first + place) part.entries (λ e. omega (arith, e, other)))
          ∙ ids_there format list first (low + 1) count place (omega (arith, other, from)) (omega arith)
    ]

-- an identifier among the leaves of a block, as among its entries
find_in : (block id : ℕ) (entries : List Entry)
    → ((find (λ (leaf : TreePath). leaf.number == id) (map (leaf_at block) entries) ≡ None)
    × (find (λ (entry : Entry). entry.id == id) entries ≡ None))
    ⊎ ((entry : Entry)
    × (find (λ (leaf : TreePath). leaf.number == id) (map (leaf_at block) entries) ≡ Some (leaf_at block entry))
    × (find (λ (entry : Entry). entry.id == id) entries ≡ Some entry))
find_in block id [] = inl (refl, refl)
find_in block id (e ∷ es) =
    let leaves : Bool → Option TreePath =
    λ b. cond b (Some (leaf_at block e)) (find (λ (leaf : TreePath). leaf.number == id) (map (leaf_at block) es)) in
    let entries : Bool → Option Entry = λ b. cond b (Some e) (find (λ (entry : Entry). entry.id == id) es) in
    elim (eqb_tells e.id id) [
      | inl same ↦ inr (e, ap leaves same.0, ap entries same.0)
      | inr other ↦ elim (find_in block id es) [
        | inl none ↦ inl (ap leaves other.0 ∙ none.0, ap entries other.0 ∙ none.1)
        | inr found ↦ inr (found.0, ap leaves other.0 ∙ found.1, ap entries other.0 ∙ found.2)
      ]
    ]

-- the record to which an identifier leads is that of its entry
pub record_of_parts : (format : Format) (file : List ℕ) (parts : List Part) (id : ℕ)
    → AllByRecursion (λ (part : Part). used_entries format (block_of file part.block) ≡ part.entries) parts
    → option_and_then (λ (leaf : TreePath). record_in format (block_of file leaf.block) id)
    (find (λ (leaf : TreePath). leaf.number == id) (flat_map leaves_in parts))
    ≡ option_map (λ (entry : Entry). entry.rec)
    (find (λ (entry : Entry). entry.id == id) (flat_map (λ (part : Part). part.entries) parts))
record_of_parts format file [] id used = refl
record_of_parts format file (p ∷ ps) id used =
    let is_leaf : TreePath → Bool = λ leaf. leaf.number == id in
    let is_entry : Entry → Bool = λ entry. entry.id == id in
    let rest : List TreePath = flat_map leaves_in ps in
    let later : List Entry = flat_map (λ (part : Part). part.entries) ps in
    let read = λ (leaf : TreePath). record_in format (block_of file leaf.block) id in
    let rec_of = λ (entry : Entry). entry.rec in
    elim (find_in p.block id p.entries) [
      | inl none ↦ ap (option_and_then read) (find_later is_leaf (leaves_in p) rest none.0)
          ∙ record_of_parts format file ps id used.1
          ∙ sym (ap (option_map rec_of) (find_later is_entry p.entries later none.1))
      | inr found ↦ ap (option_and_then read) (find_first is_leaf (leaves_in p) rest (leaf_at p.block found.0) found.1)
          ∙ ap (λ (es : List Entry). option_map rec_of (find is_entry es)) used.0
          ∙ ap (option_map rec_of) found.2
          ∙ sym (ap (option_map rec_of) (find_first is_entry p.entries later found.0 found.2))
    ]

find_pair : (entries : List Entry) (id : ℕ)
    → find_key nat_cmp id (map (λ (entry : Entry). (entry.id, entry.rec)) entries)
    ≡ option_map (λ (entry : Entry). entry.rec) (find (λ (entry : Entry). entry.id == id) entries)
find_pair [] id = refl
find_pair (e ∷ es) id =
    let later : Option Rec = find_key nat_cmp id (map (λ (entry : Entry). (entry.id, entry.rec)) es) in
    let first = λ (b : Bool). cond b (Some e) (find (λ (entry : Entry). entry.id == id) es) in
    elim (eqb_tells e.id id) [
      | inl same ↦ ap (λ (b : Bool). cond b (Some e.rec) later) (unsigned_tied id e.id ∙ eq-eqb id e.id (sym same.1))
          ∙ sym (ap (λ (b : Bool). option_map (λ (entry : Entry). entry.rec) (first b)) same.0)
      | inr other ↦
          ap (λ (b : Bool). cond b (Some e.rec) later) (unsigned_tied id e.id ∙ ne_eqb id e.id (λ e'. other.1 (sym e')))
          ∙ find_pair es id ∙ sym (ap (λ (b : Bool). option_map (λ (entry : Entry). entry.rec) (first b)) other.0)
    ]

-- the record of an identifier in the map of a list
pub get_record : (entries : List Entry) (id : ℕ)
    → get (records_of entries) id
    ≡ option_map (λ (entry : Entry). entry.rec) (find (λ (entry : Entry). entry.id == id) entries)
get_record entries id =
    get-from_entries nat_cmp_total (map (λ (entry : Entry). (entry.id, entry.rec)) entries) id ∙ find_pair entries id
