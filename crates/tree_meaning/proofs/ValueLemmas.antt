-- A sound tree file stands for the value whose records are those of its leaves.
use Rattle.std.proofs.Common.{◌≡◌, ℕ, suc, ◌^◌, ◌<◌, ◌≤◌, Bool, true, false, cond, ◌&&◌, ◌==◌, T, List, [], ◌∷◌, length}
use Rattle.std.proofs.Common.{map, find, Option, Some, option_and_then, option_map, refl, sym, ap, subst, ◌∙◌, inl, inr}
use Rattle.std.proofs.Common.{arith, nat_cmp, eq-eqb, ne_eqb, ◌*◌}
use Rattle.std.specs.List.{AllByRecursion}
use Rattle.std.specs.Ordering.{is_lt}
use Rattle.std.specs.declared.cmp.Ordering.TheVariants.{Less}
use Rattle.std.specs.Cmp.{nat_cmp_is, unsigned_tied}
use Rattle.std.specs.FinMap.{from_sorted, len, get-from_sorted, entries-from_sorted, len-entries, is_sorted}
use Rattle.std.specs.FinMap.Entries.{below_all, find as find_key}
use Rattle.std.proofs.lemmas.Bool.Decides.{eqb_tells}
use Rattle.quota_types.specs.declared.file_kind.Format.{Format}
use Rattle.quota_types.specs.declared.file_kind.Kind.{Kind}
use Rattle.quota_types.specs.declared.record.Entry.{Entry}
use Rattle.quota_types.specs.declared.record.Rec.{Rec}
use Rattle.quota_value.specs.QuotaValue.{QuotaValue}
use Rattle.entry_codec.specs.Header.{format_of, header_of, magic_of}
use Rattle.entry_codec.specs.Spelling.{AreOf}
use Rattle.quota_radix.specs.declared.tree_path.TreePath.{TreePath}
use Rattle.file_blocks.specs.Block.{block_of}
use Rattle.quota_types.specs.Times.{StandsIn}
use Rattle.byte_order.specs.declared.order.Order.{Order}
use Rattle.byte_order.specs.Words.{in_order}
use Rattle.byte_order.proofs.WordsLemmas.{block_in_order}
use Rattle.tree_meaning.specs.Entries.{entries_in, stated_in, used_entries, used_ids}
use Rattle.quota_radix.specs.Tree.{numbers_of, ids_at, leaves}
use Rattle.tree_meaning.specs.Ids.{ids_in}
use Rattle.tree_meaning.specs.Loose.{nothing_loose}
use Rattle.tree_meaning.specs.Roles.{Chained, Filled, FilledBy, OneRole}
use Rattle.tree_meaning.specs.TreeFile.{IsSound, IsSoundIn, TreeStandsForIn, record_in, record_read}
use Rattle.quota_types.proofs.TimesLemmas.{times_cases}
use Rattle.quota_types.proofs.ListLemmas.{AllByRecursion-weaker}
use Rattle.quota_radix.proofs.PathLemmas.{Rises, Rises-paths, leaves_lead}
use Rattle.tree_meaning.proofs.EntryLemmas.{used_ids-entries}
use Rattle.tree_meaning.proofs.InOrderLemmas.{used_ids-in_order}
use Rattle.entry_codec.specs.declared.header.Header.{Header}

-- an identifier that some entry has is found
pub found_entry : (entries : List Entry) (id : ℕ) → StandsIn (map (λ (entry : Entry). entry.id) entries) id
    → (rec : Rec)
    × (option_map (λ (entry : Entry). entry.rec) (find (λ (entry : Entry). entry.id == id) entries) ≡ Some rec)
found_entry [] id stands = absurd (omega arith)
found_entry (e ∷ entries) id stands =
    let later : option_map (λ (entry : Entry). entry.rec) (find (λ (entry : Entry). entry.id == id) (e ∷ entries))
    ≡ option_map (λ (entry : Entry). entry.rec)
    (cond (e.id == id) (Some e) (find (λ (entry : Entry). entry.id == id) entries)) = refl in
    elim (eqb_tells e.id id) [
      | inl same ↦ (
        e.rec,
        later ∙ ap (λ (b : Bool). option_map (λ (entry : Entry). entry.rec)
            (cond b (Some e) (find (λ (entry : Entry). entry.id == id) entries))) same.0,
      )
      | inr other ↦
          let rest = found_entry entries id (elim (times_cases e.id (map (λ (entry : Entry). entry.id) entries) id) [
            | inl same ↦ absurd (other.1 same.0)
            | inr else' ↦ omega (arith, stands, else'.1)
          ]) in (
            rest.0,
            later ∙ ap (λ (b : Bool). option_map (λ (entry : Entry). entry.rec)
                (cond b (Some e) (find (λ (entry : Entry). entry.id == id) entries))) other.0 ∙ rest.1,
          )
    ]

-- an identifier that uses an entry of a block has a record there
pub found_used : (format : Format) (block : List ℕ) (id : ℕ) → StandsIn (used_ids format block) id
    → (rec : Rec) × (record_in format block id ≡ Some rec)
found_used format block id stands =
    found_entry (used_entries format block) id
    (subst (λ (ids : List ℕ). StandsIn ids id) (used_ids-entries format block) stands)

-- and one that uses the words of an entry has a record in it, as it is read in an order
found_read : (order : Order) (format : Format) (block : List ℕ) (id : ℕ)
    → StandsIn (used_ids format (in_order order block)) id
    → (rec : Rec) × (record_read order format block id ≡ Some rec)
found_read order format block id stands =
    found_entry (entries_in order format block) id
    (subst (λ (ids : List ℕ). StandsIn ids id) (used_ids-in_order order format block) stands)

-- a leaf has a record
abbrev HasRecord : Order → Format → List ℕ → TreePath → Type 0
HasRecord order format file leaf =
    (rec : Rec) × (record_read order format (block_of file leaf.block) leaf.number ≡ Some rec)

leaves_have_records : (order : Order) (file : List ℕ) (blocks : ℕ) (format : Format)
    → FilledBy (stated_in order file) nothing_loose format (in_order order file) blocks
    → AllByRecursion (HasRecord order format file) (leaves (in_order order file) blocks)
leaves_have_records order file blocks format filled =
    let words : List ℕ = in_order order file in
    AllByRecursion-weaker (λ (leaf : TreePath). StandsIn (ids_at (leaves words blocks) leaf.block) leaf.number)
    (HasRecord order format file) (leaves words blocks)
    (λ leaf stands. found_read order format (block_of file leaf.block) leaf.number
    (subst (λ (block : List ℕ). StandsIn (used_ids format block) leaf.number) (block_in_order order file leaf.block)
    (omega (arith, filled.one_entry leaf.block leaf.number stands))))
    (leaves_lead words blocks)

-- the identifiers of leaves with their records
leaf_records : (order : Order) (format : Format) (file : List ℕ) (ps : List TreePath)
    → AllByRecursion (HasRecord order format file) ps
    → List (ℕ × Rec)
leaf_records order format file [] all = []
leaf_records order format file (p ∷ ps) all = (p.number, all.0.0) ∷ leaf_records order format file ps all.1

length-leaf_records : (order : Order) (format : Format) (file : List ℕ) (ps : List TreePath)
    (all : AllByRecursion (HasRecord order format file) ps) → length (leaf_records order format file ps all) ≡ length ps
unfolding leaf_records
length-leaf_records order format file [] all = refl
length-leaf_records order format file (p ∷ ps) all = ap suc (length-leaf_records order format file ps all.1)

both_true : (a b : Bool) → T a → T b → T (a && b)
both_true true b p q = q
both_true false b p q = p

below_records : (order : Order) (format : Format) (file : List ℕ) (low high : ℕ) (ps : List TreePath)
    (all : AllByRecursion (HasRecord order format file) ps) (n : ℕ) → Rises low ps high → n < low
    → T (below_all nat_cmp n (leaf_records order format file ps all))
unfolding leaf_records
below_records order format file low high [] all n r h = tt
below_records order format file low high (p ∷ ps) all n r h =
    let from : low ≤ p.number = r.0 in
    let less : Less ≡ nat_cmp n p.number = nat_cmp_is n p.number Less (omega arith) in
    both_true (is_lt (nat_cmp n p.number)) (below_all nat_cmp n (leaf_records order format file ps all.1))
    (subst (λ o. T (is_lt o)) less tt)
    (below_records order format file (suc p.number) high ps all.1 n r.1 (omega arith))

sorted_records : (order : Order) (format : Format) (file : List ℕ) (low high : ℕ) (ps : List TreePath)
    (all : AllByRecursion (HasRecord order format file) ps) → Rises low ps high
    → T (is_sorted nat_cmp (leaf_records order format file ps all))
unfolding leaf_records
sorted_records order format file low high [] all r = tt
sorted_records order format file low high (p ∷ ps) all r =
    both_true (below_all nat_cmp p.number (leaf_records order format file ps all.1))
    (is_sorted nat_cmp (leaf_records order format file ps all.1))
    (below_records order format file (suc p.number) high ps all.1 p.number r.1 (omega arith))
    (sorted_records order format file (suc p.number) high ps all.1 r.1)

-- the record of an identifier among those of the leaves
find-leaf_records : (order : Order) (format : Format) (file : List ℕ) (ps : List TreePath)
    (all : AllByRecursion (HasRecord order format file) ps) (id : ℕ)
    → find_key nat_cmp id (leaf_records order format file ps all)
    ≡ option_and_then (λ (leaf : TreePath). record_read order format (block_of file leaf.block) id)
    (find (λ (leaf : TreePath). leaf.number == id) ps)
unfolding leaf_records
find-leaf_records order format file [] all id = refl
find-leaf_records order format file (p ∷ ps) all id =
    let later : Option Rec = find_key nat_cmp id (leaf_records order format file ps all.1) in
    let first = λ (b : Bool). cond b (Some p) (find (λ (leaf : TreePath). leaf.number == id) ps) in
    let read = λ (leaf : TreePath). record_read order format (block_of file leaf.block) id in
    elim (eqb_tells p.number id) [
      | inl same ↦
          ap (λ (b : Bool). cond b (Some all.0.0) later) (unsigned_tied id p.number ∙ eq-eqb id p.number (sym same.1))
          ∙ sym (ap (λ (b : Bool). option_and_then read (first b)) same.0
          ∙ ap (record_read order format (block_of file p.block)) (sym same.1) ∙ all.0.1)
      | inr other ↦ ap (λ (b : Bool). cond b (Some all.0.0) later)
          (unsigned_tied id p.number ∙ ne_eqb id p.number (λ e. other.1 (sym e)))
          ∙ find-leaf_records order format file ps all.1 id
          ∙ sym (ap (λ (b : Bool). option_and_then read (first b)) other.0)
    ]

-- the value of a sound file
pub sound_value : (order : Order) (file : List ℕ) (kind : Kind) (format : Format)
    → (header_of (in_order order file)).magic ≡ magic_of kind
    → format_of (header_of (in_order order file)).version ≡ Some format
    → IsSoundIn order format file (header_of (in_order order file))
    → (value : QuotaValue) × TreeStandsForIn order file value × (value.kind ≡ kind) × (value.format ≡ format)
    × (len value.records ≡ length (leaves (in_order order file) (header_of (in_order order file)).blocks))
sound_value order file kind format magic version sound =
    let words : List ℕ = in_order order file in
    let all : AllByRecursion (HasRecord order format file) (leaves words (header_of words).blocks) =
    leaves_have_records order file (header_of words).blocks format sound.filled in
    let ordered : T (is_sorted nat_cmp (leaf_records order format file (leaves words (header_of words).blocks) all)) =
    sorted_records order format file 0 (256 ^ 4) (leaves words (header_of words).blocks) all
    (Rises-paths words (header_of words).blocks 4) in
    let value : QuotaValue = record {
      kind = kind;
      format = format;
      grace = record { block = (header_of words).block_grace; inode = (header_of words).inode_grace };
      flags = (header_of words).flags;
      records = from_sorted (leaf_records order format file (leaves words (header_of words).blocks) all);
    } in (
      value,
      record {
        magic = magic;
        version = version;
        block_grace = refl;
        inode_grace = refl;
        flags = refl;
        sound = sound;
        records =
            λ id.
            get-from_sorted nat_cmp
            (leaf_records order format file (leaves words (header_of words).blocks) all) id ordered
            ∙ find-leaf_records order format file (leaves words (header_of words).blocks) all id;
      },
      refl,
      refl,
      len-entries (from_sorted (leaf_records order format file (leaves words (header_of words).blocks) all))
          ∙ ap length
          (entries-from_sorted nat_cmp
          (leaf_records order format file (leaves words (header_of words).blocks) all) ordered)
          ∙ length-leaf_records order format file (leaves words (header_of words).blocks) all,
    )

-- the identifiers of leaves with their records are those of the leaves
leaf_record_ids : (order : Order) (format : Format) (file : List ℕ) (ps : List TreePath)
    (all : AllByRecursion (HasRecord order format file) ps)
    → map (λ (pair : ℕ × Rec). pair.0) (leaf_records order format file ps all) ≡ numbers_of ps
unfolding leaf_records
leaf_record_ids order format file [] all = refl
leaf_record_ids order format file (p ∷ ps) all =
    ap (λ (ids : List ℕ). p.number ∷ ids) (leaf_record_ids order format file ps all.1)

-- the identifiers of that value are those of the leaves
pub sound_value_ids : (order : Order) (file : List ℕ) (kind : Kind) (format : Format)
    (magic : (header_of (in_order order file)).magic ≡ magic_of kind)
    (version : format_of (header_of (in_order order file)).version ≡ Some format)
    (sound : IsSoundIn order format file (header_of (in_order order file)))
    → ids_in (sound_value order file kind format magic version sound).0.records
    ≡ numbers_of (leaves (in_order order file) (header_of (in_order order file)).blocks)
unfolding sound_value
sound_value_ids order file kind format magic version sound =
    let words : List ℕ = in_order order file in
    let all : AllByRecursion (HasRecord order format file) (leaves words (header_of words).blocks) =
    leaves_have_records order file (header_of words).blocks format sound.filled in
    let ordered : T (is_sorted nat_cmp (leaf_records order format file (leaves words (header_of words).blocks) all)) =
    sorted_records order format file 0 (256 ^ 4) (leaves words (header_of words).blocks) all
    (Rises-paths words (header_of words).blocks 4) in
    ap (λ (pairs : List (ℕ × Rec)). map (λ (pair : ℕ × Rec). pair.0) pairs)
    (entries-from_sorted nat_cmp (leaf_records order format file (leaves words (header_of words).blocks) all) ordered)
    ∙ leaf_record_ids order format file (leaves words (header_of words).blocks) all

pub sound : (file : List ℕ) (header : Header) → AreOf header (header_of file) → 2 ≤ header.blocks
    → (2 < header.blocks → 1024 * header.blocks ≤ length file)
    → OneRole nothing_loose file header.blocks header.free
    → Chained nothing_loose header.format file header.blocks header.first
    → Filled nothing_loose header.format file header.blocks
    → IsSound header.format file (length file) (header_of file)
sound file header are two long roles chained filled = record {
  two = subst (λ (b : ℕ). 2 ≤ b) (sym are.blocks) two;
  long = subst (λ (b : ℕ). 2 < b → 1024 * b ≤ length file) (sym are.blocks) long;
  roles = subst (λ (b : ℕ). OneRole nothing_loose file b (header_of file).free) (sym are.blocks)
      (subst (λ (h : ℕ). OneRole nothing_loose file header.blocks h) (sym are.free) roles);
  chained = subst (λ (b : ℕ). Chained nothing_loose header.format file b (header_of file).first) (sym are.blocks)
      (subst (λ (h : ℕ). Chained nothing_loose header.format file header.blocks h) (sym are.first) chained);
  filled = subst (λ (b : ℕ). Filled nothing_loose header.format file b) (sym are.blocks) filled;
}
