-- The records that were read are those of the value that the file stands for.
use Rattle.std.proofs.Common.{◌≡◌, ℕ, ◌^◌, Bool, true, false, cond, ◌==◌, List, [], ◌∷◌, map, find, Option, Some, None}
use Rattle.std.proofs.Common.{option_and_then, option_map, refl, sym, ap, subst, ◌∙◌, inl, inr, nat_cmp, nat_eq}
use Rattle.std.specs.Prelude.{IsPermutation}
use Rattle.std.specs.Cmp.{nat_cmp_total, unsigned_tied, nat_eq_equiv}
use Rattle.std.specs.FinMap.{get, get-from_entries, nat_cmp-IsAntisymmetric, same_map}
use Rattle.std.specs.FinMap.Entries.{find as find_key}
use Rattle.std.specs.List.{IsDistinct}
use Rattle.std.specs.Map.{keys_of, lookup}
use Rattle.std.proofs.lemmas.Bool.Decides.{eqb_tells}
use Rattle.std.proofs.lemmas.Simd.{map-map}
use Rattle.quota_types.specs.declared.file_kind.Format.TheVariants.{V2R0}
use Rattle.quota_types.specs.declared.record.Entry.{Entry}
use Rattle.quota_types.specs.declared.record.Rec.{Rec}
use Rattle.quota_value.specs.Listed.{records_of}
use Rattle.quota_value.specs.QuotaValue.{QuotaValue}
use Rattle.byte_order.specs.declared.order.Order.TheVariants.{Big}
use Rattle.byte_order.specs.Words.{in_order}
use Rattle.quota_radix.specs.declared.tree_path.TreePath.{TreePath}
use Rattle.quota_radix.specs.Tree.{leaves}
use Rattle.quota_radix.proofs.PathLemmas.{Rises-paths}
use Rattle.file_blocks.specs.Block.{block_of}
use Rattle.tree_meaning.specs.TreeFile.{record_read, record_read_by, tree_record_in}
use Rattle.big_endian_files.specs.ReadBig.{record_of, records_at, records_in}
use Rattle.big_endian_files.proofs.PermutedLemmas.{distinct_rising, lookup_permuted}

-- an entry is found by its identifier, as its record is
found_in : (q : ℕ) (es : List Entry)
    → lookup (nat_eq q) (records_in es)
    ≡ option_map (λ (rec : Rec). Some rec) (find_key nat_cmp q (map (λ (e : Entry). (e.id, e.rec)) es))
found_in q [] = refl
found_in q (e ∷ es) =
    let rest : Option Rec = find_key nat_cmp q (map (λ (e : Entry). (e.id, e.rec)) es) in
    let first : Bool → Option (Option Rec) = λ b. option_map (λ (rec : Rec). Some rec) (cond b (Some e.rec) rest) in
    ap (λ (o : Option (Option Rec)). cond (nat_eq q e.id) (Some (Some e.rec)) o) (found_in q es)
    ∙ with_test (nat_eq q e.id)
    ∙ sym (ap first (unsigned_tied q e.id))
  where
    with_test : (b : Bool)
        → cond b (Some (Some e.rec))
        (option_map (λ (rec : Rec). Some rec) (find_key nat_cmp q (map (λ (e : Entry). (e.id, e.rec)) es)))
        ≡ option_map (λ (rec : Rec). Some rec)
        (cond b (Some e.rec) (find_key nat_cmp q (map (λ (e : Entry). (e.id, e.rec)) es)))
    with_test true = refl
    with_test false = refl

-- what a leaf has, where there is one
abbrev joined : Option (Option Rec) → Option Rec
joined o = option_and_then (λ (one : Option Rec). one) o

joined_some : (o : Option Rec) → joined (option_map (λ (rec : Rec). Some rec) o) ≡ o
joined_some None = refl
joined_some (Some rec) = refl

-- and so is the record to which an identifier leads
found_at : (file : List ℕ) (q : ℕ) (ps : List TreePath)
    → joined (lookup (nat_eq q) (records_at file ps)) ≡ record_read_by Big V2R0 file ps q
found_at file q [] = refl
found_at file q (p ∷ ps) =
    let at : TreePath → Option Rec = λ leaf. record_read Big V2R0 (block_of file leaf.block) q in
    let left : Bool → Option Rec =
    λ b. joined (cond b (Some (record_of file p)) (lookup (nat_eq q) (records_at file ps))) in
    let right : Bool → Option Rec =
    λ b. option_and_then at (cond b (Some p) (find (λ (leaf : TreePath). leaf.number == q) ps)) in
    elim (eqb_tells p.number q) [
      | inl same ↦
          ap left (nat_eq_equiv.symm q p.number ∙ same.0)
          ∙ ap (λ (n : ℕ). record_read Big V2R0 (block_of file p.block) n) same.1 ∙ sym (ap right same.0)
      | inr other ↦
          ap left (nat_eq_equiv.symm q p.number ∙ other.0) ∙ found_at file q ps ∙ sym (ap right other.0)
    ]

-- the identifiers of leaves differ
leaves_differ : (file : List ℕ) (words : List ℕ) (blocks : ℕ)
    → IsDistinct nat_eq (keys_of (records_at file (leaves words blocks)))
leaves_differ file words blocks =
    subst (IsDistinct nat_eq)
    (sym (map-map (λ (pair : ℕ × Option Rec). pair.0) (λ (leaf : TreePath). (leaf.number, record_of file leaf))
    (leaves words blocks)))
    (distinct_rising 0 (256 ^ 4) (leaves words blocks) (Rises-paths words blocks 4))

-- the records that were read of the leaves, in whichever order, are those of the value that the file stands for
pub records_read : (file : List ℕ) (blocks : ℕ) (value : QuotaValue) (list : List Entry)
    → ((id : ℕ) → get value.records id ≡ tree_record_in Big V2R0 file blocks id)
    → IsPermutation (records_at file (leaves (in_order Big file) blocks)) (records_in list)
    → records_of list ≡ value.records
records_read file blocks value list stands moved =
    let words : List ℕ = in_order Big file in
    same_map nat_cmp_total nat_cmp-IsAntisymmetric (records_of list) value.records (λ q.
    get-from_entries nat_cmp_total (map (λ (e : Entry). (e.id, e.rec)) list) q
    ∙ sym (joined_some (find_key nat_cmp q (map (λ (e : Entry). (e.id, e.rec)) list)))
    ∙ sym (ap joined (found_in q list))
    ∙ sym (ap joined (lookup_permuted q (records_at file (leaves words blocks)) (records_in list) moved
    (leaves_differ file words blocks)))
    ∙ found_at file q (leaves words blocks)
    ∙ sym (stands q))
