-- The next record of an opened tree file, and the answers that come behind it.
use Rattle.std.proofs.Common.{◌≡◌, ℕ, ◌^◌, ◌<◌, ◌≤◌, Bool, List, Option, Some, None, unwrap_or, sym, ap, subst, ◌∙◌}
use Rattle.std.proofs.Common.{inl, inr, arith}
use Rattle.std.specs.FinMap.{get}
use Rattle.std.specs.Option.{option_and_then, option_map}
use Rattle.quota_types.specs.Ids.{IsAfter}
use Rattle.quota_types.specs.declared.file_kind.Format.{Format}
use Rattle.quota_types.specs.declared.record.Entry.{Entry}
use Rattle.quota_types.specs.declared.record.Rec.{Rec}
use Rattle.outside.specs.Seen.{StoreSeen}
use Rattle.quota_value.specs.QuotaValue.{QuotaValue}
use Rattle.quota_value.specs.NextRecord.{IsNextAfter}
use Rattle.entry_codec.specs.Header.{header_of}
use Rattle.entry_codec.specs.Spelling.{AreOf}
use Rattle.entry_codec.specs.declared.header.Header.{Header}
use Rattle.file_blocks.specs.Block.{block_of}
use Rattle.quota_pages.specs.Used.{IsKnown, LooksAtSome, shown_over}
use Rattle.quota_pages.specs.declared.page_buffer.Pages.{Pages}
use Rattle.quota_pages.proofs.UsedLemmas.{shown_over-looks}
use Rattle.quota_radix.specs.Descent.{leaf_block, leaf_from}
use Rattle.quota_radix.specs.LeafAfter.{first_after, leaf_after}
use Rattle.quota_radix.specs.declared.tree_path.TreePath.{TreePath}
use Rattle.quota_radix.proofs.DescentLemmas.{option_cases}
use Rattle.tree_meaning.specs.TreeFile.{TreeStandsFor, record_in}
use Rattle.tree_file.specs.Coming.{HoldsComing}
use Rattle.tree_file.specs.Leaf.{entry_led_to}
use Rattle.tree_file.specs.declared.coming.Coming.{Coming}
use Rattle.tree_file.proofs.LookupLemmas.{next_leaf, none_next, one_next, one_record}

-- an identifier comes after another one where it is at least the first that does
first_is : (after : Option ℕ) (id : ℕ) → IsAfter after id → first_after after ≤ id
first_is None id is = omega arith
first_is (Some last) id is = omega (arith, is)

is_first : (after : Option ℕ) (id : ℕ) → first_after after ≤ id → IsAfter after id
is_first None id is = tt
is_first (Some last) id is = omega (arith, is)

-- where no leaf comes after an identifier, no record does
pub next_none : (header : Header) (file : List ℕ) (after : Option ℕ) (value : QuotaValue)
    → AreOf header (header_of file) → TreeStandsFor file value
    → None ≡ leaf_after file header.blocks after → IsNextAfter after value.records None
next_none header file after value of stands none =
    elim (option_cases (leaf_from file header.blocks (first_after after))) [
      | inl gone ↦ none_next header file after (first_after after) of (first_is after) (sym gone) value stands
      | inr there ↦ absurd
          (let no : None ≡ Some (there.0.number, there.0.block) =
          none ∙ ap (option_map (λ (leaf : TreePath). (leaf.number, leaf.block))) there.1 in cc)
    ]

-- the record of the leaf that comes after it is the next one
pub next_found : (header : Header) (file : List ℕ) (after : Option ℕ) (id block : ℕ) (rec : Rec) (value : QuotaValue)
    → AreOf header (header_of file) → TreeStandsFor file value → id < 2 ^ 32
    → Some (id, block) ≡ leaf_after file header.blocks after
    → record_in header.format (block_of file block) id ≡ Some rec
    → IsNextAfter after value.records (Some (record { id = id; rec = rec }))
next_found header file after id block rec value of stands low is found =
    elim (option_cases (leaf_from file header.blocks (first_after after))) [
      | inl none ↦ absurd
          (let no : Some (id, block) ≡ None =
          is ∙ ap (option_map (λ (leaf : TreePath). (leaf.number, leaf.block))) none in cc)
      | inr there ↦
          let leaf : TreePath = there.0 in
          let same : Some (id, block) ≡ Some (leaf.number, leaf.block) =
          is ∙ ap (option_map (λ (leaf : TreePath). (leaf.number, leaf.block))) there.1 in
          let id_is : leaf.number ≡ id = ap (λ (o : Option (ℕ × ℕ)). (unwrap_or o (0, 0)).0) (sym same) in
          let block_is : leaf.block ≡ block = ap (λ (o : Option (ℕ × ℕ)). (unwrap_or o (0, 0)).1) (sym same) in
          let here : Some leaf ≡ leaf_from file header.blocks (first_after after) = sym there.1 in
          let has : get value.records leaf.number ≡ Some rec =
          one_record header file leaf rec of (next_leaf file header.blocks (first_after after) leaf here).0
          ((λ i. record_in header.format (block_of file (block_is i)) (id_is i)) ∙ found) value stands in
          subst (λ (n : ℕ). IsNextAfter after value.records (Some (record { id = n; rec = rec }))) id_is
          (one_next header file after (first_after after) leaf rec of (first_is after) (is_first after) here
          value stands has)
    ]

-- So the entry to which the first leaf behind an identifier leads is none, or has its record.
module _ (format : Format) (file : List ℕ) (blocks : ℕ) (after : Option ℕ) where
  abbrev entry_by : ℕ × ℕ → Option Entry
  entry_by leaf =
      option_map (λ (rec : Rec). record { id = leaf.0; rec = rec }) (record_in format (block_of file leaf.1) leaf.0)

  pub entry_none : None ≡ leaf_after file blocks after → None ≡ entry_led_to format file blocks after
  entry_none none = ap (option_and_then entry_by) none

  pub entry_found : (id block : ℕ) (rec : Rec) → Some (id, block) ≡ leaf_after file blocks after
      → record_in format (block_of file block) id ≡ Some rec
      → Some (record { id = id; rec = rec }) ≡ entry_led_to format file blocks after
  entry_found id block rec is found =
      ap (option_map (λ (rec : Rec). record { id = id; rec = rec })) (sym found) ∙ ap (option_and_then entry_by) is

-- The answers that come next are kept of what was shown behind two look-ups, which is what was shown before them.
pub coming_before : {tells one two : Bool} {few more : ℕ} {before between now : StoreSeen} {old middle new : Pages}
    (coming : Coming) → LooksAtSome tells one few before between old middle
    → LooksAtSome tells two more between now middle new → IsKnown tells before old
    → (header : Header) (id block : ℕ) (value : QuotaValue)
    → AreOf header (header_of (shown_over before old)) → TreeStandsFor (shown_over before old) value
    → leaf_block (shown_over before old) header.blocks id ≡ Some block
    → (IsKnown tells now new → AreOf header (header_of (shown_over now new)) → TreeStandsFor (shown_over now new) value
    → leaf_block (shown_over now new) header.blocks id ≡ Some block
    → HoldsComing value.records coming)
    → HoldsComing value.records coming
coming_before coming first then known header id block value of stands leads next =
    let same = shown_over-looks then ∙ shown_over-looks first in
    next (then.known (first.known known))
    (subst (λ (file : List ℕ). AreOf header (header_of file)) (sym same) of)
    (subst (λ (file : List ℕ). TreeStandsFor file value) (sym same) stands)
    (subst (λ (file : List ℕ). leaf_block file header.blocks id ≡ Some block) (sym same) leads)
