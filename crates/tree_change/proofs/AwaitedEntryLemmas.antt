-- The entry of a leaf that is awaited.
use Rattle.std.proofs.Common.{◌≡◌, ℕ, Bool, true, cond, ◌==◌, if◌then◌else◌, List, [], ◌∷◌, map, filter, find, Option}
use Rattle.std.proofs.Common.{Some, None, option_map, option_and_then, refl, sym, ap, subst, ◌∙◌, inl, inr, arith}
use Rattle.std.proofs.Common.{eq-eqb, le-leb, ne_eqb}
use Rattle.std.specs.Prelude.{IsSome}
use Rattle.std.specs.FinMap.{get}
use Rattle.quota_types.specs.declared.file_kind.Format.{Format}
use Rattle.quota_types.specs.declared.record.Entry.{Entry}
use Rattle.quota_types.specs.declared.record.Rec.{Rec}
use Rattle.quota_types.specs.Times.{StandsIn, times}
use Rattle.quota_types.proofs.TimesLemmas.{times-cons-same, times_cases}
use Rattle.file_blocks.specs.Block.{block_of}
use Rattle.quota_value.specs.QuotaValue.{Records}
use Rattle.quota_radix.specs.Tree.{blocks_of, ids_at, leaves, numbers_of}
use Rattle.quota_radix.specs.declared.tree_path.TreePath.{TreePath}
use Rattle.quota_radix.proofs.DescentLemmas.{leaf_led_to}
use Rattle.free_chains.specs.declared.heads.Heads.{Heads}
use Rattle.tree_meaning.specs.Entries.{used_entries, used_ids}
use Rattle.tree_meaning.specs.Loose.{loose_of}
use Rattle.tree_meaning.specs.Roles.{counts_as_data, data_with}
use Rattle.tree_meaning.specs.TreeFile.{record_in}
use Rattle.tree_meaning.proofs.EntryLemmas.{used_ids-entries}
use Rattle.tree_meaning.proofs.MovedLemmas.{times-data_with}
use Rattle.tree_change.specs.Shows.{IsWholeTree}
use Rattle.tree_change.specs.Unlinked.{HasAwaited}

-- an identifier of some entries has a record there
entry_found : (entries : List Entry) (id : ℕ) → StandsIn (map (λ (entry : Entry). entry.id) entries) id
    → IsSome (option_map (λ (entry : Entry). entry.rec) (find (λ (entry : Entry). entry.id == id) entries))
entry_found [] id stands = absurd (omega (arith, stands))
entry_found (e ∷ entries) id stands =
    let ids : List ℕ = map (λ (entry : Entry). entry.id) entries in
    let found : Bool → Type 0 = λ b. IsSome
    (option_map (λ (entry : Entry). entry.rec) (cond b (Some e) (find (λ (entry : Entry). entry.id == id) entries))) in
    elim (times_cases e.id ids id) [
      | inl same ↦ subst found (sym (eq-eqb e.id id same.0)) refl
      | inr other ↦ subst found (sym (ne_eqb e.id id other.0)) (entry_found entries id (omega (arith, other.1, stands)))
    ]

pub record_found : (format : Format) (block : List ℕ) (id : ℕ) → times (used_ids format block) id ≡ 1
    → IsSome (record_in format block id)
record_found format block id one =
    entry_found (used_entries format block) id
    (omega (arith, one, ap (λ (ids : List ℕ). times ids id) (used_ids-entries format block)))

-- a number that no path has leads to no leaf
none_found : (ps : List TreePath) (number : ℕ) → times (numbers_of ps) number ≡ 0
    → find (λ (path : TreePath). path.number == number) ps ≡ None
none_found [] number absent = refl
none_found (p ∷ ps) number absent = elim (times_cases p.number (numbers_of ps) number) [
  | inl same ↦ absurd (omega (arith, absent, same.1))
  | inr other ↦ ap (λ (b : Bool). cond b (Some p) (find (λ (path : TreePath). path.number == number) ps))
      (ne_eqb p.number number other.0)
      ∙ none_found ps number (omega (arith, absent, other.1))
]

module _ (held : List ℕ) (misplaced : Option ℕ) (format : Format) (file : List ℕ) (heads : Heads) (records : Records)
    (leaf : TreePath)
    (tree : IsWholeTree (loose_of held (Some leaf) misplaced) format file heads records) where
  counts : counts_as_data (loose_of held (Some leaf) misplaced) file heads.blocks leaf.block ≡ true
  counts =
      le-leb 1 (times (blocks_of (leaf ∷ leaves file heads.blocks)) leaf.block)
      (omega (arith, times-cons-same leaf.block (blocks_of (leaves file heads.blocks))))

  stands : StandsIn (data_with (loose_of held (Some leaf) misplaced) file heads.blocks) leaf.block
  stands =
      omega (
        arith,
        times-data_with (loose_of held (Some leaf) misplaced) file heads.blocks leaf.block tree.awaited,
        ap {B = ℕ} (λ (b : Bool). if b then 1 else 0) counts,
      )

  -- the leaf's identifier is one of those that lead to its block
  leads_there : StandsIn (ids_at (leaf ∷ leaves file heads.blocks) leaf.block) leaf.number
  leads_there =
      let here : TreePath → Bool = λ path. path.block == leaf.block in
      let rest : List TreePath = filter here (leaves file heads.blocks) in
      omega (
        arith,
        ap (λ (b : Bool). times (map (λ (path : TreePath). path.number) (cond b (leaf ∷ rest) rest)) leaf.number)
            (eq-eqb leaf.block leaf.block refl),
        times-cons-same leaf.number (numbers_of rest),
      )

  number_once : times (used_ids format (block_of file leaf.block)) leaf.number ≡ 1
  number_once = tree.filled.one_entry leaf.block leaf.number leads_there

  record_is : get records leaf.number ≡ record_in format (block_of file leaf.block) leaf.number
  record_is =
      tree.each_record leaf.number
      ∙ ap
      (λ (b : Bool). option_and_then (λ (other : TreePath). record_in format (block_of file other.block) leaf.number)
      (cond b (Some leaf) (find (λ (other : TreePath). other.number == leaf.number) (leaves file heads.blocks))))
      (eq-eqb leaf.number leaf.number refl)

  pub has_awaited : HasAwaited (loose_of held (Some leaf) misplaced) format file heads records leaf
  has_awaited = record {
    named = stands;
    stated = tree.filled.stated leaf.block stands;
    entry = number_once;
    kept = subst (λ (found : Option Rec). IsSome found) (sym record_is)
        (record_found format (block_of file leaf.block) leaf.number number_once);
    rec = record_is;
    gone = leaf_led_to file heads.blocks leaf.number tree.awaited.small
        ∙ ap (option_map (λ (path : TreePath). path.block))
        (none_found (leaves file heads.blocks) leaf.number tree.awaited.absent);
  }
