-- An entry that was overwritten where the leaf of its identifier leads: it is the record of that identifier.
use Rattle.std.proofs.Common.{◌≡◌, ℕ, ◌+◌, ◌≤◌, Bool, cond, ◌==◌, ◌&&◌, nat_le, List, [], ◌∷◌, length, find, Some, None}
use Rattle.std.proofs.Common.{option_and_then, refl, sym, ap, subst, ◌∙◌, inl, inr, arith}
use Rattle.std.proofs.lemmas.Bool.{cases_Bool, cases_eq}
use Rattle.std.specs.FinMap.{get, insert}
use Rattle.std.specs.List.{AllByRecursion}
use Rattle.quota_types.specs.declared.file_kind.Format.{Format}
use Rattle.quota_types.specs.declared.record.Entry.{Entry}
use Rattle.quota_types.specs.declared.record.Rec.{Rec}
use Rattle.quota_types.specs.Times.{StandsIn, times}
use Rattle.file_blocks.specs.Block.{block_of}
use Rattle.quota_value.specs.QuotaValue.{Records}
use Rattle.quota_types.proofs.BytesLemmas.{number_same}
use Rattle.free_chains.specs.declared.heads.Heads.{Heads}
use Rattle.quota_radix.specs.declared.tree_path.TreePath.{TreePath}
use Rattle.quota_radix.specs.Tree.{blocks_of, ids_at, leaves, tree_blocks}
use Rattle.quota_radix.proofs.PathLemmas.{data_block_of_id, leaves_lead}
use Rattle.tree_meaning.specs.Entries.{used_ids}
use Rattle.tree_meaning.specs.IsTree.{IsTree}
use Rattle.tree_meaning.specs.Loose.{Loose, loose_of}
use Rattle.tree_meaning.specs.Roles.{counts_as_data, data_with}
use Rattle.tree_meaning.specs.TreeFile.{record_by_leaves, record_in}
use Rattle.tree_meaning.proofs.EntryChangeLemmas.{overwritten_ids, overwritten_other, overwritten_own, overwritten_room}
use Rattle.block_changes.specs.EntryChanges.{RewritesEntry}
use Rattle.block_changes.proofs.OneBlockLemmas.{changed, count_of, data_no_tree, leaves_same, records_stay}
use Rattle.block_changes.proofs.OneLeafLemmas.{inserted_own, inserted_rest}

-- what holds of each leaf holds of one that is found
found_holds : (P : TreePath → Type 0) (test : TreePath → Bool) (ps : List TreePath) (leaf : TreePath)
    → find test ps ≡ Some leaf → AllByRecursion P ps → P leaf
found_holds P test [] leaf found all = absurd cc
found_holds P test (p ∷ ps) leaf found all = elim (cases_Bool (test p)) [
  | inl passes ↦
      let some : Some p ≡ Some leaf = sym (ap (λ (b : Bool). cond b (Some p) (find test ps)) passes) ∙ found in
      let same : p ≡ leaf = cc in
      subst P same all.0
  | inr fails ↦ found_holds P test ps leaf (sym (ap (λ (b : Bool). cond b (Some p) (find test ps)) fails) ∙ found) all.1
]

module _ (held : List ℕ) (format : Format) (old new : List ℕ) (len : ℕ) (heads : Heads) (records : Records)
    (block place id : ℕ) (rec : Rec)
    (tree : IsTree (loose_of held None None) format old len heads records)
    (found : find (λ (leaf : TreePath). leaf.number == id) (leaves old heads.blocks) ≡ Some (record {
      number = id;
      block = block;
    }))
    (rewrites : RewritesEntry format block place (record { id = id; rec = rec }) old new) where
  abbrev loose : Loose
  loose = loose_of held None None

  abbrev entry : Entry
  entry = record { id = id; rec = rec }

  abbrev old_leaves : List TreePath
  old_leaves = leaves old heads.blocks

  -- the identifier leads to the block, so this is data
  leads_there : StandsIn (ids_at old_leaves block) id
  leads_there =
      found_holds (λ (leaf : TreePath). StandsIn (ids_at old_leaves leaf.block) leaf.number)
      (λ (leaf : TreePath). leaf.number == id) old_leaves
      (record { number = id; block = block }) found (leaves_lead old heads.blocks)

  is_data : StandsIn (data_with loose old heads.blocks) block
  is_data = data_block_of_id old heads.blocks block id leads_there

  no_tree : times (tree_blocks old heads.blocks) block ≡ 0
  no_tree = data_no_tree loose format old len heads records tree block is_data

  same_ids : used_ids format (block_of new block) ≡ used_ids format (block_of old block)
  same_ids = overwritten_ids format place entry (block_of old block) (block_of new block) rewrites.overwrites

  same_counts : counts_as_data loose new heads.blocks block ≡ counts_as_data loose old heads.blocks block
  same_counts =
      ap (λ (ps : List TreePath). nat_le 1 (times (blocks_of ps) block))
      (leaves_same loose format old new len heads records block tree no_tree rewrites.keeps)

  record_now : (number : ℕ) → get (insert records id rec) number ≡ record_by_leaves format new old_leaves number
  record_now number = elim (cases_eq id number) [
    | inl own ↦ subst (λ (n : ℕ). get (insert records id rec) n ≡ record_by_leaves format new old_leaves n) own
        (inserted_own records id rec
        ∙ sym (ap (option_and_then (λ (leaf : TreePath). record_in format (block_of new leaf.block) id)) found
        ∙ overwritten_own format place entry (block_of old block) (block_of new block) rewrites.overwrites
        (tree.filled.one_entry block id leads_there)))
    | inr other ↦ inserted_rest records id number rec other ∙ tree.each_record number
        ∙ sym (records_stay loose format old new len heads records block tree no_tree rewrites.keeps number
        (overwritten_other format place entry (block_of old block) (block_of new block) rewrites.overwrites number
        (λ is. other (sym is))) old_leaves)
  ]

  pub overwritten : (now_len : ℕ) → len ≤ now_len
      → IsTree (loose_of held None None) format new now_len heads (insert records id rec)
  overwritten =
      changed loose format old new len heads records block tree no_tree rewrites.keeps loose (insert records id rec)
      (record { before = λ at low. rewrites.head.before at (omega (arith, low)); behind = rewrites.head.behind })
      (record {
        awaited = tt;
        held_own = ap (λ (b : Bool). times held block + count_of b) same_counts;
        held_others = λ number other. refl;
        listed_own = λ i. same_counts i
            && overwritten_room format place entry (block_of old block) (block_of new block) rewrites.overwrites i;
        listed_others = λ number other holds. refl;
        ids_others = λ number other. refl;
        one_entry = λ number stands.
            ap (λ (ids : List ℕ). times ids number) same_ids ∙ tree.filled.one_entry block number stands;
        stated = ap length same_ids ∙ tree.filled.stated block is_data
            ∙ sym (number_same 2 8 (block_of new block) (block_of old block)
            (λ k from to. rewrites.head.before k (omega (arith, to))));
        counted = ap length same_ids ∙ tree.filled.counted block is_data;
        each_record = record_now;
      })
