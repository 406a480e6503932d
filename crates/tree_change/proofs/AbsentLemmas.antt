-- An identifier has a record exactly where its way leads to a data block: where it has five blocks.
use Rattle.std.proofs.Common.{◌≡◌, ℕ, ◌^◌, ◌<◌, ◌≤◌, Bool, cond, ◌==◌, List, [], ◌∷◌, length, get_or, find, slice_get}
use Rattle.std.proofs.Common.{Option, Some, None, option_and_then, refl, sym, ap, subst, ◌∙◌, inl, inr, arith}
use Rattle.std.specs.Prelude.{IsSome}
use Rattle.std.specs.FinMap.{get}
use Rattle.std.specs.List.{AllByRecursion}
use Rattle.std.proofs.lemmas.Bool.{cases_Bool}
use Rattle.quota_types.specs.declared.file_kind.Format.{Format}
use Rattle.quota_types.specs.declared.record.Rec.{Rec}
use Rattle.quota_types.specs.Times.{StandsIn}
use Rattle.file_blocks.specs.Block.{block_of}
use Rattle.quota_value.specs.QuotaValue.{Records}
use Rattle.quota_radix.specs.Descent.{leaf_block}
use Rattle.quota_radix.specs.Tree.{ids_at, leaves}
use Rattle.quota_radix.specs.OnWay.{blocks_on_way}
use Rattle.quota_radix.specs.declared.tree_path.TreePath.{TreePath}
use Rattle.quota_radix.proofs.AlongLemmas.{fifth_is_leaf}
use Rattle.quota_radix.proofs.DescentLemmas.{not_some, some_same}
use Rattle.quota_radix.proofs.LeafLemmas.{IsLeaf, leaf_of_block, no_leaf_of_block}
use Rattle.quota_radix.proofs.PathLemmas.{leaves_lead}
use Rattle.free_chains.specs.declared.heads.Heads.{Heads}
use Rattle.tree_meaning.specs.Loose.{loose_of}
use Rattle.tree_meaning.specs.TreeFile.{record_in}
use Rattle.tree_change.specs.Shows.{IsWholeTree}
use Rattle.tree_change.proofs.AwaitedEntryLemmas.{record_found}

-- a way of fewer than five blocks has no fifth one
no_fifth : (way : List ℕ) → length way < 5 → slice_get way 4 ≡ None
no_fifth [] few = refl
no_fifth (a ∷ []) few = refl
no_fifth (a ∷ b ∷ []) few = refl
no_fifth (a ∷ b ∷ c ∷ []) few = refl
no_fifth (a ∷ b ∷ c ∷ d ∷ []) few = refl
no_fifth (a ∷ b ∷ c ∷ d ∷ e ∷ rest) few = absurd (omega (arith, few))

-- and one of five does
pub fifth : (way : List ℕ) → 5 ≤ length way → slice_get way 4 ≡ Some (get_or way 4 0)
fifth [] some = absurd (omega (arith, some))
fifth (a ∷ []) some = absurd (omega (arith, some))
fifth (a ∷ b ∷ []) some = absurd (omega (arith, some))
fifth (a ∷ b ∷ c ∷ []) some = absurd (omega (arith, some))
fifth (a ∷ b ∷ c ∷ d ∷ []) some = absurd (omega (arith, some))
fifth (a ∷ b ∷ c ∷ d ∷ e ∷ rest) some = refl

-- what holds of each path holds of the one that is found
each_found : (P : TreePath → Type 0) (test : TreePath → Bool) (ps : List TreePath) (p : TreePath)
    → find test ps ≡ Some p → AllByRecursion P ps → P p
each_found P test [] p found all = absurd (not_some p (sym found))
each_found P test (q ∷ ps) p found all = elim (cases_Bool (test q)) [
  | inl passes ↦ subst P (some_same q p (sym (ap (λ (b : Bool). cond b (Some q) (find test ps)) passes) ∙ found)) all.0
  | inr fails ↦ each_found P test ps p (sym (ap (λ (b : Bool). cond b (Some q) (find test ps)) fails) ∙ found) all.1
]

module _ (held : List ℕ) (format : Format) (file : List ℕ) (heads : Heads) (records : Records) (id : ℕ)
    (small : id < 2 ^ 32)
    (tree : IsWholeTree (loose_of held None None) format file heads records) where
  -- the record of an identifier by the leaf that it may have
  record_by : (found : Option TreePath)
      → find (λ (leaf : TreePath). leaf.number == id) (leaves file heads.blocks) ≡ found
      → get records id ≡ option_and_then (λ (leaf : TreePath). record_in format (block_of file leaf.block) id) found
  record_by found is =
      tree.each_record id
      ∙ ap (option_and_then (λ (leaf : TreePath). record_in format (block_of file leaf.block) id)) is

  -- an identifier whose way has fewer than five blocks has no record
  pub absent_by_way : length (blocks_on_way file heads.blocks id) < 5 → get records id ≡ None
  absent_by_way few =
      record_by None (no_leaf_of_block file heads.blocks id small
      (sym (no_fifth (blocks_on_way file heads.blocks id) few) ∙ fifth_is_leaf file heads.blocks id))

  -- and one that leads to a data block has
  pub there_by_leaf : (block : ℕ) → leaf_block file heads.blocks id ≡ Some block → IsSome (get records id)
  there_by_leaf block leads =
      let leaf : TreePath = record { number = id; block = block } in
      let is : IsLeaf file heads.blocks leaf = leaf_of_block file heads.blocks id block small (sym leads) in
      let there : StandsIn (ids_at (leaves file heads.blocks) block) id =
      each_found (λ (other : TreePath). StandsIn (ids_at (leaves file heads.blocks) other.block) other.number)
      (λ (other : TreePath). other.number == id) (leaves file heads.blocks) leaf is
      (leaves_lead file heads.blocks) in
      subst (λ (found : Option Rec). IsSome found) (sym (record_by (Some leaf) is))
      (record_found format (block_of file block) id (tree.filled.one_entry block id there))

  -- as one does whose way has five
  pub there_by_way : 5 ≤ length (blocks_on_way file heads.blocks id) → IsSome (get records id)
  there_by_way five =
      there_by_leaf (get_or (blocks_on_way file heads.blocks id) 4 0)
      (sym (fifth_is_leaf file heads.blocks id) ∙ fifth (blocks_on_way file heads.blocks id) five)
