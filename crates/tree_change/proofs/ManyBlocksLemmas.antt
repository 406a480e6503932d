-- A tree with a record has more than the header and the root, so that its file is as long as its blocks.
use Rattle.std.proofs.Common.{◌≡◌, ℕ, ◌*◌, ◌^◌, ◌<◌, ◌≤◌, List, length, get_or, Option, Some, None, refl, sym, ap}
use Rattle.std.proofs.Common.{subst, ◌∙◌, inl, inr, arith}
use Rattle.std.specs.Prelude.{IsSome}
use Rattle.std.specs.FinMap.{get}
use Rattle.std.proofs.lemmas.Bool.{cases_eq, cases_lt, false≢true}
use Rattle.quota_types.specs.declared.file_kind.Format.{Format}
use Rattle.quota_types.specs.declared.record.Rec.{Rec}
use Rattle.quota_types.specs.Times.{StandsIn, times}
use Rattle.quota_value.specs.QuotaValue.{Records}
use Rattle.quota_radix.specs.Descent.{leaf_block}
use Rattle.quota_radix.specs.Tree.{tree_blocks}
use Rattle.quota_radix.specs.OnWay.{blocks_on_way}
use Rattle.quota_radix.proofs.AlongLemmas.{fifth_is_leaf}
use Rattle.quota_radix.proofs.LinkPathLemmas.{last_in_tree}
use Rattle.free_chains.specs.declared.heads.Heads.{Heads}
use Rattle.tree_meaning.specs.Loose.{Loose, loose_of}
use Rattle.tree_meaning.specs.Roles.{data_with}
use Rattle.tree_meaning.proofs.MovedLemmas.{times-roles}
use Rattle.block_changes.proofs.OneBlockLemmas.{one_role}
use Rattle.tree_change.specs.Shows.{IsWholeTree}
use Rattle.tree_change.proofs.AbsentLemmas.{absent_by_way, fifth}
use Rattle.tree_change.proofs.FreshLemmas.{role_low}
use Rattle.tree_change.proofs.HeaderStaysLemmas.{header_apart}
use Rattle.tree_change.proofs.OverLemmas.{led_data}

-- the root is a block of the tree
root_stands : (file : List ℕ) (blocks : ℕ) → StandsIn (tree_blocks file blocks) 1
root_stands file blocks = last_in_tree file blocks 0 0 1 (omega arith) (omega arith) refl

module _ (held : List ℕ) (format : Format) (file : List ℕ) (heads : Heads) (records : Records) (id : ℕ)
    (small : id < 2 ^ 32)
    (tree : IsWholeTree (loose_of held None None) format file heads records) where
  -- a data block is neither the header's nor the root
  three_by_leaf : (block : ℕ) → leaf_block file heads.blocks id ≡ Some block → 2 < heads.blocks
  three_by_leaf block led =
      let loose : Loose = loose_of held None None in
      let named : StandsIn (data_with loose file heads.blocks) block =
      led_data held format file heads records block id small led tree in
      let low : block < heads.blocks = role_low loose file heads.blocks heads.free tree.roles block
      (omega (arith, named, times-roles loose file heads.blocks tree.roles.free block)) in
      elim (cases_eq block 0) [
        | inl none ↦ absurd (omega (
          arith,
          (header_apart loose file heads.blocks heads.free tree.roles).2,
          ap (times (data_with loose file heads.blocks)) none,
          named,
        ))
        | inr some ↦ elim (cases_eq block 1) [
          | inl root ↦ absurd (omega (
            arith,
            named,
            ap (times (data_with loose file heads.blocks)) root,
            root_stands file heads.blocks,
            one_role loose file heads.blocks heads.free tree.roles 1,
            times-roles loose file heads.blocks tree.roles.free 1,
          ))
          | inr other ↦ omega (arith, low, some, other)
        ]
      ]

  -- so a file whose way of an identifier has five blocks is as long as its blocks
  pub long_by_way : 5 ≤ length (blocks_on_way file heads.blocks id) → 1024 * heads.blocks ≤ length file
  long_by_way five =
      tree.long (three_by_leaf (get_or (blocks_on_way file heads.blocks id) 4 0)
      (sym (fifth_is_leaf file heads.blocks id) ∙ fifth (blocks_on_way file heads.blocks id) five))

  -- and so is one with a record
  pub long_with_record : IsSome (get records id) → 1024 * heads.blocks ≤ length file
  long_with_record some = elim (cases_lt (length (blocks_on_way file heads.blocks id)) 5) [
    | inl few ↦ absurd
        (false≢true (subst (λ (found : Option Rec). IsSome found)
        (absent_by_way held format file heads records id small tree few) some))
    | inr five ↦ long_by_way (omega (arith, five))
  ]
