-- What the way of an identifier shows of a file that stands for a value.
use Rattle.std.proofs.Common.{◌≡◌, ℕ, ◌^◌, ◌<◌, ◌≤◌, true, false, List, [], length, Option, None, Some, refl, sym, ap}
use Rattle.std.proofs.Common.{subst, ◌∙◌, arith}
use Rattle.std.specs.Prelude.{IsSome, is_none}
use Rattle.std.specs.FinMap.{get}
use Rattle.quota_types.specs.declared.file_kind.Format.{Format}
use Rattle.quota_types.specs.declared.record.Rec.{Rec}
use Rattle.entry_codec.specs.Header.{header_of}
use Rattle.entry_codec.specs.Spelling.{AreOf}
use Rattle.entry_codec.specs.declared.header.Header.{Header}
use Rattle.quota_value.specs.QuotaValue.{QuotaValue, Records}
use Rattle.quota_radix.specs.Way.{IsOutOnWay, digit_on_way}
use Rattle.quota_radix.specs.OnWay.{block_on_way, blocks_on_way}
use Rattle.quota_radix.proofs.LinkPathLemmas.{last_in_tree}
use Rattle.free_chains.specs.declared.heads.Heads.{Heads}
use Rattle.tree_meaning.specs.TreeHeads.{heads_of}
use Rattle.tree_meaning.specs.Loose.{loose_of}
use Rattle.tree_meaning.specs.TreeFile.{TreeStandsFor}
use Rattle.tree_meaning.proofs.TreeLemmas.{tree_of_value}
use Rattle.tree_change.specs.Shows.{IsWholeTree}
use Rattle.tree_change.proofs.AbsentLemmas.{absent_by_way, there_by_way}

digit_small : (id gone : ℕ) → digit_on_way id gone < 256
unfolding digit_on_way
digit_small id gone = omega arith

-- a reference on a way that leads past the last block is one of no tree
pub out_no_tree : (held : List ℕ) (format : Format) (file : List ℕ) (heads : Heads) (records : Records) (id block : ℕ)
    → id < 2 ^ 32 → IsOutOnWay file heads.blocks id block
    → ¬ IsWholeTree (loose_of held None None) format file heads records
unfolding block_on_way
out_no_tree held format file heads records id block small out tree =
    let low = tree.roles.references block (last_in_tree file heads.blocks id out.gone block small out.few out.led)
    (digit_on_way id out.gone) (digit_small id out.gone) in
    omega (arith, low, out.out)

module _ (file : List ℕ) (header : Header) (value : QuotaValue) (id : ℕ) (small : id < 2 ^ 32)
    (are : AreOf header (header_of file)) (stands : TreeStandsFor file value) where
  -- so it is one of no file that stands for a value
  pub not_out : (block : ℕ) → ¬ IsOutOnWay file header.blocks id block
  not_out block out =
      out_no_tree [] value.format file (heads_of (header_of file)) value.records id block small
      (subst (λ (n : ℕ). IsOutOnWay file n id block) (sym are.blocks) out) (tree_of_value file value stands)

  way_is : (way : List ℕ) → way ≡ blocks_on_way file header.blocks id
      → length way ≡ length (blocks_on_way file (header_of file).blocks id)
  way_is way is = ap {B = ℕ} length (is ∙ ap (λ (n : ℕ). blocks_on_way file n id) (sym are.blocks))

  -- a way of fewer than five blocks is that of an identifier without a record
  pub none_by_way : (way : List ℕ) → way ≡ blocks_on_way file header.blocks id → length way < 5
      → is_none (get value.records id) ≡ true
  none_by_way way is few =
      ap is_none (absent_by_way [] value.format file (heads_of (header_of file)) value.records id small
      (tree_of_value file value stands) (omega (arith, way_is way is, few)))

  -- and one of five that of an identifier with one
  pub some_by_way : (way : List ℕ) → way ≡ blocks_on_way file header.blocks id → 5 ≤ length way
      → is_none (get value.records id) ≡ false
  some_by_way way is five =
      not_none (get value.records id)
      (there_by_way [] value.format file (heads_of (header_of file)) value.records id small
      (tree_of_value file value stands) (omega (arith, way_is way is, five)))
    where
      not_none : (found : Option Rec) → IsSome found → is_none found ≡ false
      not_none None some = absurd cc
      not_none (Some rec) some = refl
