-- What a look-up finds in a file, whatever that stands for: the record in the data block to which an identifier leads,
-- and the first entry behind an identifier. What may be wrong with such a block.
use Rattle.std.specs.Prelude.{◌≡◌, ℕ, List, Option, None}
use Rattle.std.specs.Option.{option_and_then, option_map}
use Rattle.quota_types.specs.declared.damage.Damage.{Damage}
use Rattle.quota_types.specs.declared.damage.DamageKind.TheVariants.{MissingEntry}
use Rattle.quota_types.specs.declared.file_kind.Format.{Format}
use Rattle.quota_types.specs.declared.record.Entry.{Entry}
use Rattle.quota_types.specs.declared.record.Rec.{Rec}
use Rattle.quota_radix.specs.Descent.{leaf_block}
use Rattle.quota_radix.specs.LeafAfter.{leaf_after}
use Rattle.quota_radix.specs.declared.tree_path.TreePath.{TreePath}
use Rattle.file_blocks.specs.Block.{block_of}
use Rattle.tree_meaning.specs.TreeFile.{record_in}

-- a damage is that the block of a leaf has no entry of its identifier
pub record IsLeafFault (format : Format) (file : List ℕ) (leaf : TreePath) (damage : Damage) : Type 0 where
  pub kind : damage.kind ≡ MissingEntry
  pub block : damage.block ≡ leaf.block
  pub id : damage.id ≡ leaf.number
  pub none : record_in format (block_of file leaf.block) leaf.number ≡ None

-- the record that a file has of an identifier: that in the data block to which its four digits lead
abbrev pub record_led_to : Format → List ℕ → (blocks id : ℕ) → Option Rec
record_led_to format file blocks id =
    option_and_then (λ (block : ℕ). record_in format (block_of file block) id) (leaf_block file blocks id)

-- the entry of the first leaf whose identifier comes after another one, or of the first of all
abbrev pub entry_led_to : Format → List ℕ → (blocks : ℕ) → (after : Option ℕ) → Option Entry
entry_led_to format file blocks after =
    option_and_then (λ (leaf : ℕ × ℕ). option_map (λ (rec : Rec). record { id = leaf.0; rec = rec })
    (record_in format (block_of file leaf.1) leaf.0)) (leaf_after file blocks after)
