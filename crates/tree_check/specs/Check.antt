-- What a check of a tree file answers.
use Rattle.std.specs.Prelude.{◌≡◌, ℕ, List, length}
use Rattle.std.specs.FinMap.{len}
use Rattle.quota_value.specs.QuotaValue.{QuotaValue}
use Rattle.entry_codec.specs.Header.{header_of}
use Rattle.tree_check.specs.declared.checked.Checked.{Checked}
use Rattle.free_chains.specs.Chain.{IsChain}
use Rattle.byte_order.specs.declared.order.Order.{Order}
use Rattle.byte_order.specs.declared.order.Order.TheVariants.{Little}
use Rattle.byte_order.specs.Words.{in_order}
use Rattle.tree_meaning.specs.TreeFile.{TreeStandsForIn}

-- A file that is read in an order stands for a value, which has this many records, and its free list has this many
-- blocks.
pub record IsCheckedIn (order : Order) (file : List ℕ) (checked : Checked) : Type 0 where
  pub value : QuotaValue
  pub stands : TreeStandsForIn order file value
  pub used : checked.used ≡ len value.records
  pub free : List ℕ
  pub is_free : IsChain (in_order order file) (header_of (in_order order file)).blocks
      (header_of (in_order order file)).free free 0
  pub free_count : checked.free ≡ length free

-- the same of a little-endian file
abbrev pub IsChecked : List ℕ → Checked → Type 0
IsChecked file checked = IsCheckedIn Little file checked
