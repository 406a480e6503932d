-- What is read of a tree file of vfsv0 that a big-endian machine wrote. Source: the kernel's `fs/quota/quota_tree.c`,
-- of whose numbers each has its highest byte first.
use Rattle.std.specs.Prelude.{◌≡◌, ◌≢◌, ℕ, ◌+◌, ◌≤◌, IsSome, IsTrue, Bool, All, List, ◌++◌, length, map, Option, Some}
use Rattle.std.specs.Prelude.{Ok}
use Rattle.quota_types.specs.Times.{StandsIn, times}
use Rattle.quota_types.specs.declared.file_kind.Format.TheVariants.{V2R0}
use Rattle.quota_types.specs.declared.file_kind.Kind.{Kind}
use Rattle.quota_types.specs.declared.record.Entry.{Entry}
use Rattle.quota_types.specs.declared.record.Grace.{Grace}
use Rattle.quota_types.specs.declared.record.Rec.{Rec}
use Rattle.quota_value.specs.Listed.{value_of}
use Rattle.quota_value.specs.QuotaValue.{QuotaValue}
use Rattle.byte_order.specs.declared.order.Order.TheVariants.{Big}
use Rattle.byte_order.specs.Words.{in_order}
use Rattle.entry_codec.specs.Header.{header_of}
use Rattle.file_blocks.specs.Block.{block_of}
use Rattle.file_blocks.specs.BlockSet.{AreFlagsOf}
use Rattle.quota_radix.specs.declared.tree_path.TreePath.{TreePath}
use Rattle.tree_meaning.specs.TreeFile.{TreeStandsForIn, record_read}
use Rattle.tree_file.specs.View.{IsTreeViewIn}
use Rattle.big_endian_files.specs.declared.data_block.DataBlock.{DataBlock}

-- whoever opens the file so sees the value that has these grace periods and these records, and some flags
pub record IsReadBig (tells : Bool) (named : Option (List ℕ)) (kind : Kind) (limit : ℕ) (grace : Grace)
    (entries : List Entry) : Type 0 where
  pub flags : ℕ
  pub view : IsTrue tells → IsTreeViewIn Big named kind (Some V2R0) limit (Ok (value_of kind V2R0 grace flags entries))

-- read big-endian, a file of so many blocks stands for a value in vfsv0
pub record StandsBig (file : List ℕ) (blocks : ℕ) : Type 0 where
  pub value : QuotaValue
  pub stands : TreeStandsForIn Big file value
  pub format : value.format ≡ V2R0
  pub as_many : (header_of (in_order Big file)).blocks ≡ blocks

-- the record of the entry to which a leaf leads
abbrev pub record_of : List ℕ → TreePath → Option Rec
record_of file leaf = record_read Big V2R0 (block_of file leaf.block) leaf.number

-- the identifiers of leaves, each with its record where it has one
abbrev pub records_at : List ℕ → List TreePath → List (ℕ × Option Rec)
records_at file leaves = map (λ leaf. (leaf.number, record_of file leaf)) leaves

-- the identifiers of entries, each with its record
abbrev pub records_in : List Entry → List (ℕ × Option Rec)
records_in entries = map (λ entry. (entry.id, Some entry.rec)) entries

-- the leaves can be read: each has a record, and leads to none of the blocks that were met before
pub record CanBeRead (file : List ℕ) (blocks : ℕ) (flags : List Bool) (leaves : List TreePath) : Type 0 where
  pub numbers : List ℕ
  pub marked : AreFlagsOf blocks flags numbers
  pub apart : All (λ (leaf : TreePath). times numbers leaf.block ≡ 0) leaves
  pub has : All (λ (leaf : TreePath). IsSome (record_of file leaf)) leaves

-- Beside some blocks that were met before, others were marked and read, none of them past a given one: the counts of
-- reads are those before and now.
pub record AreReadUpTo (blocks : ℕ) (flags : List Bool) (numbers : List ℕ) (last before now : ℕ) : Type 0 where
  pub more : List ℕ
  pub marked : AreFlagsOf blocks flags (numbers ++ more)
  pub few : now ≤ before + length more
  pub low : (number : ℕ) → StandsIn more number → number ≤ last

-- a data block that was read holds what the file has there; the header's stands for none
abbrev pub HoldsBlock : List ℕ → DataBlock → Type 0
HoldsBlock file held = held.number ≢ 0 → held.bytes ≡ block_of file held.number
