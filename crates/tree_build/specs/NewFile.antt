-- A file that is built block by block: its data blocks, and the levels of its tree from the lowest one up.
use Rattle.std.specs.Prelude.{◌≡◌, ℕ, ◌+◌, ◌*◌, ◌/◌, ◌<◌, ◌≤◌, nat_lt, IsTrue, List, length, map, take, drop}
use Rattle.std.specs.List.{AllByRecursion, flat_map, range_with_len}
use Rattle.quota_types.specs.Bytes.{byte_at, number_at}
use Rattle.quota_types.specs.declared.file_kind.Format.{Format}
use Rattle.quota_types.specs.declared.record.Entry.{Entry}
use Rattle.entry_codec.specs.Entry.{entries_per_block}
use Rattle.entry_codec.specs.Spelling.{padding_of}
use Rattle.quota_radix.specs.declared.tree_path.TreePath.{TreePath}
use Rattle.file_blocks.specs.Block.{block_of, word_at, leads}
use Rattle.tree_meaning.specs.Entries.{entry_bytes, has_unused, used_entries}
use Rattle.quota_radix.specs.TreeDefect.{IsEmpty}
use Rattle.tree_build.specs.Size.{each_once, filled_blocks}
use Rattle.quota_radix.specs.Tree.{steps}

-- the first blocks of a file, this many of them, are as they were
abbrev pub KeepsBlocks : ℕ → List ℕ → List ℕ → Type 0
KeepsBlocks count old new = (block : ℕ) → block < count → block_of new block ≡ block_of old block

-- the numbers without their last digit to the base 256, each once
abbrev pub parents_of : List ℕ → List ℕ
parents_of numbers = each_once (map (λ number. number / 256) numbers)

-- each of some paths leads to a block other than that of the header
abbrev pub AllLead : ℕ → List TreePath → Type 0
AllLead blocks paths = AllByRecursion (λ (path : TreePath). IsTrue (leads blocks path.block)) paths

-- each of some paths has this number before its last digit
abbrev pub AreSiblings : ℕ → List TreePath → Type 0
AreSiblings number paths = AllByRecursion (λ (path : TreePath). path.number / 256 ≡ number) paths

-- a block has a reference, and none past the last block
pub record IsFullTreeBlock (file : List ℕ) (blocks block : ℕ) : Type 0 where
  pub references : (digit : ℕ) → digit < 256 → word_at file block digit < blocks
  pub not_empty : ¬ IsEmpty file block

-- each of some paths has a number below a bound
abbrev pub AreBelow : ℕ → List TreePath → Type 0
AreBelow bound paths = AllByRecursion (λ (path : TreePath). path.number < bound) paths

-- The paths that go on from some are others, and each block to which one of the first leads has references, none past
-- the last block.
pub record IsLevel (file : List ℕ) (blocks : ℕ) (parents children : List TreePath) : Type 0 where
  pub onward : flat_map (steps file blocks) parents ≡ children
  pub full : AllByRecursion (λ (path : TreePath). IsFullTreeBlock file blocks path.block) parents

-- a data block with its entries
pub record Part : Type 0 where
  pub block : ℕ
  pub entries : List Entry

-- the leaves of the entries of a data block
abbrev pub leaves_in : Part → List TreePath
leaves_in part = map (λ entry. record { number = entry.id; block = part.block }) part.entries

-- the entries that stand in a data block, by its place among the data blocks, of which the first has a number
abbrev pub part_of : Format → List Entry → ℕ → ℕ → Part
part_of format entries first place = record {
  block = first + place;
  entries = take (entries_per_block format) (drop (entries_per_block format * place) entries);
}

-- the first data blocks of some entries, this many of them
abbrev pub parts_of : Format → List Entry → ℕ → ℕ → List Part
parts_of format entries first count = map (part_of format entries first) (range_with_len 0 count)

-- how many data blocks some entries fill
abbrev pub parts_needed : Format → List Entry → ℕ
parts_needed format entries = filled_blocks (entries_per_block format) (length entries)

-- A block has these entries and no other, names no block before or behind it, states their number, has room where they
-- are fewer than it can have, and is 0 where no field is.
pub record IsDataBlock (format : Format) (block : List ℕ) (entries : List Entry) : Type 0 where
  pub used : used_entries format block ≡ entries
  pub next : number_at 4 block 0 ≡ 0
  pub previous : number_at 4 block 4 ≡ 0
  pub stated : number_at 2 block 8 ≡ length entries
  pub room : has_unused format block ≡ nat_lt (length entries) (entries_per_block format)
  pub behind_count : (at : ℕ) → 10 ≤ at → at < 16 → byte_at block at ≡ 0
  pub in_entries : (place : ℕ) → place < entries_per_block format
      → padding_of format (entry_bytes format block place) ≡ 0

-- each data block of a file has its entries
abbrev pub AreDataBlocks : Format → List ℕ → List Part → Type 0
AreDataBlocks format file parts =
    AllByRecursion (λ (part : Part). IsDataBlock format (block_of file part.block) part.entries) parts
