-- A record that is removed from a tree file in place.
use Rattle.std.specs.Prelude.{◌≡◌, ℕ, List, length, None, []}
use Rattle.std.specs.FinMap.{remove}
use Rattle.quota_types.specs.KeptBytes.{KeepsOutside}
use Rattle.quota_types.specs.Times.{StandsIn}
use Rattle.quota_types.specs.declared.file_kind.Format.{Format}
use Rattle.file_blocks.specs.Block.{block_of}
use Rattle.quota_value.specs.QuotaValue.{QuotaValue, Records, without_record}
use Rattle.entry_codec.specs.Header.{header_of}
use Rattle.quota_radix.specs.OnWay.{blocks_on_way}
use Rattle.quota_radix.specs.Tree.{data_blocks}
use Rattle.free_chains.specs.declared.heads.Heads.{Heads}
use Rattle.tree_meaning.specs.TreeHeads.{heads_of}
use Rattle.tree_meaning.specs.Loose.{loose_of}
use Rattle.tree_meaning.specs.TreeFile.{TreeStandsFor}
use Rattle.tree_change.specs.Freed.{FreesBlocks, freed_blocks}
use Rattle.tree_change.specs.Shows.{IsWholeTree}

-- Bytes stand for a value without a record. The heads are those that their header states, all other bytes of whose
-- block stay. There are as many blocks as before, and those that the removal frees stand before the free ones. Each
-- data block was one before. The file is as long as before.
pub record RemovesRecord (id : ℕ) (value : QuotaValue) (old new : List ℕ) (heads : Heads) : Type 0 where
  pub stands : TreeStandsFor new (without_record value id)
  pub heads_are : heads ≡ heads_of (header_of new)
  pub header : KeepsOutside 20 32 (block_of old 0) (block_of new 0)
  pub blocks : heads.blocks ≡ (header_of old).blocks
  pub long : length new ≡ length old
  pub freed : FreesBlocks (freed_blocks old new heads.blocks id) old new (heads_of (header_of old)) heads
  pub new_data : (block : ℕ) → StandsIn (data_blocks new heads.blocks) block
      → StandsIn (data_blocks old (header_of old).blocks) block

-- A tree of which nothing is loose lost the record of an identifier: nothing is loose of it, the header's block is as
-- before, the blocks that it frees stand before the free ones, and each data block was one before.
pub record LosesOneRecord (format : Format) (id : ℕ) (old new : List ℕ) (heads now : Heads)
    (records : Records) : Type 0 where
  pub tree : IsWholeTree (loose_of [] None None) format new now (remove records id)
  pub header : block_of new 0 ≡ block_of old 0
  pub freed : FreesBlocks (freed_blocks old new now.blocks id) old new heads now
  pub new_data : (block : ℕ) → StandsIn (data_blocks new now.blocks) block
      → StandsIn (data_blocks old heads.blocks) block

-- The record of an identifier was taken out of a tree of which nothing is loose and that has this whole way of it.
abbrev pub TakesRecord : Format → (way : List ℕ) → (id : ℕ) → (old new : List ℕ) → (heads now : Heads) → Type 0
TakesRecord format way id old new heads now = (records : Records) → way ≡ blocks_on_way old heads.blocks id
    → IsWholeTree (loose_of [] None None) format old heads records → LosesOneRecord format id old new heads now records

-- bytes are no tree with these heads of which nothing is loose and that has this way of an identifier
abbrev pub HasNoWay : Format → (way : List ℕ) → (id : ℕ) → (file : List ℕ) → Heads → Type 0
HasNoWay format way id file heads =
    (records : Records) → way ≡ blocks_on_way file heads.blocks id
    → ¬ IsWholeTree (loose_of [] None None) format file heads records
