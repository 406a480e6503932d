-- What a change of a tree file makes of the files.
use Rattle.std.specs.Prelude.{◌≡◌, ◌⊎◌, ℕ, ◌*◌, ◌-◌, ◌<◌, ◌≤◌, max, IsSome, IsSomeAnd, List, length, Option}
use Rattle.quota_types.specs.declared.record.Grace.{Grace}
use Rattle.quota_types.specs.Bytes.{number_at}
use Rattle.quota_types.specs.Times.{StandsIn, times}
use Rattle.opened_file.specs.FileChange.{FileChange, Put, Remove, SetGrace}
use Rattle.quota_types.specs.KeptBytes.{KeepsOutside}
use Rattle.outside.specs.World.{KeepsOthers, World}
use Rattle.file_blocks.specs.Block.{block_of, bytes_of}
use Rattle.entry_codec.specs.Header.{header_of}
use Rattle.quota_pages.specs.KeptBlocks.{KeepsBlocksBut}
use Rattle.quota_radix.specs.Tree.{data_blocks}
use Rattle.tree_meaning.specs.TreeHeads.{heads_of}
use Rattle.tree_change.specs.Freed.{FreesBlocks, free_blocks, freed_blocks}
use Rattle.tree_change.specs.BlocksWanted.{blocks_taken, blocks_with}

-- A record of an identifier was put: of the header's block the heads alone change; there are as many blocks as that
-- takes, no fewer than before, and more only where none is free then; there are fewer free ones by those that were
-- taken; and a block became a data block only where none had room. All bytes behind the last block are as before, and
-- the file is as long as it was, or up to the end of the last block where that is longer.
pub record PutsInPlace (id : ℕ) (before after : List ℕ) : Type 0 where
  pub header : KeepsOutside 20 32 (block_of before 0) (block_of after 0)
  pub behind : KeepsOutside 0 (1024 * (header_of after).blocks) before after
  pub long : length after ≡ max (length before) (1024 * (header_of after).blocks)
  pub at_least : (header_of before).blocks ≤ (header_of after).blocks
  pub sum : (header_of after).blocks ≡ blocks_with before (heads_of (header_of before)) id
  pub growth : (header_of before).blocks < (header_of after).blocks → (header_of after).free ≡ 0
  pub rest : length (free_blocks after (heads_of (header_of after)))
      ≡ length (free_blocks before (heads_of (header_of before))) - blocks_taken before (heads_of (header_of before)) id
  pub new_data : (block : ℕ) → StandsIn (data_blocks after (header_of after).blocks) block
      → times (data_blocks before (header_of before).blocks) block ≡ 0
      → (header_of before).first ≡ 0

-- The record of an identifier was taken away: of the header's block the heads alone change; there are as many blocks as
-- before, and those that it freed stand before the free ones, with nothing but their links. Each data block was one
-- before. All bytes behind the last block are as before, and the file is as long.
pub record RemovesInPlace (id : ℕ) (before after : List ℕ) : Type 0 where
  pub header : KeepsOutside 20 32 (block_of before 0) (block_of after 0)
  pub behind : KeepsOutside 0 (1024 * (header_of after).blocks) before after
  pub long : length after ≡ length before
  pub blocks : (header_of after).blocks ≡ (header_of before).blocks
  pub freed : FreesBlocks (freed_blocks before after (header_of after).blocks id) before after
      (heads_of (header_of before)) (heads_of (header_of after))
  pub new_data : (block : ℕ) → StandsIn (data_blocks after (header_of after).blocks) block
      → StandsIn (data_blocks before (header_of before).blocks) block

-- The grace periods were set where they stand: all bytes stay but those of the two, and a file that is shorter than its
-- first block has the whole of it.
pub record IsGraced (grace : Grace) (before after : List ℕ) : Type 0 where
  pub long : length after ≡ max 1024 (length before)
  pub others : KeepsOutside 8 16 before after
  pub block_grace : number_at 4 after 8 ≡ grace.block
  pub inode_grace : number_at 4 after 12 ≡ grace.inode

-- The named file is there before and after, with bytes that are related so, and no other file has changed.
pub record WritesInPlace (so : List ℕ → List ℕ → Type 0) (name : List ℕ) (old new : World) : Type 0 where
  pub named : IsSomeAnd (old name) (λ before. IsSomeAnd (new name) (so before))
  pub others : KeepsOthers name old new

-- a file that is related so to the one before, and has no more blocks than it may have
abbrev pub MakesFew : (limit : ℕ) → (so : List ℕ → List ℕ → Type 0) → List ℕ → List ℕ → Type 0
MakesFew limit so before after = so before after × ((header_of after).blocks ≤ limit)

-- what a change makes of the bytes of a file, beside the value for which it stands then
abbrev pub TreeChanged : FileChange → List ℕ → List ℕ → Type 0
TreeChanged (Put id rec) = PutsInPlace id
TreeChanged (Remove id) = RemovesInPlace id
TreeChanged (SetGrace grace) = IsGraced grace

-- what a change that was not idle makes of the files: it changes the named one in place
abbrev pub TreeMakes : (limit : ℕ) → FileChange → List ℕ → World → World → Type 0
TreeMakes limit change = WritesInPlace (MakesFew limit (TreeChanged change))

-- Of twelve blocks at most each is the old or the new one, and all others are as they were, as they are in the changed
-- file. What is left is no longer than that.
pub record IsTorn (before made left : List ℕ) : Type 0 where
  pub numbers : List ℕ
  pub few : length numbers ≤ 12
  pub near : KeepsBlocksBut numbers before made
  pub others : KeepsBlocksBut numbers before left
  pub shorter : length left ≤ length made
  pub each : (number : ℕ)
      → (block_of left number ≡ block_of before number) ⊎ (block_of left number ≡ block_of made number)

-- what a change that failed may leave of a tree file: the old file, or one that lies between it and the changed one
abbrev pub TreeLeaves : (old after left : Option (List ℕ)) → Type 0
TreeLeaves old after left = (left ≡ old) ⊎ (IsSome left × IsTorn (bytes_of old) (bytes_of after) (bytes_of left))
