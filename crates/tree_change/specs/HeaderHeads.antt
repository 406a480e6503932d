-- The heads of a tree file in its header.
use Rattle.std.specs.Prelude.{◌≡◌, ℕ, List}
use Rattle.quota_types.specs.KeptBytes.{KeepsOutside}
use Rattle.file_blocks.specs.Block.{block_of}
use Rattle.entry_codec.specs.Header.{HeaderNumbers, header_of}
use Rattle.entry_codec.specs.declared.header.Header.{Header}
use Rattle.free_chains.specs.declared.heads.Heads.{Heads}

-- the numbers of a header with other heads
abbrev pub with_heads : HeaderNumbers → Heads → HeaderNumbers
with_heads numbers heads = record numbers { blocks = heads.blocks; free = heads.free; first = heads.first }

-- A header has these heads.
pub record HasHeads (header : Header) (heads : Heads) : Type 0 where
  pub blocks : heads.blocks ≡ header.blocks
  pub free : heads.free ≡ header.free
  pub first : heads.first ≡ header.first

-- The header of a file has these heads now, and all its other numbers; and its block has all other bytes that it had.
pub record SetsHeads (heads : Heads) (old new : List ℕ) : Type 0 where
  pub numbers : header_of new ≡ with_heads (header_of old) heads
  pub others : KeepsOutside 20 32 (block_of old 0) (block_of new 0)
