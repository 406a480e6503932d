-- A record that is put into a tree file.
use Rattle.std.specs.Prelude.{◌≡◌, ◌≢◌, ℕ, ◌+◌, ◌*◌, ◌-◌, ◌<◌, ◌≤◌, max, List, length, None}
use Rattle.std.specs.FinMap.{insert}
use Rattle.quota_types.specs.KeptBytes.{KeepsOutside}
use Rattle.quota_types.specs.Times.{StandsIn, times}
use Rattle.quota_types.specs.declared.record.Rec.{Rec}
use Rattle.quota_types.specs.declared.file_kind.Format.{Format}
use Rattle.file_blocks.specs.Block.{block_of}
use Rattle.quota_value.specs.QuotaValue.{QuotaValue, Records, with_record}
use Rattle.entry_codec.specs.Header.{header_of}
use Rattle.quota_pages.specs.Page.{Page, is_lent, lent_count}
use Rattle.quota_pages.specs.Pages.{pages_of}
use Rattle.quota_pages.specs.declared.page_buffer.Pages.{Pages}
use Rattle.free_chains.specs.Chain.{IsChain}
use Rattle.quota_radix.specs.Tree.{data_blocks}
use Rattle.tree_meaning.specs.TreeHeads.{heads_of}
use Rattle.tree_meaning.specs.Roles.{data_with}
use Rattle.tree_meaning.specs.TreeFile.{TreeStandsFor}
use Rattle.quota_radix.specs.Descent.{leaf_block}
use Rattle.quota_radix.specs.OnWay.{blocks_on_way}
use Rattle.free_chains.specs.declared.heads.Heads.{Heads}
use Rattle.tree_meaning.specs.Loose.{loose_of}
use Rattle.tree_change.specs.declared.change_fault.ChangeFault.{ChangeFault}
use Rattle.tree_change.specs.Behind.{KeepsBehind}
use Rattle.tree_change.specs.ChangeFault.{IsChangeFault}
use Rattle.tree_change.specs.Freed.{free_blocks}
use Rattle.tree_change.specs.Room.{FileHasRoom, NeedsBlocks}
use Rattle.tree_change.specs.Shows.{IsNoCompleteTree, IsNoTree, IsWholeTree}
use Rattle.tree_change.specs.BlocksWanted.{blocks_taken, blocks_with}

-- The way of an identifier ends before it leads to a data block: these blocks are on it, and no more.
pub record WayEndsEarly (file : List ℕ) (blocks id : ℕ) (found : List ℕ) : Type 0 where
  pub way : found ≡ blocks_on_way file blocks id
  pub none : leaf_block file blocks id ≡ None

-- A record was not entered: where the file is known, a damage shows that it is no tree of this format, and it is told
-- to be full only where there is no room for this many blocks within the limit.
abbrev pub IsEnterFault : (before now : ℕ) → (known : Type 0) → Format → List ℕ → Heads → (limit count : ℕ)
    → ChangeFault → Type 0
IsEnterFault before now known format file heads limit count fault =
    IsChangeFault before now (known → IsNoTree format file heads)
    (λ blocks most. (most ≡ limit) × (limit < blocks) × (known → ¬ FileHasRoom file heads limit count)) fault

-- A record was not put: where the file is known, a damage shows that it is no tree of this format of which no leaf is
-- awaited, and where it is one it is told to be full only where its list of free blocks has fewer blocks than are
-- needed, and with new ones for the others it would have this number of blocks, which is more than the limit.
abbrev pub IsPutFault : (before now : ℕ) → (known : Type 0) → Format → List ℕ → Heads → (limit need : ℕ)
    → ChangeFault → Type 0
IsPutFault before now known format file heads limit need fault =
    IsChangeFault before now (known → IsNoCompleteTree format file heads)
    (λ blocks most. (most ≡ limit) × (limit < blocks)
    × (known → (held : List ℕ) (records : Records) → IsWholeTree (loose_of held None None) format file heads records
    → NeedsBlocks file heads need blocks)) fault

-- The record of an identifier was not put: the same, but the number of blocks is that of the file with the record.
abbrev pub IsPutInFault : (before now : ℕ) → (known : Type 0) → Format → List ℕ → Heads → (limit id : ℕ)
    → ChangeFault → Type 0
IsPutInFault before now known format file heads limit id fault =
    IsChangeFault before now (known → IsNoCompleteTree format file heads)
    (λ blocks most. (most ≡ limit) × (limit < blocks)
    × (known → (held : List ℕ) (records : Records) → IsWholeTree (loose_of held None None) format file heads records
    → blocks ≡ blocks_with file heads id)) fault

-- This many blocks were taken: those of the list of free blocks first, which is shorter by them, and new ones for the
-- others. What lies behind the last block is as before.
pub record TakesCounted (count : ℕ) (old new : List ℕ) (heads now : Heads) : Type 0 where
  pub sum : (free : List ℕ) → IsChain old heads.blocks heads.free free 0
      → now.blocks ≡ heads.blocks + (count - length free)
  pub rest : (free : List ℕ) → IsChain old heads.blocks heads.free free 0
      → (rest : List ℕ) × IsChain new now.blocks now.free rest 0 × (length rest ≡ length free - count)
  pub behind : KeepsBehind heads.blocks now.blocks old new

-- The record of an identifier was put into a tree of which no leaf is awaited: it has it, and all other records. As
-- many blocks were taken as it needs; the data blocks are those that were where one of them had room; and the header's
-- block is as before.
pub record PutsIn (id : ℕ) (rec : Rec) (held : List ℕ) (format : Format) (old new : List ℕ) (heads now : Heads)
    (records : Records) : Type 0 where
  pub tree : IsWholeTree (loose_of held None None) format new now (insert records id rec)
  pub counted : TakesCounted (blocks_taken old heads id) old new heads now
  pub same_data : heads.first ≢ 0 → (block : ℕ)
      → times (data_with (loose_of held None None) new now.blocks) block
      ≡ times (data_with (loose_of held None None) old heads.blocks) block
  pub header : block_of new 0 ≡ block_of old 0

-- The record was put so into each tree of which no leaf is awaited.
abbrev pub PutsInEachTree : (id : ℕ) → Rec → Format → (old new : List ℕ) → (heads now : Heads) → Type 0
PutsInEachTree id rec format old new heads now =
    (held : List ℕ) (records : Records) → IsWholeTree (loose_of held None None) format old heads records
    → PutsIn id rec held format old new heads now records

-- Blocks were taken within a limit: there are no fewer than before, and no more than the limit where there were not.
-- Where something holds, and there was a block, the page of the header is lent for writing only if it was.
pub record TakesWithin (limit : ℕ) (beside : Type 0) (heads now : Heads) (old new : Pages) : Type 0 where
  pub at_least : heads.blocks ≤ now.blocks
  pub within : heads.blocks ≤ limit → now.blocks ≤ limit
  pub header : beside → heads.blocks ≢ 0 → is_lent (pages_of new) 0 ≡ is_lent (pages_of old) 0

-- The heads are as before, and one page more was lent for writing, at most.
pub record PutsOverOne (old new : List Page) (heads now : Heads) : Type 0 where
  pub same : now ≡ heads
  pub lent : lent_count new ≤ lent_count old + 1

-- A file of a value became one of the value in which the identifier has this record. The heads are those that its
-- header states, all other bytes of whose block stay. It has as many blocks as that takes, more only where none is free
-- then, and fewer free ones by those that were taken; and it has a new data block only where none had room. All bytes
-- behind the last block are as before, and it is as long as it was, or up to the end of the last block where that is
-- longer.
pub record PutsRecord (id : ℕ) (rec : Rec) (value : QuotaValue) (old new : List ℕ) (heads : Heads) : Type 0 where
  pub stands : TreeStandsFor new (with_record value id rec)
  pub heads_are : heads ≡ heads_of (header_of new)
  pub header : KeepsOutside 20 32 (block_of old 0) (block_of new 0)
  pub behind : KeepsOutside 0 (1024 * heads.blocks) old new
  pub long : length new ≡ max (length old) (1024 * heads.blocks)
  pub at_least : (header_of old).blocks ≤ heads.blocks
  pub sum : heads.blocks ≡ blocks_with old (heads_of (header_of old)) id
  pub growth : (header_of old).blocks < heads.blocks → heads.free ≡ 0
  pub rest : length (free_blocks new heads)
      ≡ length (free_blocks old (heads_of (header_of old))) - blocks_taken old (heads_of (header_of old)) id
  pub new_data : (block : ℕ) → StandsIn (data_blocks new heads.blocks) block
      → times (data_blocks old (header_of old).blocks) block ≡ 0 → (header_of old).first ≡ 0
