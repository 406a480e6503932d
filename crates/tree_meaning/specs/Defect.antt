-- What may be wrong with a tree file, kind by kind, with the block and the identifier that each kind names. Source: the
-- rules of `fs/quota/quota_tree.c`, each turned round.

-- The file is that of its words in the order in which it is read. What these don't tell stands beside: how many entries
-- each block states, and how many bytes the file has.
use Rattle.std.specs.Prelude.{◌≡◌, ◌≢◌, ◌⊎◌, ℕ, ◌*◌, ◌/◌, ◌<◌, IsTrue, false, List, ◌∷◌, ◌++◌, length, Some, unwrap_or}
use Rattle.std.specs.List.{last_or}
use Rattle.quota_types.specs.Damage.{NamesItsId}
use Rattle.quota_types.specs.declared.damage.Damage.{Damage}
use Rattle.quota_types.specs.declared.damage.DamageKind.{DamageKind}
use Rattle.quota_types.specs.declared.damage.DamageKind.TheVariants.{Short, RefOut, TwoRoles, NoRole, EmptyTree}
use Rattle.quota_types.specs.declared.damage.DamageKind.TheVariants.{ChainOut, ChainLoop, ForeignInChain}
use Rattle.quota_types.specs.declared.damage.DamageKind.TheVariants.{MissingInChain, BadPrev, BadCount, MissingEntry}
use Rattle.quota_types.specs.declared.damage.DamageKind.TheVariants.{StrayEntry, DoubleEntry, PartialRecord}
use Rattle.quota_types.specs.declared.file_kind.Format.{Format}
use Rattle.entry_codec.specs.Header.{HeaderNumbers}
use Rattle.file_blocks.specs.Block.{block_of, previous_of}
use Rattle.free_chains.specs.Chain.{IsChain}
use Rattle.quota_types.specs.Times.{StandsIn, StandsTwiceIn, times}
use Rattle.byte_order.specs.declared.order.Order.{Order}
use Rattle.byte_order.specs.declared.order.Order.TheVariants.{Little}
use Rattle.byte_order.specs.Words.{in_order}
use Rattle.tree_meaning.specs.Entries.{stated_in, used_ids}
use Rattle.quota_radix.specs.TreeDefect.{IsRefOut, IsEmptyTree}
use Rattle.tree_meaning.specs.Loose.{nothing_loose}
use Rattle.tree_meaning.specs.Roles.{has_room, roles}
use Rattle.quota_radix.specs.Tree.{data_blocks, ids_at, leaves}
use Rattle.free_chains.specs.ChainDefect.{IsOut, IsLoop}

-- a file of this many bytes has more blocks than header and root and is shorter than they, and the block is the first
-- that is not whole
pub record IsShort (len blocks block : ℕ) : Type 0 where
  pub more : 2 < blocks
  pub short : len < 1024 * blocks
  pub cut : block ≡ len / 1024

-- a block has two roles, or one role twice
pub record HasTwoRoles (file : List ℕ) (blocks free_head block : ℕ) : Type 0 where
  pub free : List ℕ
  pub end : ℕ
  pub is_free : IsChain file blocks free_head free end
  pub twice : StandsTwiceIn (roles nothing_loose file blocks free) block

-- a block has no role
pub record HasNoRole (file : List ℕ) (blocks free_head block : ℕ) : Type 0 where
  pub free : List ℕ
  pub end : ℕ
  pub is_free : IsChain file blocks free_head free end
  pub inside : block < blocks
  pub none : times (roles nothing_loose file blocks free) block ≡ 0

-- the entry list has a block that is no data block with room
pub record IsForeign (format : Format) (file : List ℕ) (blocks first block : ℕ) : Type 0 where
  pub chain : List ℕ
  pub end : ℕ
  pub is_chain : IsChain file blocks first chain end
  pub listed : StandsIn chain block
  pub foreign : has_room nothing_loose format file blocks block ≡ false

-- a data block with room is not in the entry list
pub record IsMissing (format : Format) (file : List ℕ) (blocks first block : ℕ) : Type 0 where
  pub chain : List ℕ
  pub end : ℕ
  pub is_chain : IsChain file blocks first chain end
  pub room : IsTrue (has_room nothing_loose format file blocks block)
  pub missing : times chain block ≡ 0

-- a block of the entry list does not name the block before it, or 0 where it is the first
pub record HasBadPrevious (file : List ℕ) (blocks first block : ℕ) : Type 0 where
  pub before : List ℕ
  pub behind : List ℕ
  pub end : ℕ
  pub is_chain : IsChain file blocks first (before ++ block ∷ behind) end
  pub other : previous_of file block ≢ unwrap_or (last_or (Some 0) before) 0

-- a data block states another number than that of its used entries
pub record HasBadCount (stated : ℕ → ℕ) (format : Format) (file : List ℕ) (blocks block : ℕ) : Type 0 where
  pub is_data : StandsIn (data_blocks file blocks) block
  pub other : stated block ≢ length (used_ids format (block_of file block))

-- a data block has no used entry of an identifier that leads to it
pub record LacksEntry (format : Format) (file : List ℕ) (blocks block id : ℕ) : Type 0 where
  pub leads : StandsIn (ids_at (leaves file blocks) block) id
  pub none : times (used_ids format (block_of file block)) id ≡ 0

-- a data block has a used entry of an identifier that does not lead to it
pub record HasStrayEntry (format : Format) (file : List ℕ) (blocks block id : ℕ) : Type 0 where
  pub is_data : StandsIn (data_blocks file blocks) block
  pub used : StandsIn (used_ids format (block_of file block)) id
  pub stray : times (ids_at (leaves file blocks) block) id ≡ 0

-- a data block has two used entries of one identifier
pub record HasDoubleEntry (format : Format) (file : List ℕ) (blocks block id : ℕ) : Type 0 where
  pub is_data : StandsIn (data_blocks file blocks) block
  pub twice : StandsTwiceIn (used_ids format (block_of file block)) id

-- what a kind of damage says of a block and an identifier
abbrev pub IsDefectOf : (stated : ℕ → ℕ) → (len : ℕ) → Format → List ℕ → HeaderNumbers → DamageKind → ℕ → ℕ → Type 0
IsDefectOf stated len format file numbers Short block id = IsShort len numbers.blocks block
IsDefectOf stated len format file numbers RefOut block id = IsRefOut file numbers.blocks block
IsDefectOf stated len format file numbers TwoRoles block id = HasTwoRoles file numbers.blocks numbers.free block
IsDefectOf stated len format file numbers NoRole block id = HasNoRole file numbers.blocks numbers.free block
IsDefectOf stated len format file numbers EmptyTree block id = IsEmptyTree file numbers.blocks block
IsDefectOf stated len format file numbers ChainOut block id =
    IsOut file numbers.blocks numbers.free block ⊎ IsOut file numbers.blocks numbers.first block
IsDefectOf stated len format file numbers ChainLoop block id =
    IsLoop file numbers.blocks numbers.free block ⊎ IsLoop file numbers.blocks numbers.first block
IsDefectOf stated len format file numbers ForeignInChain block id =
    IsForeign format file numbers.blocks numbers.first block
IsDefectOf stated len format file numbers MissingInChain block id =
    IsMissing format file numbers.blocks numbers.first block
IsDefectOf stated len format file numbers BadPrev block id = HasBadPrevious file numbers.blocks numbers.first block
IsDefectOf stated len format file numbers BadCount block id = HasBadCount stated format file numbers.blocks block
IsDefectOf stated len format file numbers MissingEntry block id = LacksEntry format file numbers.blocks block id
IsDefectOf stated len format file numbers StrayEntry block id = HasStrayEntry format file numbers.blocks block id
IsDefectOf stated len format file numbers DoubleEntry block id = HasDoubleEntry format file numbers.blocks block id
IsDefectOf stated len format file numbers PartialRecord block id = ⊥

-- a damage is one of a tree file of this format, read in an order, with these numbers in its header
abbrev pub IsTreeDefectIn : Order → Format → List ℕ → HeaderNumbers → Damage → Type 0
IsTreeDefectIn order format file numbers damage =
    IsDefectOf (stated_in order file) (length file) format (in_order order file) numbers damage.kind damage.block
    damage.id × NamesItsId damage.kind damage.id

-- the same of a little-endian file
abbrev pub IsTreeDefect : Format → List ℕ → HeaderNumbers → Damage → Type 0
IsTreeDefect format file numbers damage = IsTreeDefectIn Little format file numbers damage
