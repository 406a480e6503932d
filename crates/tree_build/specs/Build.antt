-- A whole new tree file, from a list of entries.
use Rattle.std.specs.Prelude.{◌≡◌, ℕ, ◌<◌, ◌≤◌, IsTrue, List, ⊤}
use Rattle.quota_types.specs.Bytes.{byte_at}
use Rattle.quota_types.specs.declared.file_kind.Format.{Format}
use Rattle.entry_codec.specs.Entry.{entries_per_block}
use Rattle.entry_codec.specs.Spelling.{padding_of}
use Rattle.tree_build.specs.declared.build_fault.BuildFault.{BuildFault}
use Rattle.tree_build.specs.declared.build_fault.BuildFault.TheVariants.{Full, Memory}
use Rattle.file_blocks.specs.Block.{block_of}
use Rattle.quota_types.specs.Times.{StandsIn}
use Rattle.tree_meaning.specs.Entries.{entry_bytes}
use Rattle.tree_meaning.specs.Loose.{nothing_loose}
use Rattle.tree_meaning.specs.Roles.{has_room}
use Rattle.quota_radix.specs.Tree.{data_blocks}

-- At most one data block has an unused entry.
abbrev pub HasOneRoom : Format → List ℕ → ℕ → Type 0
HasOneRoom format file blocks =
    (one other : ℕ) → IsTrue (has_room nothing_loose format file blocks one)
    → IsTrue (has_room nothing_loose format file blocks other) → one ≡ other

-- Every byte that no field names is 0: behind the header, behind the stored number of a data block, and inside of an
-- entry. Source: `struct v2_disk_dqinfo` of the kernel's `fs/quota/quotaio_v2.h`, and `struct qt_disk_dqdbheader` of
-- `fs/quota/quota_tree.h` (`dqdh_pad1`, `dqdh_pad2`).
pub record HasNoPadding (format : Format) (file : List ℕ) (blocks : ℕ) : Type 0 where
  pub behind_header : (at : ℕ) → 32 ≤ at → at < 1024 → byte_at file at ≡ 0
  pub behind_count : (block : ℕ) → StandsIn (data_blocks file blocks) block → (at : ℕ) → 10 ≤ at → at < 16
      → byte_at (block_of file block) at ≡ 0
  pub in_entries : (block : ℕ) → StandsIn (data_blocks file blocks) block → (place : ℕ)
      → place < entries_per_block format
      → padding_of format (entry_bytes format (block_of file block) place) ≡ 0

-- A file was not built since it needs more blocks than it may have, or for lack of memory.
abbrev pub IsBuildFault : ℕ → ℕ → BuildFault → Type 0
IsBuildFault needed most (Full blocks limit) = (most < needed) × (blocks ≡ needed) × (limit ≡ most)
IsBuildFault needed most Memory = ⊤
