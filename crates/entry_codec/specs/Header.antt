-- The header of a tree file. Source: `struct v2_disk_dqheader` and `struct v2_disk_dqinfo` of the quota tools, which
-- stand one after the other at the start of the file.
use Rattle.std.specs.Prelude.{ℕ, Bool, ◌||◌, ◌==◌, nat_lt, if◌then◌else◌, List, Option, Some, None}
use Rattle.quota_types.specs.Bytes.{number_at}
use Rattle.quota_types.specs.declared.file_kind.Format.{Format}
use Rattle.quota_types.specs.declared.file_kind.Format.TheVariants.{V2R0, V2R1}
use Rattle.quota_types.specs.declared.file_kind.Kind.{Kind}
use Rattle.quota_types.specs.declared.file_kind.Kind.TheVariants.{User, Group, Project}
use Rattle.entry_codec.specs.declared.header.HeaderFault.{HeaderFault}
use Rattle.entry_codec.specs.declared.header.HeaderFault.TheVariants.{NotQuota, WrongKind, UnknownVersion}
use Rattle.entry_codec.specs.declared.header.HeaderFault.TheVariants.{BadBlockCount}

-- the eight numbers of a header
pub record HeaderNumbers : Type 0 where
  pub magic : ℕ
  pub version : ℕ
  pub block_grace : ℕ
  pub inode_grace : ℕ
  pub flags : ℕ
  pub blocks : ℕ
  pub free : ℕ
  pub first : ℕ

-- the eight numbers of four bytes each at the start of a file; bytes past its end count as 0
abbrev pub header_of : List ℕ → HeaderNumbers
header_of file = record {
  magic = number_at 4 file 0;
  version = number_at 4 file 4;
  block_grace = number_at 4 file 8;
  inode_grace = number_at 4 file 12;
  flags = number_at 4 file 16;
  blocks = number_at 4 file 20;
  free = number_at 4 file 24;
  first = number_at 4 file 28;
}

-- the magic number of the files of a kind
abbrev pub magic_of : Kind → ℕ
magic_of User = 0xd9c01f11
magic_of Group = 0xd9c01927
magic_of Project = 0xd9c03f14

-- the magic number of a quota file, of whatever kind
abbrev pub is_magic : ℕ → Bool
is_magic magic = magic == magic_of User || magic == magic_of Group || magic == magic_of Project

-- the format with this version number
abbrev pub format_of : ℕ → Option Format
format_of version = if version == 0 then Some V2R0 else if version == 1 then Some V2R1 else None

-- the first reason, in this order, for which numbers are no header of a file of this kind: they are of no quota file,
-- of one of another kind, of a version that is neither 0 nor 1, or of fewer than the two blocks of header and root
abbrev pub header_fault : Kind → HeaderNumbers → Option HeaderFault
header_fault kind numbers =
    if is_magic numbers.magic then
    if numbers.magic == magic_of kind then
    if nat_lt numbers.version 2 then
    if nat_lt numbers.blocks 2 then Some BadBlockCount else None
    else Some UnknownVersion
    else Some WrongKind
    else Some NotQuota
