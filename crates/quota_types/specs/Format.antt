-- What kind of file a format is, and how long its records are. Source: the records on disk, `struct v1_disk_dqblk` and
-- `struct v2r0_disk_dqblk` and `struct v2r1_disk_dqblk` of the quota tools.
use Rattle.std.specs.Prelude.{◌≡◌, ℕ, Bool, true, false}
use Rattle.quota_types.specs.declared.file_kind.Format.{Format}
use Rattle.quota_types.specs.declared.file_kind.Format.TheVariants.{V1, V1R32, V2R0, V2R1}

-- a file of the format is a flat table of records, in which an identifier is a place, and no tree of blocks
abbrev pub is_flat : Format → Bool
is_flat V1 = true
is_flat V1R32 = true
is_flat V2R0 = false
is_flat V2R1 = false

-- a file of the format is a tree of blocks
abbrev pub IsTreeFormat : Format → Type 0
IsTreeFormat format = is_flat format ≡ false

-- the bytes that a file of the format has for the record of one identifier
abbrev pub record_size : Format → ℕ
record_size V1 = 40
record_size V1R32 = 32
record_size V2R0 = 48
record_size V2R1 = 72
