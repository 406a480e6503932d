-- Where the records of a flat file stand, and the times of each. Source: the table of vfsold, `struct v1_disk_dqblk` of
-- the quota tools, as they write it on 64-bit x86 (vfsold), where its two times are of 64 bits, and on 32-bit x86
-- (vfsold32), where they are of
-- 32.
use Rattle.std.specs.Prelude.{ℕ, ◌+◌, ◌*◌, ◌/◌, ◌^◌}
use Rattle.quota_types.specs.Format.{record_size}
use Rattle.quota_types.specs.declared.file_kind.Format.{Format}
use Rattle.quota_types.specs.declared.file_kind.Format.TheVariants.{V1, V1R32, V2R0, V2R1}

-- how many bytes a format has for each of the two times of a record
abbrev pub time_width : Format → ℕ
time_width V1 = 8
time_width V1R32 = 4
time_width V2R0 = 8
time_width V2R1 = 8

-- the least number for which these bytes have no room
abbrev pub past_time : Format → ℕ
past_time format = 256 ^ time_width format

-- where the two times stand in a record: they are its last bytes, behind six numbers of four bytes each
abbrev pub block_time_at : ℕ
block_time_at = 24

abbrev pub inode_time_at : Format → ℕ
inode_time_at format = block_time_at + time_width format

-- where the record of an identifier starts: one stands behind another, from the first byte of the file on
unfoldable pub record_start : Format → ℕ → ℕ
record_start format id = record_size format * id

-- where its two times start
abbrev pub block_time_start : Format → ℕ → ℕ
block_time_start format id = record_start format id + block_time_at

abbrev pub inode_time_start : Format → ℕ → ℕ
inode_time_start format id = record_start format id + inode_time_at format

-- how many bytes a flat file may have: a record for each identifier below 1,048,576
abbrev pub flat_limit : Format → ℕ
flat_limit format = record_size format * 1048576

-- how many records are read at once: as many whole ones as one call of `read` gives
abbrev pub records_read : Format → ℕ
records_read format = 1024 / record_size format
