-- What a flat quota file stands for. Source: the table of vfsold, `struct v1_disk_dqblk` of the quota tools, as they
-- write it on 64-bit x86, or for vfsold32 on 32-bit x86.
use Rattle.std.specs.Prelude.{◌≡◌, ℕ, ◌+◌, ◌*◌, ◌%◌, ◌==◌, nat_le, if◌then◌else◌, List, length, Option, Some, None}
use Rattle.std.specs.FinMap.{get}
use Rattle.quota_types.specs.Format.{record_size}
use Rattle.quota_types.specs.declared.file_kind.Format.{Format}
use Rattle.quota_types.specs.declared.record.Rec.{Rec}
use Rattle.quota_types.specs.declared.record.Grace.{Grace}
use Rattle.quota_types.specs.Bytes.{number_at}
use Rattle.quota_types.specs.Kept.{without_timers_of_zero}
use Rattle.quota_types.specs.Rec.{is_zeros}
use Rattle.quota_value.specs.QuotaValue.{QuotaValue}
use Rattle.quota_v1.specs.Place.{block_time_at, block_time_start, inode_time_at, inode_time_start, record_start}
use Rattle.quota_v1.specs.Place.{time_width}

-- the bytes of a record of this format, from a place on, as a record; the space is in KiB on disk
abbrev pub stored_at : Format → List ℕ → ℕ → Rec
stored_at format bytes at = record {
  bhard = number_at 4 bytes at;
  bsoft = number_at 4 bytes (at + 4);
  space = 1024 * number_at 4 bytes (at + 8);
  ihard = number_at 4 bytes (at + 12);
  isoft = number_at 4 bytes (at + 16);
  inodes = number_at 4 bytes (at + 20);
  btime = number_at (time_width format) bytes (at + block_time_at);
  itime = number_at (time_width format) bytes (at + inode_time_at format);
}

-- the bytes from a place on, as the record of an identifier: identifier 0 has no timers, since the times of record 0
-- are the grace periods
abbrev pub timed_at : Format → List ℕ → (at id : ℕ) → Rec
timed_at format bytes at id = without_timers_of_zero id (stored_at format bytes at)

-- the record of an identifier
abbrev pub timed_record : Format → List ℕ → ℕ → Rec
timed_record format file id = timed_at format file (record_start format id) id

-- none where all is zero
abbrev pub unless_zeros : Rec → Option Rec
unless_zeros rec = if is_zeros rec then None else Some rec

-- the record of an identifier, where the file has all its bytes and the record is not all zero
abbrev pub flat_record : Format → List ℕ → ℕ → Option Rec
flat_record format file id =
    if nat_le (record_start format id + record_size format) (length file)
    then unless_zeros (timed_record format file id) else None

-- a grace period as it is stored, where 0 stands for 7 days
abbrev pub or_week : ℕ → ℕ
or_week seconds = if seconds == 0 then 604800 else seconds

-- the grace periods are the times of record 0; where there is none they are 0
abbrev pub flat_grace : Format → List ℕ → Grace
flat_grace format file = record {
  block = or_week (number_at (time_width format) file (block_time_start format 0));
  inode = or_week (number_at (time_width format) file (inode_time_start format 0));
}

-- The file is whole records of the layout of a format, and the value has the records and the grace periods of the file.
-- It may be one of any kind: nothing in it tells of which.
pub record FlatStandsFor (layout : Format) (file : List ℕ) (value : QuotaValue) : Type 0 where
  pub whole : length file % record_size layout ≡ 0
  pub format : value.format ≡ layout
  pub flags : value.flags ≡ 0
  pub grace : value.grace ≡ flat_grace layout file
  pub records : (id : ℕ) → get value.records id ≡ flat_record layout file id
