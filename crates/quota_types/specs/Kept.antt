-- What a format keeps of a record that it has room for. Source: the records on disk, `struct v1_disk_dqblk` and
-- `struct v2r0_disk_dqblk` and `struct v2r1_disk_dqblk` of the quota tools.
use Rattle.std.specs.Prelude.{◌≡◌, ℕ, ◌*◌, None, Bool, ◌&&◌, ◌==◌, if◌then◌else◌}
use Rattle.quota_types.specs.Range.{unfit}
use Rattle.quota_types.specs.Rec.{is_null_of, kib_of}
use Rattle.quota_types.specs.declared.file_kind.Format.{Format}
use Rattle.quota_types.specs.declared.file_kind.Format.TheVariants.{V1, V1R32, V2R0, V2R1}
use Rattle.quota_types.specs.declared.record.Rec.{Rec}

-- the record of an identifier, without its timers where that is identifier 0: in their place a flat file has the grace
-- periods
abbrev pub without_timers_of_zero : ℕ → Rec → Rec
without_timers_of_zero id rec = if id == 0 then record rec { btime = 0; itime = 0 } else rec

-- the record of an identifier as a flat file has it: with the space in whole KiB, rounded up
abbrev pub whole_kib : ℕ → Rec → Rec
whole_kib id rec = without_timers_of_zero id (record rec { space = 1024 * kib_of rec.space })

-- the eight fields are 0 but for an itime of 1
abbrev pub is_marker : Rec → Bool
is_marker rec = is_null_of rec && rec.btime == 0 && rec.itime == 1

-- the record of an identifier, which is all 0 where it was the marker of identifier 0: a tree file has the marker in
-- place of a record of zeros of identifier 0, since an entry of zeros is an unused one
abbrev pub without_marker : ℕ → Rec → Rec
without_marker id rec = if id == 0 && is_marker rec then record rec { itime = 0 } else rec

-- What the format keeps of an identifier's record: a flat file the space in whole KiB, rounded up, and no timers of
-- identifier 0; a tree file all but the marker.
abbrev pub kept_of : Format → ℕ → Rec → Rec
kept_of V1 id rec = whole_kib id rec
kept_of V1R32 id rec = whole_kib id rec
kept_of V2R0 id rec = without_marker id rec
kept_of V2R1 id rec = without_marker id rec

-- the format has room for an identifier's record, and keeps it as it is
pub record IsKept (format : Format) (id : ℕ) (rec : Rec) : Type 0 where
  pub fits : unfit format id rec ≡ None
  pub again : kept_of format id rec ≡ rec
