-- Ends of grace periods that are set by hand. Source: `setquota -T` of setquota(8), which sets the times of a user
-- whose soft limit is exceeded to a number of seconds from now, or unsets them.
use Rattle.std.specs.Prelude.{ℕ, ◌+◌, Bool, ◌&&◌, not, if◌then◌else◌, Option, unwrap_or, Result}
use Rattle.std.specs.FinMap.{get}
use Rattle.quota_types.specs.Range.{unfit}
use Rattle.quota_types.specs.Rec.{kib_of, zero_record}
use Rattle.quota_types.specs.Timers.{is_exceeded}
use Rattle.quota_types.specs.declared.field.Field.{Field}
use Rattle.quota_types.specs.declared.record.Rec.{Rec}
use Rattle.opened_file.specs.FileChange.{FileChange}
use Rattle.quota_value.specs.QuotaValue.{QuotaValue}
use Rattle.set_edit.specs.Edited.{kept_change, unless_unfit, with_kept}
use Rattle.set_edit.specs.declared.skipped.Skipped.{Skipped}
use Rattle.set_edit.specs.declared.time_word.TimeWord.{TimeWord}
use Rattle.set_edit.specs.declared.time_word.TimeWord.TheVariants.{Seconds, Unset}

-- the timer that a word asks for: a number of seconds from now, or none
abbrev pub time_of : TimeWord → ℕ → ℕ
time_of (Seconds seconds) now = now + seconds
time_of Unset now = 0

-- which times of a record are skipped: those whose soft limit is 0 or is not exceeded
abbrev pub times_skipped : Rec → Skipped
times_skipped rec = record {
  block = not (is_exceeded rec.bsoft (kib_of rec.space));
  inode = not (is_exceeded rec.isoft rec.inodes);
}

-- both times are skipped
abbrev pub skips_both : Skipped → Bool
skips_both skipped = skipped.block && skipped.inode

-- a record with the timers that the words ask for, where they are not skipped
abbrev pub with_times : Rec → TimeWord → TimeWord → ℕ → Rec
with_times rec block inode now = record rec {
  btime = if (times_skipped rec).block then rec.btime else time_of block now;
  itime = if (times_skipped rec).inode then rec.itime else time_of inode now;
}

-- the record of an identifier, or one of zeros where it has none
abbrev pub found_or_zeros : Option Rec → Rec
found_or_zeros found = unwrap_or found zero_record

-- the record of an identifier of the value, or one of zeros
abbrev pub record_in : QuotaValue → ℕ → Rec
record_in value id = found_or_zeros (get value.records id)

-- the record that is wanted of an identifier whose times are set
abbrev pub wanted_times : QuotaValue → ℕ → TimeWord → TimeWord → ℕ → Rec
wanted_times value id block inode now = with_times (record_in value id) block inode now

-- the change of the file that sets these times of the identifier
abbrev pub times_change : QuotaValue → ℕ → TimeWord → TimeWord → ℕ → FileChange
times_change value id block inode now = kept_change value.format id (wanted_times value id block inode now)

-- both times of the identifier are skipped
abbrev pub skips_both_of : QuotaValue → ℕ → Bool
skips_both_of value id = skips_both (times_skipped (record_in value id))

-- The value with these times of the identifier, all others as they are; the same value where both are skipped. It is
-- refused with the first field of the wanted record for which the format has no room, even where both are skipped: then
-- that is the identifier.
abbrev pub times_set : QuotaValue → ℕ → TimeWord → TimeWord → ℕ → Result QuotaValue (Field × ℕ)
times_set value id block inode now =
    let wanted = wanted_times value id block inode now in
    unless_unfit (unfit value.format id wanted) (if skips_both_of value id then value else with_kept value id wanted)
