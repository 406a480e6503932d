-- What an edit of one identifier's record makes of a quota value. Source: setquota(8), whose four limits replace those
-- of the record, and `update_grace_times` of the quota tools.
use Rattle.std.specs.Prelude.{ℕ, if◌then◌else◌, Option, Some, None, unwrap_or, Result, Ok, Err}
use Rattle.std.specs.FinMap.{get}
use Rattle.quota_types.specs.Kept.{kept_of}
use Rattle.quota_types.specs.Range.{unfit}
use Rattle.quota_types.specs.Rec.{is_null_of, zero_record}
use Rattle.quota_types.specs.Timers.{timers_of}
use Rattle.quota_types.specs.declared.field.Field.{Field}
use Rattle.quota_types.specs.declared.file_kind.Format.{Format}
use Rattle.quota_types.specs.declared.record.Grace.{Grace}
use Rattle.quota_types.specs.declared.record.Rec.{Rec}
use Rattle.opened_file.specs.FileChange.{FileChange, Put, Remove, changed_value}
use Rattle.quota_value.specs.QuotaValue.{QuotaValue}
use Rattle.set_edit.specs.declared.limits.Limits.{Limits}

-- the record with these four limits
abbrev pub with_limits : Rec → Limits → Rec
with_limits rec limits =
    record rec { ihard = limits.ihard; isoft = limits.isoft; bhard = limits.bhard; bsoft = limits.bsoft }

-- the record that is wanted of an identifier: the one that it has, or one of zeros, with these four limits, and then
-- with both timers as they are to be
abbrev pub wanted_limits : Option Rec → Limits → Grace → ℕ → Rec
wanted_limits old limits grace now = timers_of (with_limits (unwrap_or old zero_record) limits) grace now

-- the change that gives an identifier what the format keeps of this record, or takes the one that it has away where
-- this one is null
abbrev pub kept_change : Format → ℕ → Rec → FileChange
kept_change format id rec = if is_null_of rec then Remove id else Put id (kept_of format id rec)

-- the value with no record of the identifier where this one is null, and otherwise with what the format keeps of this
-- one
abbrev pub with_kept : QuotaValue → ℕ → Rec → QuotaValue
with_kept value id rec = changed_value (kept_change value.format id rec) value

-- the value, or the refusal of the field that does not fit
abbrev pub unless_unfit : Option (Field × ℕ) → QuotaValue → Result QuotaValue (Field × ℕ)
unless_unfit None value = Ok value
unless_unfit (Some field) value = Err field

-- The value with a wanted record of the identifier, all others as they are. It is refused with the first field of the
-- record for which the format has no room, and that field's value.
abbrev pub edited : QuotaValue → ℕ → Rec → Result QuotaValue (Field × ℕ)
edited value id rec = unless_unfit (unfit value.format id rec) (with_kept value id rec)

-- the change of the file that sets these four limits of the identifier
abbrev pub limits_change : QuotaValue → ℕ → Limits → ℕ → FileChange
limits_change value id limits now =
    kept_change value.format id (wanted_limits (get value.records id) limits value.grace now)

-- the value with these four limits of the identifier
abbrev pub limits_set : QuotaValue → ℕ → Limits → ℕ → Result QuotaValue (Field × ℕ)
limits_set value id limits now = edited value id (wanted_limits (get value.records id) limits value.grace now)
