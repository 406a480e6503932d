-- The edits of an opened quota file. Source: setquota(8), whose forms set four limits, copy those of another user, set
-- the grace periods of the file, and set the times of one user.
use Rattle.std.specs.Prelude.{◌≡◌, ℕ, Bool, true, false, ◌&&◌, None, Some, Option, IfSome, is_none}
use Rattle.std.specs.FinMap.{get}
use Rattle.quota_types.specs.Kept.{IsKept}
use Rattle.quota_types.specs.Range.{grace_unfit, unfit}
use Rattle.quota_types.specs.Rec.{is_null_of}
use Rattle.quota_types.specs.declared.field.Field.{Field}
use Rattle.quota_types.specs.declared.file_kind.Format.{Format}
use Rattle.quota_types.specs.declared.record.Grace.{Grace}
use Rattle.quota_types.specs.declared.record.Rec.{Rec}
use Rattle.opened_file.specs.FileChange.{SetGrace}
use Rattle.quota_value.specs.QuotaValue.{QuotaValue, with_grace}
use Rattle.set_edit.specs.Edited.{limits_change, limits_set, unless_unfit, wanted_limits}
use Rattle.set_edit.specs.Editing.{Edit}
use Rattle.set_edit.specs.Times.{found_or_zeros, skips_both_of, times_change, times_set, with_times}
use Rattle.set_edit.specs.declared.limits.Limits.{Limits}
use Rattle.set_edit.specs.declared.time_word.TimeWord.{TimeWord}

-- the identifier has no record, and the one with these limits is null, so that there is none afterwards either
abbrev pub limits_idle : QuotaValue → ℕ → Limits → ℕ → Bool
limits_idle value id limits now =
    is_none (get value.records id) && is_null_of (wanted_limits None limits value.grace now)

-- the format has no room for this field of the record with these limits, which is made of one that it keeps and of
-- grace periods that fit
abbrev pub LimitsMayLack : ℕ → Limits → ℕ → Format → (Field × ℕ) → Type 0
LimitsMayLack id limits now format out =
    (old : Option Rec) × (grace : Grace) × IfSome old (IsKept format id) × (grace_unfit format grace ≡ None)
    × (unfit format id (wanted_limits old limits grace now) ≡ Some out)

-- the four limits of an identifier are set
abbrev pub limits_edit : ℕ → Limits → ℕ → Edit
limits_edit id limits now = record {
  edited = λ value. limits_set value id limits now;
  change = λ value. limits_change value id limits now;
  is_idle = λ value. limits_idle value id limits now;
  needs_room = true;
  id = id;
  may_lack = LimitsMayLack id limits now;
}

-- the four limits of a record, which are 0 where there is none
abbrev pub limits_of : Option Rec → Limits
limits_of found =
    let rec = found_or_zeros found in
    record { bsoft = rec.bsoft; bhard = rec.bhard; isoft = rec.isoft; ihard = rec.ihard }

-- the four limits of an identifier of the value
abbrev pub limits_in : QuotaValue → ℕ → Limits
limits_in value id = limits_of (get value.records id)

-- the format has no room for this field of the record with the limits of another one; it keeps that one too
abbrev pub CopyMayLack : (from to now : ℕ) → Format → (Field × ℕ) → Type 0
CopyMayLack from to now format out =
    (source : Option Rec) × IfSome source (IsKept format from) × LimitsMayLack to (limits_of source) now format out

-- the four limits of an identifier are set to those of another one
abbrev pub copy_edit : (from to now : ℕ) → Edit
copy_edit from to now = record {
  edited = λ value. limits_set value to (limits_in value from) now;
  change = λ value. limits_change value to (limits_in value from) now;
  is_idle = λ value. limits_idle value to (limits_in value from) now;
  needs_room = true;
  id = to;
  may_lack = CopyMayLack from to now;
}

-- both grace periods are set; they are as large in every file, so there is always room, and no identifier is named
abbrev pub grace_edit : Grace → Edit
grace_edit grace = record {
  edited = λ value. unless_unfit (grace_unfit value.format grace) (with_grace value grace);
  change = λ _. SetGrace grace;
  is_idle = λ _. false;
  needs_room = false;
  id = 0;
  may_lack = λ format out. grace_unfit format grace ≡ Some out;
}

-- the format has no room for this field of the record with these times, which is made of one that it keeps
abbrev pub TimesMayLack : ℕ → TimeWord → TimeWord → ℕ → Format → (Field × ℕ) → Type 0
TimesMayLack id block inode now format out =
    (old : Option Rec) × IfSome old (IsKept format id)
    × (unfit format id (with_times (found_or_zeros old) block inode now) ≡ Some out)

-- the times of an identifier are set, where its soft limits are exceeded
abbrev pub times_edit : ℕ → TimeWord → TimeWord → ℕ → Edit
times_edit id block inode now = record {
  edited = λ value. times_set value id block inode now;
  change = λ value. times_change value id block inode now;
  is_idle = λ value. skips_both_of value id;
  needs_room = true;
  id = id;
  may_lack = TimesMayLack id block inode now;
}
