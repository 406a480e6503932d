-- What a change of format makes of the value of a quota file. Source: convertquota(8), which carries limits, usage,
-- timers and grace periods over; that nothing is cut, that records without limits and usage are left out, and that a
-- new file has no flags is this project's own.
use Rattle.std.specs.Prelude.{ℕ, not, map, filter, List, ◌++◌, Option, Some, None, Result, Ok, Err, slice_get}
use Rattle.std.specs.FinMap.{entries, from_entries}
use Rattle.std.specs.List.{filter_map}
use Rattle.std.specs.Option.{option_map, option_to_list}
use Rattle.quota_types.specs.declared.field.Field.{Field}
use Rattle.quota_types.specs.declared.field.NoRoom.{NoRoom}
use Rattle.quota_types.specs.declared.file_kind.Format.{Format}
use Rattle.quota_types.specs.declared.record.Grace.{Grace}
use Rattle.quota_types.specs.declared.record.Rec.{Rec}
use Rattle.quota_types.specs.Kept.{kept_of}
use Rattle.quota_types.specs.Range.{grace_unfit, unfit}
use Rattle.quota_types.specs.Rec.{is_null_of}
use Rattle.quota_value.specs.QuotaValue.{QuotaValue, Records}

-- the value, unless it is refused
abbrev pub unless : {A E : Type 0} → Option E → A → Result A E
unless None value = Ok value
unless (Some refusal) value = Err refusal

-- a field with its value, of a record of this identifier; the identifier is 0 for a grace period
abbrev pub no_room_at : ℕ → Field × ℕ → NoRoom
no_room_at id out = record { id = id; field = out.0; value = out.1 }

-- the first grace period for which a format has no room
abbrev pub grace_no_room : Format → Grace → Option NoRoom
grace_no_room format grace = option_map (no_room_at 0) (grace_unfit format grace)

-- the first value of an identifier's record for which a format has no room
abbrev pub record_no_room : Format → ℕ × Rec → Option NoRoom
record_no_room format entry = option_map (no_room_at entry.0) (unfit format entry.0 entry.1)

-- the records that limit or count something, by ascending identifiers
unfoldable pub lasting : Records → List (ℕ × Rec)
lasting records = filter (λ entry. not (is_null_of entry.1)) (entries records)

-- The values for which a format has no room, in the order in which they are told: the first grace period, then the
-- first value of each record that limits or counts something, by ascending identifiers.
unfoldable pub all_without_room : Format → QuotaValue → List NoRoom
all_without_room format value =
    option_to_list (grace_no_room format value.grace) ++ filter_map (record_no_room format) (lasting value.records)

-- what a format keeps of the records that limit or count something
unfoldable pub lasting_kept : Format → Records → Records
lasting_kept format records = from_entries (map (λ entry. (entry.0, kept_of format entry.0 entry.1)) (lasting records))

-- The value of the new file: of the same kind, with the same grace periods, without flags, and with what its format
-- keeps of the records that limit or count something.
abbrev pub converted_value : Format → QuotaValue → QuotaValue
converted_value format value =
    record {
      kind = value.kind;
      format = format;
      grace = value.grace;
      flags = 0;
      records = lasting_kept format value.records;
    }

-- a value in another format, or the first value for which that has no room
abbrev pub converted : Format → QuotaValue → Result QuotaValue NoRoom
converted format value = unless (slice_get (all_without_room format value) 0) (converted_value format value)
