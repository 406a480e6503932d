-- Values and their conversion with the records in a list, as the code has them. No contract of a public call speaks of
-- it.
use Rattle.std.specs.Prelude.{not, map, filter, List, Option}
use Rattle.std.specs.List.{filter_map}
use Rattle.quota_types.specs.declared.field.NoRoom.{NoRoom}
use Rattle.quota_types.specs.declared.file_kind.Format.{Format}
use Rattle.quota_types.specs.declared.record.Entry.{Entry}
use Rattle.quota_types.specs.Kept.{kept_of}
use Rattle.quota_types.specs.Rec.{is_null_of}
use Rattle.convert.specs.Conversion.{record_no_room}

-- the entries that limit or count something
abbrev pub lasting_entries : List Entry → List Entry
lasting_entries list = filter (λ entry. not (is_null_of entry.rec)) list

-- an entry as a format keeps it
abbrev pub kept_entry : Format → Entry → Entry
kept_entry format entry = record { id = entry.id; rec = kept_of format entry.id entry.rec }

-- what a format keeps of the entries that limit or count something
abbrev pub kept_list : Format → List Entry → List Entry
kept_list format list = map (kept_entry format) (lasting_entries list)

-- the first value of an entry for which a format has no room
abbrev pub entry_no_room : Format → Entry → Option NoRoom
entry_no_room format entry = record_no_room format (entry.id, entry.rec)

-- the first value of each of those entries for which a format has no room
abbrev pub list_without_room : Format → List Entry → List NoRoom
list_without_room format list = filter_map (entry_no_room format) (lasting_entries list)
