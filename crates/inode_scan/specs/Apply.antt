-- The records of a quota file once the usage is that of a listing. Source: quotacheck(8), which sets the usage and
-- leaves the limits.
use Rattle.std.specs.Prelude.{◌≡◌, ℕ, if◌then◌else◌, map, ◌++◌, Option, Some, None, Result, Err, slice_get, unwrap_or}
use Rattle.std.specs.Prelude.{⊤}
use Rattle.std.specs.FinMap.{entries, from_entries, get, keys}
use Rattle.std.specs.List.{filter_map}
use Rattle.std.specs.Option.{option_map}
use Rattle.quota_types.specs.declared.field.NoRoom.{NoRoom}
use Rattle.quota_types.specs.declared.file_kind.Format.{Format}
use Rattle.quota_types.specs.declared.record.Entry.{Entry}
use Rattle.quota_types.specs.declared.record.Grace.{Grace}
use Rattle.quota_types.specs.declared.record.Rec.{Rec}
use Rattle.quota_types.specs.Kept.{kept_of}
use Rattle.quota_types.specs.Range.{unfit}
use Rattle.quota_types.specs.Rec.{is_null_of, zero_record}
use Rattle.quota_types.specs.Timers.{timers_of}
use Rattle.quota_value.specs.QuotaValue.{Records}
use Rattle.inode_scan.specs.declared.scan_fault.ApplyFault.{ApplyFault}
use Rattle.inode_scan.specs.declared.scan_fault.ApplyFault.TheVariants.{NoRoom as Unfit, Memory}
use Rattle.inode_scan.specs.declared.used.Used.{Used}
use Rattle.inode_scan.specs.Faults.{unless}
use Rattle.inode_scan.specs.Usage.{UsageMap}

-- the usage of an identifier that is not in the listing
abbrev pub no_usage : Used
no_usage = record { space = 0; inodes = 0 }

-- a record with this usage in place of its own
abbrev pub using : Rec → Used → Rec
using rec used = record rec { space = used.space; inodes = used.inodes }

-- The record that an identifier is to have: its limits and timers, or zeros where it has no record, the usage of the
-- listing, or zeros where it is not there, and then the timers that go with both.
abbrev pub wanted_record : Grace → (now : ℕ) → Option Rec → Option Used → Rec
wanted_record grace now rec used = timers_of (using (unwrap_or rec zero_record) (unwrap_or used no_usage)) grace now

-- the records that the identifiers of a file and of a listing are to have
unfoldable pub wanted : Grace → (now : ℕ) → Records → UsageMap → Records
wanted grace now records usage =
    from_entries
    (map (λ id. (id, wanted_record grace now (get records id) (get usage id))) (keys records ++ keys usage))

-- the first value of a record for which the format has no room
abbrev pub no_room : Format → ℕ × Rec → Option NoRoom
no_room format entry =
    option_map (λ out. record { id = entry.0; field = out.0; value = out.1 }) (unfit format entry.0 entry.1)

-- what the format keeps of a record, unless that is null
abbrev pub kept_entry : Format → ℕ × Rec → Option (ℕ × Rec)
kept_entry format entry =
    if is_null_of (kept_of format entry.0 entry.1) then None else Some (entry.0, kept_of format entry.0 entry.1)

-- an entry is what the format keeps of a record, and there is none where that is null
abbrev pub IsKeptEntry : Format → ℕ × Rec → Option Entry → Type 0
IsKeptEntry format entry kept = option_map (λ kept. (kept.id, kept.rec)) kept ≡ kept_entry format entry

-- the value of the least identifier for which the format has no room
abbrev pub first_no_room : Format → Records → Option NoRoom
first_no_room format records = slice_get (filter_map (no_room format) (entries records)) 0

-- what the format keeps of records, without those that are null
abbrev pub kept_records : Format → Records → Records
kept_records format records = from_entries (filter_map (kept_entry format) (entries records))

-- the records of a file of the format once the usage is that of a listing, or the first value for which there is no
-- room
unfoldable pub applied : Format → Grace → (now : ℕ) → Records → UsageMap → Result Records NoRoom
applied format grace now records usage =
    unless (first_no_room format (wanted grace now records usage))
    (kept_records format (wanted grace now records usage))

-- there is no room for a value, or memory ran out, which is left open
abbrev pub IsApplyFault : Result Records NoRoom → ApplyFault → Type 0
IsApplyFault comes_to (Unfit out) = comes_to ≡ Err out
IsApplyFault comes_to Memory = ⊤
