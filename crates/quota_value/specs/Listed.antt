-- Listed entries, and the value that has them for its records.
use Rattle.std.specs.Prelude.{ℕ, List, map}
use Rattle.std.specs.FinMap.{from_entries}
use Rattle.quota_types.specs.declared.file_kind.Format.{Format}
use Rattle.quota_types.specs.declared.file_kind.Kind.{Kind}
use Rattle.quota_types.specs.declared.record.Entry.{Entry}
use Rattle.quota_types.specs.declared.record.Grace.{Grace}
use Rattle.quota_value.specs.QuotaValue.{QuotaValue, Records}

-- the identifiers of entries, in order
abbrev pub ids_of : List Entry → List ℕ
ids_of entries = map (λ entry. entry.id) entries

-- the records of entries, by their identifiers
abbrev pub records_of : List Entry → Records
records_of entries = from_entries (map (λ entry. (entry.id, entry.rec)) entries)

-- the value that has this header's values, and the records of these entries
abbrev pub value_of : Kind → Format → Grace → ℕ → List Entry → QuotaValue
value_of kind format grace flags entries =
    record { kind = kind; format = format; grace = grace; flags = flags; records = records_of entries }
