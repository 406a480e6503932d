-- The record that comes next in a value.
use Rattle.std.specs.Prelude.{◌≡◌, ℕ, ◌<◌, Option, Some, None}
use Rattle.std.specs.FinMap.{get}
use Rattle.quota_types.specs.Ids.{IsAfter}
use Rattle.quota_types.specs.declared.record.Entry.{Entry}
use Rattle.quota_value.specs.QuotaValue.{Records}

-- the least identifier that comes after another one, with its record, or none where there is none
abbrev pub IsNextAfter : Option ℕ → Records → Option Entry → Type 0
IsNextAfter after records None = (id : ℕ) → IsAfter after id → get records id ≡ None
IsNextAfter after records (Some entry) =
    IsAfter after entry.id
    × (get records entry.id ≡ Some entry.rec)
    × ((id : ℕ) → IsAfter after id → id < entry.id → get records id ≡ None)
