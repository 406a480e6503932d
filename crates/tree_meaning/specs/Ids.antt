-- The identifiers of a value.
use Rattle.std.specs.Prelude.{ℕ, List, map}
use Rattle.std.specs.FinMap.{entries}
use Rattle.quota_value.specs.QuotaValue.{Records}

-- the identifiers that have a record, ascending
abbrev pub ids_in : Records → List ℕ
ids_in records = map (λ entry. entry.0) (entries records)
