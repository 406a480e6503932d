-- What a quota file stands for, whatever its format.
use Rattle.std.specs.Prelude.{ℕ}
use Rattle.std.specs.Ordering.{nat_cmp}
use Rattle.std.specs.FinMap.{FinMap, insert, remove}
use Rattle.quota_types.specs.declared.file_kind.Kind.{Kind}
use Rattle.quota_types.specs.declared.file_kind.Format.{Format}
use Rattle.quota_types.specs.declared.record.Rec.{Rec}
use Rattle.quota_types.specs.declared.record.Grace.{Grace}

-- records by their identifiers
abbrev pub Records : Type 0
Records = FinMap nat_cmp Rec

-- Whose usage is limited, the format, the grace periods in seconds, the flags, and the records.
pub record QuotaValue : Type 0 where
  pub kind : Kind
  pub format : Format
  pub grace : Grace
  pub flags : ℕ
  pub records : Records

-- the value with this record of the identifier
abbrev pub with_record : QuotaValue → ℕ → Rec → QuotaValue
with_record value id rec = record value { records = insert value.records id rec }

-- the value with no record of the identifier
abbrev pub without_record : QuotaValue → ℕ → QuotaValue
without_record value id = record value { records = remove value.records id }

-- the value with these grace periods
abbrev pub with_grace : QuotaValue → Grace → QuotaValue
with_grace value grace = record value { grace = grace }
