-- The changes of an opened quota file.
use Rattle.std.specs.Prelude.{ℕ}
use Rattle.quota_types.specs.declared.record.Grace.{Grace}
use Rattle.quota_types.specs.declared.record.Rec.{Rec}
use Rattle.quota_value.specs.QuotaValue.{QuotaValue, with_grace, with_record, without_record}

-- a record of an identifier is put or taken away, or the grace periods are set
pub data FileChange : Type 0 where
  Put : ℕ → Rec → FileChange
  Remove : ℕ → FileChange
  SetGrace : Grace → FileChange

-- the value once it was changed so
abbrev pub changed_value : FileChange → QuotaValue → QuotaValue
changed_value (Put id rec) value = with_record value id rec
changed_value (Remove id) value = without_record value id
changed_value (SetGrace grace) value = with_grace value grace
