-- An edit of an opened quota file.
use Rattle.std.specs.Prelude.{ℕ, Bool, Result}
use Rattle.quota_types.specs.declared.field.Field.{Field}
use Rattle.quota_types.specs.declared.file_kind.Format.{Format}
use Rattle.opened_file.specs.FileChange.{FileChange}
use Rattle.quota_value.specs.QuotaValue.{QuotaValue}

-- An edit: what it makes of a value, or the first field for which the format has no room, with that field's value; by
-- which change of the file; at which values nothing is to be done; whether the file may lack room for what it makes;
-- which identifier a refusal for a value without room names; and which fields of a format, with their values, may have
-- no room, whatever the store tells.
pub record Edit : Type 1 where
  pub edited : QuotaValue → Result QuotaValue (Field × ℕ)
  pub change : QuotaValue → FileChange
  pub is_idle : QuotaValue → Bool
  pub needs_room : Bool
  pub id : ℕ
  pub may_lack : Format → (Field × ℕ) → Type 0
