-- Why a call on an opened flat file is refused, and what one makes of its bytes.
use Rattle.std.specs.Prelude.{◌≡◌, ℕ, List, ⊤}
use Rattle.quota_types.specs.declared.damage.DamageKind.TheVariants.{PartialRecord}
use Rattle.quota_types.specs.declared.file_kind.Format.{Format}
use Rattle.quota_types.specs.declared.record.Rec.{Rec}
use Rattle.quota_value.specs.QuotaValue.{QuotaValue}
use Rattle.opened_file.specs.FileChange.{FileChange, changed_value}
use Rattle.opened_file.specs.declared.quota_file.FileFault.{FileFault}
use Rattle.opened_file.specs.declared.quota_file.FileFault.TheVariants.{Store, Damage, Full, Memory}
use Rattle.quota_v1.specs.FlatFile.{FlatStandsFor, stored_at}
use Rattle.quota_v1.specs.Change.{FlatChanged}
use Rattle.quota_v1.specs.Place.{record_start}

-- Bytes are what a change makes of others: of each value that those stand for they stand for the changed one.
pub record IsFlatChange (format : Format) (change : FileChange) (before after : List ℕ) : Type 0 where
  pub changed : FlatChanged format change before after
  pub stands : (value : QuotaValue) → FlatStandsFor format before value
      → FlatStandsFor format after (changed_value change value)

-- The faults that a call on an opened flat file may answer, whatever the store tells: of damages, that a record is cut
-- off. It is never full, and takes no memory.
abbrev pub MayRefuse : FileFault → Type 0
MayRefuse Store = ⊤
MayRefuse (Damage damage) = (damage.kind ≡ PartialRecord) × (damage.id ≡ 0)
MayRefuse (Full _ _) = ⊥
MayRefuse Memory = ⊥

-- the bytes of an identifier, as a record
abbrev pub stored_record : Format → List ℕ → ℕ → Rec
stored_record format file id = stored_at format file (record_start format id)
