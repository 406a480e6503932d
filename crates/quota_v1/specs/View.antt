-- What is seen of a flat file by whoever opens it: the value that it stands for, or the first refusal that holds.
use Rattle.std.specs.Prelude.{◌≡◌, ◌≢◌, ℕ, ◌/◌, ◌%◌, ◌<◌, ◌≤◌, List, length, Option, None, Result, Ok, Err, IsSomeAnd}
use Rattle.quota_types.specs.Format.{record_size}
use Rattle.quota_types.specs.declared.file_kind.Format.{Format}
use Rattle.quota_types.specs.declared.file_kind.Kind.{Kind}
use Rattle.quota_types.specs.declared.damage.Damage.{Damage}
use Rattle.quota_types.specs.declared.damage.DamageKind.TheVariants.{PartialRecord}
use Rattle.quota_value.specs.QuotaValue.{QuotaValue}
use Rattle.opened_file.specs.declared.quota_file.OpenFault.{OpenFault}
use Rattle.opened_file.specs.declared.quota_file.OpenFault.TheVariants.{NoFile, TooLarge, Damage as Damaged}
use Rattle.quota_v1.specs.FlatFile.{FlatStandsFor}
use Rattle.quota_v1.specs.Place.{flat_limit}

-- what is wrong with the bytes of a flat file: the last record is cut off
pub record IsFlatDefect (format : Format) (file : List ℕ) (damage : Damage) : Type 0 where
  pub cut : length file % record_size format ≢ 0
  pub kind : damage.kind ≡ PartialRecord
  pub block : damage.block ≡ length file / record_size format
  pub id : damage.id ≡ 0

-- The file stands for a value of the kind, or is refused: there is none, it is too large, or it is damaged, in this
-- order.
abbrev pub IsFlatView : Format → Option (List ℕ) → Kind → Result QuotaValue OpenFault → Type 0
IsFlatView format named kind (Ok value) =
    IsSomeAnd named (λ file. (length file ≤ flat_limit format) × FlatStandsFor format file value) × (value.kind ≡ kind)
IsFlatView format named kind (Err NoFile) = named ≡ None
IsFlatView format named kind (Err (TooLarge number limit)) =
    IsSomeAnd named (λ file. (flat_limit format < length file) × (number ≡ length file)) × (limit ≡ flat_limit format)
IsFlatView format named kind (Err (Damaged damage)) =
    IsSomeAnd named (λ file. (length file ≤ flat_limit format) × IsFlatDefect format file damage)
IsFlatView format named kind (Err _) = ⊥
