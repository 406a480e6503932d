-- Why a flat file is not opened.
use Rattle.std.specs.Prelude.{◌≡◌, ℕ, ◌<◌, ◌≤◌, Bool, IsTrue, List, length, Option, None, IsSomeAnd, ⊤}
use Rattle.quota_types.specs.declared.damage.DamageKind.TheVariants.{PartialRecord}
use Rattle.quota_types.specs.declared.file_kind.Format.{Format}
use Rattle.outside.specs.Count.{Rose}
use Rattle.opened_file.specs.declared.quota_file.OpenFault.{OpenFault}
use Rattle.opened_file.specs.declared.quota_file.OpenFault.TheVariants.{Store, NoFile, TooLarge, Memory}
use Rattle.opened_file.specs.declared.quota_file.OpenFault.TheVariants.{Damage as Damaged}
use Rattle.quota_v1.specs.Place.{flat_limit}
use Rattle.quota_v1.specs.View.{IsFlatDefect}

-- Why opening is refused: the store's count of faults rose, there is not enough memory, there is no file, it is too
-- large, or its last record is cut off. What is said of the file holds where the store tells it, whatever kind is asked
-- for; that no other refusal comes, and where the limit lies, holds always.
abbrev pub IsFlatFault : Format → ℕ → ℕ → Bool → Option (List ℕ) → OpenFault → Type 0
IsFlatFault format before now tells named Store = Rose before now
IsFlatFault format before now tells named Memory = ⊤
IsFlatFault format before now tells named NoFile = IsTrue tells → named ≡ None
IsFlatFault format before now tells named (TooLarge number limit) =
    (limit ≡ flat_limit format)
    × (IsTrue tells → IsSomeAnd named (λ file. (flat_limit format < length file) × (number ≡ length file)))
IsFlatFault format before now tells named (Damaged damage) =
    ((damage.kind ≡ PartialRecord) × (damage.id ≡ 0))
    × (IsTrue tells → IsSomeAnd named (λ file. (length file ≤ flat_limit format) × IsFlatDefect format file damage))
IsFlatFault format before now tells named _ = ⊥
