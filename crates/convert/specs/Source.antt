-- The file that is converted: what is read of it, and why it could not be read.
use Rattle.std.specs.Prelude.{◌≡◌, ℕ, Bool, IsTrue, List, Option, None, IfSome, Ok, ⊤}
use Rattle.std.specs.FinMap.{get}
use Rattle.quota_types.specs.declared.file_kind.Format.{Format}
use Rattle.quota_types.specs.declared.file_kind.Kind.{Kind}
use Rattle.quota_types.specs.Kept.{IsKept}
use Rattle.quota_types.specs.Range.{grace_unfit}
use Rattle.outside.specs.Count.{Rose}
use Rattle.quota_value.specs.QuotaValue.{QuotaValue}
use Rattle.opened_file.specs.declared.quota_file.FileFault.{FileFault}
use Rattle.opened_file.specs.declared.quota_file.FileFault.TheVariants.{Store, Damage, Full, Memory}
use Rattle.quota_map.specs.Asked.{InFormat}
use Rattle.quota_map.specs.AnyFile.{MayRefuse}
use Rattle.quota_map.specs.View.{IsOpenFault, IsView}
use Rattle.convert.specs.declared.convert_fault.ConvertFault.{ConvertFault}
use Rattle.convert.specs.declared.convert_fault.ConvertFault.TheVariants.{Open, File}

-- A value was read of a file: where the store tells, the one that is seen of it, and whatever it tells, one of the kind
-- and the format, which has room for the grace periods and for each record, and keeps it as it is.
pub record HasRead (tells : Bool) (named : Option (List ℕ)) (kind : Kind) (format : Format)
    (value : QuotaValue) : Type 0 where
  pub seen : IsTrue tells → IsView named kind (InFormat format) (Ok value)
  pub alone : IsTrue tells → (other : QuotaValue) → IsView named kind (InFormat format) (Ok other) → other ≡ value
  pub kind_is : value.kind ≡ kind
  pub format_is : value.format ≡ format
  pub grace : grace_unfit format value.grace ≡ None
  pub kept : (id : ℕ) → IfSome (get value.records id) (IsKept format id)

-- An opened file could not be read: the store's count of faults rose, or there was not enough memory. It is damaged
-- only where the store tells nothing, so that it may have changed since it was opened, and that is one of the damages
-- of its format.
abbrev pub IsReadingFault : (before now : ℕ) → Bool → Format → FileFault → Type 0
IsReadingFault before now tells format Store = Rose before now
IsReadingFault before now tells format (Damage damage) = (¬ (IsTrue tells)) × MayRefuse format (Damage damage)
IsReadingFault before now tells format (Full _ _) = ⊥
IsReadingFault before now tells format Memory = ⊤

-- a file could not be opened, or not be read
abbrev pub IsSourceFault : (before now : ℕ) → Bool → Option (List ℕ) → Kind → Format → ConvertFault → Type 0
IsSourceFault before now tells named kind format (Open fault) =
    IsOpenFault before now tells named kind (InFormat format) fault
IsSourceFault before now tells named kind format (File fault) = IsReadingFault before now tells format fault
IsSourceFault before now tells named kind format _ = ⊥
