-- A conversion: what is asked for, what was made, and why it was refused.
use Rattle.std.specs.Prelude.{◌≡◌, ◌≢◌, ◌≤◌, ℕ, Bool, IsTrue, IsSome, List, Some, None, Ok, Err, ⊤}
use Rattle.quota_types.specs.declared.field.NoRoom.{NoRoom}
use Rattle.quota_types.specs.declared.file_kind.Format.{Format}
use Rattle.quota_types.specs.declared.file_kind.Kind.{Kind}
use Rattle.quota_value.specs.QuotaValue.{QuotaValue}
use Rattle.outside.specs.Seen.{StoreSeen}
use Rattle.outside.specs.World.{World}
use Rattle.opened_file.specs.declared.quota_file.OpenFault.{OpenFault}
use Rattle.opened_file.specs.declared.quota_file.OpenFault.TheVariants.{Store, NoFile, TooLarge, Memory, NotQuota}
use Rattle.opened_file.specs.declared.quota_file.OpenFault.TheVariants.{WrongKind, UnknownVersion, BadBlockCount}
use Rattle.opened_file.specs.declared.quota_file.OpenFault.TheVariants.{FormatMismatch, Damage}
use Rattle.opened_file.specs.declared.replacement.ReplaceFault.{ReplaceFault}
use Rattle.quota_map.specs.Asked.{InFormat}
use Rattle.quota_map.specs.Size.{ids_in, blocks_of, size_of}
use Rattle.quota_map.specs.Replacing.{IsReplaceFileFault, IsReplacedBy, UnlessStore}
use Rattle.quota_map.specs.View.{IsOpenFault, IsView, most_blocks}
use Rattle.convert.specs.Conversion.{converted}
use Rattle.convert.specs.Source.{HasRead, IsReadingFault}
use Rattle.convert.specs.declared.convert_fault.ConvertFault.{ConvertFault}
use Rattle.convert.specs.declared.convert_fault.ConvertFault.TheVariants.{SameName, TargetExists, Open, File}
use Rattle.convert.specs.declared.convert_fault.ConvertFault.TheVariants.{NoRoom as Unfit, Replace}

-- What is asked for: the name of the file that is converted and that of the new one, the formats of both, whose usage
-- they limit, and how many blocks the new one may have.
pub record AskedConversion : Type 0 where
  pub from : List ℕ
  pub to : List ℕ
  pub old : Format
  pub new : Format
  pub kind : Kind
  pub limit : ℕ

-- the conversion of the file of one name into one of another name
abbrev pub asked_for : (from to : List ℕ) → (old new : Format) → Kind → (limit : ℕ) → AskedConversion
asked_for from to old new kind limit = record { from = from; to = to; old = old; new = new; kind = kind; limit = limit }

-- the names are two, and the store has no file of the second one
pub record HasNoTarget (tells : Bool) (asked : AskedConversion) (files : World) : Type 0 where
  pub apart : asked.from ≢ asked.to
  pub absent : IsTrue tells → files asked.to ≡ None

-- the value that was read of the first file is this one in the new format
pub record IsConverted (tells : Bool) (asked : AskedConversion) (files : World) (made : QuotaValue) : Type 0 where
  pub value : QuotaValue
  pub read : HasRead tells (files asked.from) asked.kind asked.old value
  pub converts : converted asked.new value ≡ Ok made

-- The new file was made: there was none of its name, and it is a new one of the converted value, with nothing beside
-- it. Whoever opens it sees that value, unless it may have more blocks than an opened file.
pub record IsMade (tells : Bool) (asked : AskedConversion) (old new : StoreSeen) : Type 0 where
  pub free : HasNoTarget tells asked old.files
  pub made : QuotaValue
  pub converts : IsConverted tells asked old.files made
  pub few : blocks_of made ≤ asked.limit
  pub replaced : IsTrue tells → IsReplacedBy asked.to made (ids_in made.records) (size_of made) old.files new.files
  pub seen : IsTrue tells → asked.limit ≤ most_blocks
      → IsView (new.files asked.to) asked.kind (InFormat asked.new) (Ok made)

-- What a new file is made of: there was none of its name, and it is one of the converted value. Whoever opens it sees
-- that value, unless it may have more blocks than an opened file.
pub record IsMadeOf (tells : Bool) (asked : AskedConversion) (old : World) (bytes : List ℕ) : Type 0 where
  pub free : HasNoTarget tells asked old
  pub made : QuotaValue
  pub converts : IsConverted tells asked old made
  pub few : blocks_of made ≤ asked.limit
  pub seen : asked.limit ≤ most_blocks → IsView (Some bytes) asked.kind (InFormat asked.new) (Ok made)

-- Why it was refused.

-- a fact where opening was refused, but for a fault of the store
abbrev pub UnlessFaultOfStore : OpenFault → Type 0 → Type 0
UnlessFaultOfStore Store P = ⊤
UnlessFaultOfStore NoFile P = P
UnlessFaultOfStore (TooLarge _ _) P = P
UnlessFaultOfStore Memory P = P
UnlessFaultOfStore NotQuota P = P
UnlessFaultOfStore WrongKind P = P
UnlessFaultOfStore UnknownVersion P = P
UnlessFaultOfStore BadBlockCount P = P
UnlessFaultOfStore (FormatMismatch _) P = P
UnlessFaultOfStore (Damage _) P = P

-- The names are two, and the first file could not be opened; or the store failed before. But for a fault of the store
-- there is no file of the second name.
pub record IsNotOpened (tells : Bool) (asked : AskedConversion) (old new : StoreSeen) (fault : OpenFault) : Type 0 where
  pub apart : asked.from ≢ asked.to
  pub absent : UnlessFaultOfStore fault (IsTrue tells → old.files asked.to ≡ None)
  pub cause : IsOpenFault old.faults new.faults tells (old.files asked.from) asked.kind (InFormat asked.old) fault

-- the new format has no room for what was read, first of all for this value
pub record IsUnfit (tells : Bool) (asked : AskedConversion) (files : World) (out : NoRoom) : Type 0 where
  pub free : HasNoTarget tells asked files
  pub value : QuotaValue
  pub read : HasRead tells (files asked.from) asked.kind asked.old value
  pub refused : converted asked.new value ≡ Err out

-- the new format has room for what was read, and the new file could not be made
pub record IsNotMade (tells : Bool) (asked : AskedConversion) (old new : StoreSeen)
    (fault : ReplaceFault) : Type 0 where
  pub free : HasNoTarget tells asked old.files
  pub made : QuotaValue
  pub converts : IsConverted tells asked old.files made
  pub cause : IsReplaceFileFault old.faults new.faults (blocks_of made) asked.limit fault

-- The first cause that holds, in this order: the names are the same; there is a file of the second name; the first file
-- is not opened, or not read; the new format has no room for a value; the new file would need more blocks than it may
-- have. A fault of the store comes only where its count of faults rose; whether memory runs out is left open.
abbrev pub IsConvertFault : (tells : Bool) (asked : AskedConversion) (old new : StoreSeen) → ConvertFault → Type 0
IsConvertFault tells asked old new SameName = asked.from ≡ asked.to
IsConvertFault tells asked old new TargetExists = (asked.from ≢ asked.to) × (IsTrue tells → IsSome (old.files asked.to))
IsConvertFault tells asked old new (Open fault) = IsNotOpened tells asked old new fault
IsConvertFault tells asked old new (File fault) =
    HasNoTarget tells asked old.files × IsReadingFault old.faults new.faults tells asked.old fault
IsConvertFault tells asked old new (Unfit out) = IsUnfit tells asked old.files out
IsConvertFault tells asked old new (Replace fault) = IsNotMade tells asked old new fault

-- a fact where a conversion was refused, but for a fault of the store while the new file was made
abbrev pub UnlessMaking : ConvertFault → Type 0 → Type 0
UnlessMaking SameName P = P
UnlessMaking TargetExists P = P
UnlessMaking (Open _) P = P
UnlessMaking (File _) P = P
UnlessMaking (Unfit _) P = P
UnlessMaking (Replace fault) P = UnlessStore fault P
