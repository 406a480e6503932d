-- What is seen of a tree file by whoever opens it: the value that it stands for, or the first refusal that holds.
-- Source: `v2_check_quota_file` and `v2_read_file_info` of the kernel's `fs/quota/quota_v2.c`, and quotaon(8) on
-- formats.
use Rattle.std.specs.Prelude.{◌≡◌, ◌≢◌, ℕ, ◌<◌, ◌≤◌, List, Option, Some, None, IfSome, IsSomeAnd, Result, Ok, Err, ⊤}
use Rattle.quota_types.specs.declared.damage.Damage.{Damage}
use Rattle.quota_types.specs.declared.file_kind.Format.{Format}
use Rattle.quota_types.specs.declared.file_kind.Kind.{Kind}
use Rattle.quota_value.specs.QuotaValue.{QuotaValue}
use Rattle.opened_file.specs.declared.quota_file.OpenFault.{OpenFault}
use Rattle.opened_file.specs.declared.quota_file.OpenFault.TheVariants.{Store, NoFile, TooLarge, Memory, NotQuota}
use Rattle.opened_file.specs.declared.quota_file.OpenFault.TheVariants.{WrongKind, UnknownVersion, BadBlockCount}
use Rattle.opened_file.specs.declared.quota_file.OpenFault.TheVariants.{FormatMismatch, Damage as Damaged}
use Rattle.entry_codec.specs.Header.{HeaderNumbers, format_of, header_fault, header_of}
use Rattle.entry_codec.specs.declared.header.HeaderFault.TheVariants.{NotQuota as NoMagic, WrongKind as OtherKind}
use Rattle.entry_codec.specs.declared.header.HeaderFault.TheVariants.{UnknownVersion as OtherVersion}
use Rattle.entry_codec.specs.declared.header.HeaderFault.TheVariants.{BadBlockCount as FewBlocks}
use Rattle.byte_order.specs.declared.order.Order.{Order}
use Rattle.byte_order.specs.declared.order.Order.TheVariants.{Little}
use Rattle.byte_order.specs.Words.{in_order}
use Rattle.tree_meaning.specs.Defect.{IsTreeDefectIn}
use Rattle.quota_types.specs.Damage.{NamesItsId}
use Rattle.tree_meaning.specs.TreeFile.{TreeStandsForIn}

-- a format is the one that was asked for, where one was
abbrev pub IsAsAsked : Option Format → Format → Type 0
IsAsAsked asked format = IfSome asked (λ wanted. wanted ≡ format)

-- a header is one of the kind and of this format
pub record HasHeader (kind : Kind) (numbers : HeaderNumbers) (format : Format) : Type 0 where
  pub accepted : header_fault kind numbers ≡ None
  pub version : format_of numbers.version ≡ Some format

-- a header is one of the kind and of the format that was asked for, and has more blocks than there may be
pub record HasTooManyBlocks (kind : Kind) (asked : Option Format) (limit number : ℕ)
    (numbers : HeaderNumbers) : Type 0 where
  pub format : Format
  pub header : HasHeader kind numbers format
  pub as_asked : IsAsAsked asked format
  pub many : limit < numbers.blocks
  pub exactly : number ≡ numbers.blocks

-- what a refusal says of a header
abbrev pub IsRefusedHeader : Kind → Option Format → ℕ → OpenFault → HeaderNumbers → Type 0
IsRefusedHeader kind asked limit NotQuota numbers = header_fault kind numbers ≡ Some NoMagic
IsRefusedHeader kind asked limit WrongKind numbers = header_fault kind numbers ≡ Some OtherKind
IsRefusedHeader kind asked limit UnknownVersion numbers = header_fault kind numbers ≡ Some OtherVersion
IsRefusedHeader kind asked limit BadBlockCount numbers = header_fault kind numbers ≡ Some FewBlocks
IsRefusedHeader kind asked limit (FormatMismatch found) numbers = HasHeader kind numbers found
IsRefusedHeader kind asked limit (TooLarge number most) numbers = HasTooManyBlocks kind asked limit number numbers
IsRefusedHeader kind asked limit _ numbers = ⊥

-- read in an order, the header is one of the kind and of the format that was asked for, has no more blocks than there
-- may be, and the damage is one of the file
pub record IsDamaged (order : Order) (kind : Kind) (asked : Option Format) (limit : ℕ) (damage : Damage)
    (file : List ℕ) : Type 0 where
  pub format : Format
  pub header : HasHeader kind (header_of (in_order order file)) format
  pub as_asked : IsAsAsked asked format
  pub few : (header_of (in_order order file)).blocks ≤ limit
  pub defect : IsTreeDefectIn order format file (header_of (in_order order file)) damage

-- what a refusal says of the file that is read in an order
abbrev pub IsRefusedFor : Order → Kind → Option Format → ℕ → OpenFault → List ℕ → Type 0
IsRefusedFor order kind asked limit (Damaged damage) file = IsDamaged order kind asked limit damage file
IsRefusedFor order kind asked limit fault file =
    IsRefusedHeader kind asked limit fault (header_of (in_order order file))

-- What a refusal says beside that: another format was asked for than was found; the limit is the given one, and the
-- number passes it; or the damage names an identifier only where its kind does.
abbrev pub FitsRequest : Option Format → ℕ → OpenFault → Type 0
FitsRequest asked limit (FormatMismatch found) = IsSomeAnd asked (λ wanted. wanted ≢ found)
FitsRequest asked limit (TooLarge number most) = (most ≡ limit) × (limit < number)
FitsRequest asked limit (Damaged damage) = NamesItsId damage.kind damage.id
FitsRequest asked limit _ = ⊤

-- Read in an order, the file stands for a value of the kind, in the format that was asked for, and has no more blocks
-- than there may be; or it is refused: there is none, it is no quota file, one of another kind, of a version that is
-- not known, of fewer than two blocks, of another format, of too many blocks, or damaged, in this order.
abbrev pub IsTreeViewIn : Order → Option (List ℕ) → Kind → Option Format → ℕ → Result QuotaValue OpenFault → Type 0
IsTreeViewIn order named kind asked limit (Ok value) =
    IsSomeAnd named
    (λ file. ((header_of (in_order order file)).blocks ≤ limit) × TreeStandsForIn order file value)
    × (value.kind ≡ kind) × IsAsAsked asked value.format
IsTreeViewIn order named kind asked limit (Err Store) = ⊥
IsTreeViewIn order named kind asked limit (Err NoFile) = named ≡ None
IsTreeViewIn order named kind asked limit (Err Memory) = ⊥
IsTreeViewIn order named kind asked limit (Err fault) =
    FitsRequest asked limit fault × IsSomeAnd named (IsRefusedFor order kind asked limit fault)

-- the same of a little-endian file
abbrev pub IsTreeView : Option (List ℕ) → Kind → Option Format → ℕ → Result QuotaValue OpenFault → Type 0
IsTreeView named kind asked limit result = IsTreeViewIn Little named kind asked limit result
