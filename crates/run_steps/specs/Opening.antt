-- What is said where a file is not opened, or where a call on an opened file was refused.
use Rattle.std.specs.Prelude.{◌≡◌, ℕ, IsTrue, List, ⊤}
use Rattle.opened_file.specs.declared.quota_file.FileFault.{FileFault}
use Rattle.opened_file.specs.declared.quota_file.FileFault.TheVariants.{Store as StoreFailed, Damage as FileDamaged}
use Rattle.opened_file.specs.declared.quota_file.FileFault.TheVariants.{Full as NoBlocks, Memory as NoMemory}
use Rattle.opened_file.specs.declared.quota_file.OpenFault.{OpenFault}
use Rattle.opened_file.specs.declared.quota_file.OpenFault.TheVariants.{Store, NoFile, TooLarge, Memory, NotQuota}
use Rattle.opened_file.specs.declared.quota_file.OpenFault.TheVariants.{WrongKind, UnknownVersion, BadBlockCount}
use Rattle.opened_file.specs.declared.quota_file.OpenFault.TheVariants.{FormatMismatch, Damage as NotWhole}
use Rattle.refusals.specs.declared.cause.Cause.{Cause}
use Rattle.refusals.specs.declared.cause.Cause.TheVariants.{StoreFault, NoFile as NoSuchFile, TooLarge as FileTooLarge}
use Rattle.refusals.specs.declared.cause.Cause.TheVariants.{Memory as WantOfMemory, NotQuota as NoQuotaFile}
use Rattle.refusals.specs.declared.cause.Cause.TheVariants.{WrongKind as OtherKind, UnknownVersion as OtherVersion}
use Rattle.refusals.specs.declared.cause.Cause.TheVariants.{BadBlockCount as TooFewBlocks, OtherFormat, Damaged, Full}
use Rattle.quota_map.specs.Asked.{Asked, asks_format}
use Rattle.quota_map.specs.View.{IsDamageAs, asks_tree}

-- what is said of a file that could not be opened
abbrev pub opening_cause : OpenFault → Cause
opening_cause Store = StoreFault
opening_cause NoFile = NoSuchFile
opening_cause (TooLarge number limit) = FileTooLarge
opening_cause Memory = WantOfMemory
opening_cause NotQuota = NoQuotaFile
opening_cause WrongKind = OtherKind
opening_cause UnknownVersion = OtherVersion
opening_cause BadBlockCount = TooFewBlocks
opening_cause (FormatMismatch found) = OtherFormat
opening_cause (NotWhole damage) = Damaged damage

-- what is said where a call on an opened file was refused
abbrev pub file_cause : FileFault → Cause
file_cause StoreFailed = StoreFault
file_cause (FileDamaged damage) = Damaged damage
file_cause (NoBlocks blocks limit) = Full blocks limit
file_cause NoMemory = WantOfMemory

-- The causes for which the opening of a file of this name, in the format that is asked for, may be refused, whatever is
-- told, with the name that is said. A header is read of a tree file alone.
abbrev pub MayRefuseOpening : Asked → List ℕ → Cause → List ℕ → Type 0
MayRefuseOpening asked file StoreFault name = ⊤
MayRefuseOpening asked file WantOfMemory name = ⊤
MayRefuseOpening asked file NoSuchFile name = name ≡ file
MayRefuseOpening asked file FileTooLarge name = name ≡ file
MayRefuseOpening asked file NoQuotaFile name = IsTrue (asks_tree asked) × (name ≡ file)
MayRefuseOpening asked file OtherKind name = IsTrue (asks_tree asked) × (name ≡ file)
MayRefuseOpening asked file OtherVersion name = IsTrue (asks_tree asked) × (name ≡ file)
MayRefuseOpening asked file TooFewBlocks name = IsTrue (asks_tree asked) × (name ≡ file)
MayRefuseOpening asked file OtherFormat name = IsTrue (asks_tree asked) × IsTrue (asks_format asked) × (name ≡ file)
MayRefuseOpening asked file (Damaged damage) name = IsDamageAs asked damage × (name ≡ file)
MayRefuseOpening asked file _ name = ⊥
