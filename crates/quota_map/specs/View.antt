-- What is seen of a quota file by whoever opens it: as a flat file exactly where a flat format is asked for, and
-- otherwise as a tree file. Source: quotaon(8) and setquota(8) on formats, of which only vfsold has no magic number;
-- vfsold32 is vfsold as 32-bit x86 has it.
use Rattle.std.specs.Prelude.{◌≡◌, ℕ, Bool, true, false, List, ◌+◌, ◌*◌, Option, Some, None, Result, Err, ⊤, not}
use Rattle.std.specs.Prelude.{MatchBool, if◌then◌else◌}
use Rattle.quota_types.specs.Format.{IsTreeFormat, is_flat}
use Rattle.quota_types.specs.declared.file_kind.Format.{Format}
use Rattle.quota_types.specs.declared.file_kind.Kind.{Kind}
use Rattle.entry_codec.specs.Header.{header_of}
use Rattle.opened_file.specs.FileSeen.{FileSeen}
use Rattle.quota_value.specs.QuotaValue.{QuotaValue}
use Rattle.opened_file.specs.declared.quota_file.OpenFault.{OpenFault}
use Rattle.tree_file.specs.View.{IsTreeView}
use Rattle.tree_file.specs.TreeCalls.{IsTreeFault}
use Rattle.quota_v1.specs.View.{IsFlatView}
use Rattle.quota_v1.specs.FlatFaults.{IsFlatFault}
use Rattle.opened_file.specs.declared.quota_file.OpenFault.TheVariants.{Damage as Damaged}
use Rattle.quota_types.specs.declared.damage.Damage.{Damage}
use Rattle.quota_types.specs.declared.damage.DamageKind.TheVariants.{PartialRecord}
use Rattle.quota_types.specs.Damage.{NamesItsId}
use Rattle.quota_map.specs.Asked.{AnyTree, Asked, InFormat}

-- how many blocks a tree file may have
abbrev pub most_blocks : ℕ
most_blocks = 4194304

-- a flat file is asked for
abbrev pub asks_flat : Asked → Bool
asks_flat AnyTree = false
asks_flat (InFormat format) = is_flat format

-- the file stands for a value of the kind, in the format that was asked for, where one was; or it is refused
abbrev pub IsView : Option (List ℕ) → Kind → Asked → Result QuotaValue OpenFault → Type 0
IsView named kind AnyTree result = IsTreeView named kind None most_blocks result
IsView named kind (InFormat format) result =
    MatchBool (is_flat format) (IsFlatView format named kind result)
    (IsTreeView named kind (Some format) most_blocks result)

-- why opening is refused, as one of a flat file exactly where a flat format is asked for
abbrev pub IsOpenFault : ℕ → ℕ → Bool → Option (List ℕ) → Kind → Asked → OpenFault → Type 0
IsOpenFault before now tells named kind AnyTree fault = IsTreeFault before now tells named kind None most_blocks fault
IsOpenFault before now tells named kind (InFormat format) fault =
    MatchBool (is_flat format) (IsFlatFault format before now tells named fault)
    (IsTreeFault before now tells named kind (Some format) most_blocks fault)

-- how many blocks an opened file of a format may have; a flat file has none
abbrev pub blocks_allowed : Format → ℕ
blocks_allowed format = if is_flat format then 0 else most_blocks

-- what is seen of one that was just opened
abbrev pub fresh_seen : List ℕ → Format → FileSeen
fresh_seen name format =
    record { name = name; format = format; usable = true; limit = blocks_allowed format; refusals = 0 }

-- The format of an opened file is the one that was asked for, and one of a tree file where none was.
abbrev pub IsOpenedAs : Asked → Format → Type 0
IsOpenedAs AnyTree format = IsTreeFormat format
IsOpenedAs (InFormat wanted) format = format ≡ wanted

-- how many calls of `read` the opening of a file of these bytes makes at most, even where it is refused, by the format
-- that was asked for: one of a flat file, and of a tree file one, and two for each block that its header states
abbrev pub opening_reads : Asked → List ℕ → ℕ
opening_reads AnyTree bytes = 1 + 2 * (header_of bytes).blocks
opening_reads (InFormat format) bytes = if is_flat format then 1 else 1 + 2 * (header_of bytes).blocks

-- what is seen of a file is no damage: it is a value, or another refusal
abbrev pub IsNoDamage : Result QuotaValue OpenFault → Type 0
IsNoDamage (Err (Damaged damage)) = ⊥
IsNoDamage _ = ⊤

-- A damage of a flat file is a record that is cut off, which names no identifier, and one of a tree file names an
-- identifier where its kind does.
abbrev pub IsDamageAs : Asked → Damage → Type 0
IsDamageAs asked damage =
    MatchBool (asks_flat asked) ((damage.kind ≡ PartialRecord) × (damage.id ≡ 0)) (NamesItsId damage.kind damage.id)

-- a file that is no flat file is asked for
abbrev pub asks_tree : Asked → Bool
asks_tree asked = not (asks_flat asked)
