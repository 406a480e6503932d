-- Values of quota files, with their records in a list, and whole files that are made of them. Source: this project's
-- own; it is how quotacheck(8) makes a file.
use Rattle.std.specs.Prelude.{◌≡◌, ℕ, List, All, None, false}
use Rattle.std.specs.List.Sorted.{IsStrictlyIncreasing}
use Rattle.quota_types.specs.Kept.{IsKept}
use Rattle.quota_types.specs.Range.{grace_unfit}
use Rattle.quota_types.specs.Rec.{is_null_of}
use Rattle.quota_value.specs.Listed.{ids_of, value_of}
use Rattle.quota_value.specs.QuotaValue.{QuotaValue}
use Rattle.quota_types.specs.declared.file_kind.Format.{Format}
use Rattle.quota_types.specs.declared.file_kind.Kind.{Kind}
use Rattle.outside.specs.World.{World}
use Rattle.quota_map.specs.Size.{ids_in}
use Rattle.quota_map.specs.Replacing.{IsReplacedBy, built_size, flags_in}
use Rattle.opened_file.specs.declared.replacement.ReplaceFault.{ReplaceFault}
use Rattle.opened_file.specs.declared.replacement.ReplaceFault.TheVariants.{Store, Full as NoBlocks, Memory as NoMemory}
use Rattle.file_commands.specs.declared.file_value.FileValue.{FileValue}
use Rattle.refusals.specs.declared.cause.Cause.{Cause}
use Rattle.refusals.specs.declared.cause.Cause.TheVariants.{StoreFault, Full, Memory}

-- the value that it is
abbrev pub value_in : FileValue → QuotaValue
value_in value = value_of value.kind value.format value.grace (flags_in value.format value.flags) value.entries.items

-- a file of the format may have its grace periods, and its records are in the order of their identifiers
pub record IsInOrder (value : FileValue) : Type 0 where
  pub grace : grace_unfit value.format value.grace ≡ None
  pub ascends : IsStrictlyIncreasing (ids_of value.entries.items)

-- besides, the format keeps each record as it is, and none is null
pub record IsWritable (value : FileValue) : Type 0 where
  pub in_order : IsInOrder value
  pub kept : All (λ entry. IsKept value.format entry.id entry.rec) value.entries.items
  pub lasting : All (λ entry. is_null_of entry.rec ≡ false) value.entries.items

-- what is said where a file was not replaced
abbrev pub replace_cause : ReplaceFault → Cause
replace_cause Store = StoreFault
replace_cause (NoBlocks blocks limit) = Full blocks limit
replace_cause NoMemory = Memory

-- the named file was built anew for some value of this kind and of such a format, even where it stood for that value
-- before
pub record IsMadeAnew (kind : Kind) (IsFormat : Format → Type 0) (name : List ℕ) (old new : World) : Type 0 where
  pub value : QuotaValue
  pub kind_is : value.kind ≡ kind
  pub format_is : IsFormat value.format
  pub replaced : IsReplacedBy name value (ids_in value.records) (built_size value.format (ids_in value.records)) old new
