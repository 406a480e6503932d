-- What is exported: quota values by paths and kinds.
use Rattle.std.specs.Prelude.{ℕ, Bool, ◌&&◌, if◌then◌else◌, List, Option, None, Some}
use Rattle.std.specs.Str.{bytes_eq}
use Rattle.quota_types.specs.Kind.{kinds_eq}
use Rattle.quota_types.specs.declared.file_kind.Kind.{Kind}
use Rattle.quota_value.specs.QuotaValue.{QuotaValue}

-- the quota value that is exported under a path, which is its bytes, for users, groups or projects; or none
abbrev pub ExportedValues : Type 0
ExportedValues = List ℕ → Kind → Option QuotaValue

-- nothing is exported
abbrev pub nothing_exported : ExportedValues
nothing_exported path kind = None

-- the two are one path, for one kind
abbrev pub names_eq : (path : List ℕ) (kind : Kind) → (path' : List ℕ) (kind' : Kind) → Bool
names_eq path kind path' kind' = bytes_eq path path' && kinds_eq kind kind'

-- a value is exported under one path more; all others are as before
abbrev pub with_export : ExportedValues → (path : List ℕ) → Kind → QuotaValue → ExportedValues
with_export exported path kind value path' kind' =
    if names_eq path kind path' kind' then Some value else exported path' kind'
