-- Which quota files are exported, and which may be.
use Rattle.std.specs.Prelude.{ℕ, Bool, not, ◌&&◌, nat_lt, List, length}
use Rattle.std.specs.List.{list_any}
use Rattle.quota_types.specs.declared.file_kind.Kind.{Kind}
use Rattle.opened_file.specs.FileSeen.{FileSeen}
use Rattle.rquota_serve.specs.ExportedValues.{names_eq}

-- What is seen of an export: the bytes of its path, whose usage it tells, and what is seen of its opened file.
pub record ExportSeen : Type 0 where
  pub path : List ℕ
  pub kind : Kind
  pub file : FileSeen

-- an export has this path and this kind
abbrev pub is_named : (path : List ℕ) → Kind → ExportSeen → Bool
is_named path kind export = names_eq export.path export.kind path kind

-- something is exported under this path for this kind
abbrev pub is_exported : List ExportSeen → (path : List ℕ) → Kind → Bool
is_exported seen path kind = list_any (is_named path kind) seen

-- one more may be exported: there are fewer than 16, and none has this path and this kind
abbrev pub may_add : List ExportSeen → (path : List ℕ) → Kind → Bool
may_add seen path kind = nat_lt (length seen) 16 && not (is_exported seen path kind)
