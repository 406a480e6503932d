-- The exports as they are kept: opened quota files by paths and kinds, and the values that they stand for with a store.
use Rattle.std.specs.Prelude.{◌≡◌, ◌≤◌, ℕ, Bool, true, false, is_some, List, map, slice_get, slice_set, None, Some}
use Rattle.std.specs.List.{All}
use Rattle.std.specs.String.{string_bytes}
use Rattle.quota_types.specs.declared.file_kind.Format.{Format}
use Rattle.quota_types.specs.declared.file_kind.Kind.{Kind}
use Rattle.opened_file.specs.QuotaFile.{CountsRefusal}
use Rattle.opened_file.specs.FileSeen.{FileSeen}
use Rattle.quota_value.specs.QuotaValue.{QuotaValue}
use Rattle.outside.specs.Seen.{StoreSeen}
use Rattle.outside.specs.World.{World}
use Rattle.quota_map.specs.AnyFile.{HoldsAny, any_seen}
use Rattle.quota_map.specs.View.{fresh_seen}
use Rattle.rquota_serve.specs.ExportedValues.{ExportedValues}
use Rattle.rquota_serve.specs.declared.export.Export.{Export}
use Rattle.rquota_serve.specs.declared.exports.Exports.{Exports}
use Rattle.rquota_serve.specs.ExportSeen.{ExportSeen, is_exported}

-- what is seen of one that is kept
abbrev pub export_seen : Export → ExportSeen
export_seen export = record { path = string_bytes export.path; kind = export.kind; file = any_seen export.file }

-- the exports that are kept, in the order in which they were added
abbrev pub kept_in : Exports → List Export
kept_in exports = exports.list.items

-- what is seen of all exports
abbrev pub exports_seen : Exports → List ExportSeen
exports_seen exports = map export_seen (kept_in exports)

-- what is seen of one whose file of this name was just opened as one of a format
abbrev pub fresh_export : (path : List ℕ) → Kind → (name : List ℕ) → Format → ExportSeen
fresh_export path kind name format = record { path = path; kind = kind; file = fresh_seen name format }

-- Values are exported under the paths of these exports, for their kinds, and under no others.
abbrev pub HasPaths : List ExportSeen → ExportedValues → Type 0
HasPaths seen exported = (path : List ℕ) (kind : Kind) → is_some (exported path kind) ≡ is_exported seen path kind

-- Under the path of an export, for its kind, stands a value, which its opened file with the store holds.
pub record IsServed (tells : Bool) (files : World) (exported : ExportedValues) (export : Export) : Type 0 where
  pub value : QuotaValue
  pub there : exported (string_bytes export.path) export.kind ≡ Some value
  pub held : HoldsAny tells files export.file value

-- The exports with a store, which tells its files or does not, stand for these values: those that their opened files
-- hold, each under its path and for its kind, and no others.
pub record Serves (tells : Bool) (files : World) (exports : Exports) (exported : ExportedValues) : Type 0 where
  pub each : All (IsServed tells files exported) (kept_in exports)
  pub others : (path : List ℕ) (kind : Kind) → is_exported (exports_seen exports) path kind ≡ false
      → exported path kind ≡ None

-- A look-up in one of the files was refused: that file counts it, and all else that is seen of the exports is as
-- before.
pub record CountsOne (old new : List ExportSeen) : Type 0 where
  pub place : ℕ
  pub export : ExportSeen
  pub file : FileSeen
  pub was : slice_get old place ≡ Some export
  pub counts : CountsRefusal true export.file file
  pub set : new ≡ slice_set old place (record export { file = file })

-- the opened file of one of the exports has this name
abbrev pub IsOfExport : List ExportSeen → List ℕ → Type 0
IsOfExport seen name =
    (place : ℕ) × (export : ExportSeen) × (slice_get seen place ≡ Some export) × (export.file.name ≡ name)

-- Look-ups in the files of exports: all files are as before, no call of `write` was made, and all names but those of
-- these files are as unsynced as they were.
pub record OnlyLooksUp (seen : List ExportSeen) (old new : StoreSeen) : Type 0 where
  pub files : new.files ≡ old.files
  pub unsynced : (name : List ℕ) → ¬ (IsOfExport seen name) → new.unsynced name ≡ old.unsynced name
  pub later : old.faults ≤ new.faults
  pub writes : new.writes ≡ old.writes
