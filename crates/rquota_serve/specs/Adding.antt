-- Quota files that are added to exports one after another.
use Rattle.std.specs.Prelude.{◌≡◌, ◌+◌, ℕ, IsTrue, List, [], ◌∷◌, ◌++◌, Ok, ⊤}
use Rattle.quota_types.specs.declared.file_kind.Kind.{Kind}
use Rattle.file_blocks.specs.Block.{file_of}
use Rattle.opened_file.specs.FileSeen.{FileSeen}
use Rattle.quota_value.specs.QuotaValue.{QuotaValue}
use Rattle.outside.specs.World.{World}
use Rattle.quota_map.specs.Asked.{Asked}
use Rattle.quota_map.specs.View.{IsView, opening_reads}
use Rattle.rquota_serve.specs.ExportedValues.{ExportedValues, with_export}
use Rattle.rquota_serve.specs.ExportSeen.{ExportSeen, may_add}

-- What is seen of a file that is to be exported: the bytes of its path, whose usage it tells, and its name.
pub record NewSeen : Type 0 where
  pub path : List ℕ
  pub kind : Kind
  pub file : List ℕ

-- These files may be exported one after another behind those that are exported before: there are 16 at most, and no two
-- have the same path and kind.
abbrev pub MayAddAll : (before : List ExportSeen) → List NewSeen → Type 0
MayAddAll before [] = ⊤
MayAddAll before (new ∷ news) =
    IsTrue (may_add before new.path new.kind)
    × ((file : FileSeen) → MayAddAll (before ++ record { path = new.path; kind = new.kind; file = file } ∷ []) news)

-- These files are told of beside what is exported before: each is seen as a value, which is exported under its path for
-- its kind.
abbrev pub AreToldOf : Asked → World → List NewSeen → (before exported : ExportedValues) → Type 0
AreToldOf asked files [] before exported = exported ≡ before
AreToldOf asked files (new ∷ news) before exported =
    (value : QuotaValue) × IsView (files new.file) new.kind asked (Ok value)
    × AreToldOf asked files news (with_export before new.path new.kind value) exported

-- how many calls of `read` the opening of these files makes at most
abbrev pub reads_of : Asked → World → List NewSeen → ℕ
reads_of asked files [] = 0
reads_of asked files (new ∷ news) = opening_reads asked (file_of files new.file) + reads_of asked files news
