-- Quota files that are named together with the paths under which they are told of, and out of which calls are answered.
-- Source: the manual page of rpc.rquotad; that quota files are named with their paths is this project's own.
use Rattle.std.specs.Prelude.{◌≡◌, ◌⊎◌, ℕ, true, false, List, [], ◌∷◌, map, ⊤}
use Rattle.quota_value.specs.QuotaValue.{QuotaValue}
use Rattle.outside.specs.World.{World}
use Rattle.quota_map.specs.Asked.{Asked}
use Rattle.quota_map.specs.View.{IsDamageAs}
use Rattle.rquota_serve.specs.Adding.{AreToldOf, MayAddAll, NewSeen}
use Rattle.rquota_serve.specs.ExportedValues.{ExportedValues, with_export}
use Rattle.rquota_serve.specs.ExportSeen.{ExportSeen}
use Rattle.option_words.specs.declared.export_option.ExportOption.{ExportOption}
use Rattle.refusals.specs.declared.cause.Cause.{Cause}
use Rattle.refusals.specs.declared.cause.Cause.TheVariants.{StoreFault, LinkFault, Memory, Damaged}
use Rattle.run_steps.specs.Opening.{MayRefuseOpening}
use Rattle.run_steps.specs.Run.{Uses}
use Rattle.run_steps.specs.Steps.{Opening, Steps}

-- The steps.

-- quota files are opened in order, each value is exported under its path for its kind, and then comes what the next
-- steps say of all that is exported
abbrev pub OpeningAll : Asked → List ExportOption → ExportedValues → (ExportedValues → Steps) → Steps
OpeningAll asked [] exported next = next exported
OpeningAll asked (export ∷ exports) exported next =
    Opening export.kind asked export.file (λ (value : QuotaValue).
    OpeningAll asked exports (with_export exported export.path export.kind value) next)

-- the link is started, datagrams are taken from it and answered, and the store is only read
abbrev pub serve_uses : Uses
serve_uses = record {
  input = false;
  out = false;
  link = true;
  changes = false;
  all_or_nothing = true;
  warns = false;
  reads_commands = false;
  reads_edits = false;
}

-- What is exported.

-- a file that words name, as it is seen by whoever exports it
abbrev pub new_of : ExportOption → NewSeen
new_of export = record { path = export.path; kind = export.kind; file = export.file }

-- all of them
abbrev pub news_of : List ExportOption → List NewSeen
news_of exports = map new_of exports

-- These files are exported beside what is exported before: each is seen as a value, which is exported under its path
-- for its kind.
abbrev pub AreExported : Asked → World → List ExportOption → (before exported : ExportedValues) → Type 0
AreExported asked files exports before exported = AreToldOf asked files (news_of exports) before exported

-- These files may be exported one after another behind those that are exported before: there are 16 at most, and no two
-- have the same path and kind.
abbrev pub MayExport : (before : List ExportSeen) → List ExportOption → Type 0
MayExport before exports = MayAddAll before (news_of exports)

-- What is said.

-- the name of the first file
abbrev pub first_file : List ExportOption → List ℕ
first_file [] = []
first_file (export ∷ exports) = export.file

-- the causes for which one of the files may not be exported, whatever is told, with the name that is said
abbrev pub ExportingMayRefuse : Asked → List ExportOption → Cause → List ℕ → Type 0
ExportingMayRefuse asked [] cause name = ⊥
ExportingMayRefuse asked (export ∷ exports) cause name =
    MayRefuseOpening asked export.file cause name ⊎ ExportingMayRefuse asked exports cause name

-- The causes for which calls may not be answered, whatever is told. A damage is said to be one of the file of this
-- name.
abbrev pub AnsweringMayRefuse : Asked → List ℕ → Cause → List ℕ → Type 0
AnsweringMayRefuse asked file StoreFault name = ⊤
AnsweringMayRefuse asked file LinkFault name = ⊤
AnsweringMayRefuse asked file Memory name = ⊤
AnsweringMayRefuse asked file (Damaged damage) name = IsDamageAs asked damage × (name ≡ file)
AnsweringMayRefuse asked file _ name = ⊥
