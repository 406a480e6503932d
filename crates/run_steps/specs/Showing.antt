-- Commands that open a file and show something of it.
use Rattle.std.specs.Prelude.{◌≡◌, ◌⊎◌, ℕ, true, false, List}
use Rattle.quota_types.specs.declared.file_kind.Kind.{Kind}
use Rattle.quota_value.specs.QuotaValue.{QuotaValue}
use Rattle.refusals.specs.declared.cause.Cause.{Cause}
use Rattle.refusals.specs.declared.cause.Cause.TheVariants.{SinkFault}
use Rattle.run_steps.specs.Act.{ToOut}
use Rattle.run_steps.specs.Opening.{MayRefuseOpening}
use Rattle.run_steps.specs.Run.{Uses}
use Rattle.run_steps.specs.Steps.{Doing, Finish, Opening, Steps}
use Rattle.quota_map.specs.Asked.{Asked}

-- the file is opened, and a text about its value goes to the output
abbrev pub ShowingSteps : Kind → Asked → List ℕ → (QuotaValue → List ℕ) → Steps
ShowingSteps kind asked file text =
    Opening kind asked file (λ (value : QuotaValue).
    Doing (ToOut (text value)) Finish)

-- a command that shows something reads the store and writes to the output
abbrev pub showing_uses : Uses
showing_uses = record {
  input = false;
  out = true;
  link = false;
  changes = false;
  all_or_nothing = true;
  warns = false;
  reads_commands = false;
  reads_edits = false;
}

-- the causes for which a text about a file may not be shown, whatever is told
abbrev pub ShowingMayRefuse : Asked → List ℕ → Cause → List ℕ → Type 0
ShowingMayRefuse asked file cause name = (cause ≡ SinkFault) ⊎ MayRefuseOpening asked file cause name
