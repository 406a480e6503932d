use Rattle.std.proofs.Common.{false}
use Rattle.rquota_serve.specs.ExportedValues.{ExportedValues, nothing_exported}
use Rattle.run_steps.specs.Steps.{Starting}
use Rattle.serve_command.specs.Serve.{AnsweringSteps}
use Rattle.serve_command.proofs.SoundLemmas.{looks_answering, looks_opening_all}
use Rattle.serve_command.proofs.laws.serving_looks_first.Goals as goal

pub returns : goal.returns
returns c asked calls port exports invocation =
    looks_opening_all false asked exports nothing_exported
    (λ (exported : ExportedValues). Starting port (AnsweringSteps exported calls))
    (λ exported. looks_answering false exported calls)
