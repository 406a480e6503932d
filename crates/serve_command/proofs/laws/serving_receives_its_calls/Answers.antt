use Rattle.rquota_serve.specs.ExportedValues.{ExportedValues, nothing_exported}
use Rattle.run_steps.proofs.TakenLemmas.{received}
use Rattle.run_steps.specs.Steps.{Starting}
use Rattle.serve_command.specs.Serve.{AnsweringSteps, ServeSteps}
use Rattle.serve_command.proofs.SoundLemmas.{receives_answering, receives_opening_all}
use Rattle.serve_command.proofs.laws.serving_receives_its_calls.Goals as goal

pub returns-clause-receives : goal.returns-clause-receives
returns-clause-receives c asked calls port exports invocation =
    receives_opening_all calls asked exports nothing_exported
    (λ (exported : ExportedValues). Starting port (AnsweringSteps exported calls))
    (λ exported. receives_answering exported calls)

pub returns-clause-received : goal.returns-clause-received
returns-clause-received c asked calls port exports invocation old new acts ends =
    received calls (ServeSteps asked calls port exports invocation) old acts new
    (receives_opening_all calls asked exports nothing_exported
    (λ (exported : ExportedValues). Starting port (AnsweringSteps exported calls))
    (λ exported. receives_answering exported calls)) ends
