use Rattle.rquota_serve.specs.ExportedValues.{ExportedValues, nothing_exported}
use Rattle.run_steps.specs.Steps.{Starting}
use Rattle.serve_command.specs.Serve.{AnsweringSteps}
use Rattle.serve_command.proofs.SoundLemmas.{sure_answering, sure_opening_all}
use Rattle.serve_command.proofs.laws.serving_is_sure_where_the_files_are_accepted.Goals as goal

pub returns : goal.returns
returns c asked calls port exports invocation old exported are =
    sure_opening_all asked exports nothing_exported exported
    (λ (e : ExportedValues). Starting port (AnsweringSteps e calls)) old are (sure_answering exported calls old)
