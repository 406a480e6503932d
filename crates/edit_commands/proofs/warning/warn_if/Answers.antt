use Rattle.std.proofs.lemmas.Result.{on_err_weaker}
use Rattle.edit_commands.proofs.WarningLemmas.{said_one}
use Rattle.edit_commands.proofs.warning.warn_if.Goals as goal

pub returns-then-skipped-clause-fault : goal.returns-then-skipped-clause-fault
returns-then-skipped-clause-fault g c =
    rw c.if-skipped.true
    (on_err_weaker c.write_warning.result (λ part told. said_one _ _ _ (part told)) c.write_warning.ensures.fault)
