use Rattle.std.specs.Prelude.{codes}
use Rattle.std.proofs.lemmas.Result.{err_from_is_err_and, on_ok_weaker, on_err_weaker}
use Rattle.edit_commands.specs.Edits.{warning_if, warning_line}
use Rattle.edit_commands.proofs.WarningLemmas.{said_first, said_row, said_second}
use Rattle.edit_commands.proofs.warning.write_warnings.Goals as goal

pub returns-in_err-warn_if-clause-fault : goal.returns-in_err-warn_if-clause-fault
returns-in_err-warn_if-clause-fault g c =
    let p = err_from_is_err_and c.from_residual.result c.from_residual.ensures.1 in
    rw p.1 (λ told. said_first _
    (warning_if c.args.skipped.inode (warning_line c.args.line (codes "inode time not set, soft limit not exceeded"))) _
    _ (c.in_err-warn_if.ensures.fault told))

pub returns-clause-ok : goal.returns-clause-ok
returns-clause-ok g c =
    on_ok_weaker c.warn_if-2.result
    (λ said told. said_row
    (warning_if c.args.skipped.block (warning_line c.args.line (codes "block time not set, soft limit not exceeded")))
    (warning_if c.args.skipped.inode (warning_line c.args.line (codes "inode time not set, soft limit not exceeded"))) _
    _ _ (c.in_ok-warn_if.ensures.ok told) (said told)) c.warn_if-2.ensures.ok

pub returns-clause-fault : goal.returns-clause-fault
returns-clause-fault g c =
    on_err_weaker c.warn_if-2.result
    (λ part told. said_second
    (warning_if c.args.skipped.block (warning_line c.args.line (codes "block time not set, soft limit not exceeded")))
    (warning_if c.args.skipped.inode (warning_line c.args.line (codes "inode time not set, soft limit not exceeded"))) _
    _ _ (c.in_ok-warn_if.ensures.ok told) (part told)) c.warn_if-2.ensures.fault
