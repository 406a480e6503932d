use Rattle.std.proofs.Common.{ap}
use Rattle.script_lines.specs.ScriptReading.{line_read}
use Rattle.quota_cli.proofs.CommittedLemmas.{line_committed}
use Rattle.quota_cli.proofs.ScriptLineLemmas.{line_carried}
use Rattle.quota_cli.proofs.script.carry_line.Goals as goal

pub returns-clause-carries : goal.returns-clause-carries
returns-clause-carries g c =
    line_carried c.args.now (line_read c.args.line.now) _ _ _ c.carry_text-done.result c.in_line.result
    c.in_line.ensures
    (λ none. ap g.L.Link.seen ((rw c.as_str-text.ensures.value at c.carry_text-done.ensures.link) none))
    (rw (c.in_script-invocation.ensures, c.as_str-text.ensures.value) at c.carry_text-done.ensures.carries)

pub returns-clause-commits : goal.returns-clause-commits
returns-clause-commits g c = λ told.
    line_committed c.args.now (line_read c.args.line.now) _ _ _ _ _
    ((rw (c.in_script-invocation.ensures, c.as_str-text.ensures.value) at c.carry_text-done.ensures.commits)
    (record { store = told.store; input = λ used. told.input; link = λ used. told.link }))
