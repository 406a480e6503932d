use Rattle.std.proofs.Common.{[], ap, refl}
use Rattle.script_lines.specs.ScriptReading.{script_read}
use Rattle.command_table.proofs.CommittedLemmas.{row_looked}
use Rattle.quota_cli.proofs.CommittedLemmas.{script_committed}
use Rattle.quota_cli.proofs.ScriptLemmas.{script_carried, script_stands, script_taken, script_unread, unread_stands}
use Rattle.quota_cli.proofs.script.run_script.Goals as goal

pub carry_lines-requires : goal.carry_lines-requires
carry_lines-requires g c = c.in-Ok.ensures.may

pub returns-in-Ok-clause-carries : goal.returns-in-Ok-clause-carries
returns-in-Ok-clause-carries g c =
    let read = c.in-Ok.ensures in
    script_carried c.args.invocation _ _ (g.I.Source.seen c.read_script.new.input) _ c.carry_lines.result
    (script_read c.in-Ok.script)
    read.later read.read read.behind read.ended (rw c.as_slice-lines.ensures.value at c.carry_lines.ensures.carries)

pub returns-in-Ok-clause-source : goal.returns-in-Ok-clause-source
returns-in-Ok-clause-source g c = rw c.carry_lines.ensures.input c.in-Ok.ensures.keeps

pub returns-in-Ok-clause-stands : goal.returns-in-Ok-clause-stands
returns-in-Ok-clause-stands g c =
    let read = c.in-Ok.ensures in
    script_stands c.args.invocation.now _ _ (g.I.Source.seen c.read_script.new.input) _ c.carry_lines.result
    (script_read c.in-Ok.script)
    read.read read.ended (ap g.I.Source.seen c.carry_lines.ensures.input)
    (rw c.as_slice-lines.ensures.value at c.carry_lines.ensures.carries)

pub returns-in-Err-clause-carries : goal.returns-in-Err-clause-carries
returns-in-Err-clause-carries g c =
    rw c.unread.ensures
    (script_unread c.args.invocation _ _ (g.I.Source.seen c.read_script.new.input) c.in-Err.fault c.in-Err.ensures.later
    c.in-Err.ensures.cause)

pub returns-in-Err-clause-stands : goal.returns-in-Err-clause-stands
returns-in-Err-clause-stands g c = rw c.unread.ensures (unread_stands c.args.invocation.now _ _ _ c.in-Err.fault)

pub returns-in-Ok-clause-commits : goal.returns-in-Ok-clause-commits
returns-in-Ok-clause-commits g c = λ told.
    let read = c.in-Ok.ensures in
    let said = script_read c.in-Ok.script in
    script_committed c.args.invocation said _ _ (g.I.Source.seen c.read_script.new.input).left _ _
    (read.read told.input)
    (script_taken said.refusal _ _ (read.behind told.input) (λ none. read.ended none told.input))
    ((rw c.as_slice-lines.ensures.value at c.carry_lines.ensures.commits) told)

pub returns-in-Err-clause-commits : goal.returns-in-Err-clause-commits
returns-in-Err-clause-commits g c = λ told.
    row_looked _ c.args.invocation _ _ _ _ (λ worlds none. g.S.Store.commits_nothing worlds c.args.store.now)
    (g.S.Store.commits_nothing [] c.args.store.now) refl
