use Rattle.std.proofs.Common.{[], None, false, refl}
use Rattle.command_words.specs.Asked.{command_of}
use Rattle.option_words.specs.Items.{texts_of}
use Rattle.command_table.proofs.CommandLemmas.{not_read, read_carried, usage_not_read, usage_read}
use Rattle.command_table.proofs.CommittedLemmas.{read_committed, row_looked}
use Rattle.quota_cli.specs.Script.{commanded}
use Rattle.quota_cli.proofs.AskedLemmas.{commanded_known, spares_commanded, words_stand}
use Rattle.quota_cli.proofs.run.carry_out_words.Goals as goal

pub carry_command-requires : goal.carry_command-requires
carry_command-requires g c = commanded_known (texts_of c.args.words.now) c.in-Ok.command c.in-Ok.ensures

pub returns-in-Ok-clause-carries : goal.returns-in-Ok-clause-carries
returns-in-Ok-clause-carries g c =
    read_carried commanded c.in-Ok.command (command_of false (texts_of c.args.words.now))
    (record { now = c.args.now; line = None }) _ _ _
    c.carry_command.result c.in-Ok.ensures (rw c.outside_script-invocation.ensures at c.carry_command.ensures.carries)

pub returns-in-Ok-clause-stands : goal.returns-in-Ok-clause-stands
returns-in-Ok-clause-stands g c =
    λ reads. (rw c.outside_script-invocation.ensures at c.carry_command.ensures.stands) (rw c.in-Ok.ensures at reads)

pub returns-in-Ok-clause-usage : goal.returns-in-Ok-clause-usage
returns-in-Ok-clause-usage g c =
    λ no. usage_read (commanded c.in-Ok.command).may c.in-Ok.command (command_of false (texts_of c.args.words.now))
    c.carry_command.result c.in-Ok.ensures
    (spares_commanded c.in-Ok.command (rw c.in-Ok.ensures at no)) c.carry_command.ensures.carries.carries.may_refuse

pub returns-in-Err-clause-carries : goal.returns-in-Err-clause-carries
returns-in-Err-clause-carries g c =
    rw c.usage_refusal.ensures
    (not_read commanded (command_of false (texts_of c.args.words.now)) (record { now = c.args.now; line = None }) _
    _ c.in-Err.fault
    c.in-Err.ensures)

pub returns-in-Err-clause-stands : goal.returns-in-Err-clause-stands
returns-in-Err-clause-stands g c = λ reads.
    rw c.usage_refusal.ensures
    (words_stand (command_of false (texts_of c.args.words.now)) c.in-Err.fault c.args.now _ _ c.in-Err.ensures
    reads)

pub returns-in-Err-clause-usage : goal.returns-in-Err-clause-usage
returns-in-Err-clause-usage g c = λ no.
    rw c.usage_refusal.ensures
    (usage_not_read (command_of false (texts_of c.args.words.now)) c.in-Err.fault c.in-Err.ensures)

pub returns-in-Ok-clause-commits : goal.returns-in-Ok-clause-commits
returns-in-Ok-clause-commits g c = λ told.
    read_committed commanded c.in-Ok.command (command_of false (texts_of c.args.words.now))
    (record { now = c.args.now; line = None }) _ _ _ _ c.in-Ok.ensures
    ((rw c.outside_script-invocation.ensures at c.carry_command.ensures.commits) (rw c.in-Ok.ensures at told))

pub returns-in-Err-clause-commits : goal.returns-in-Err-clause-commits
returns-in-Err-clause-commits g c = λ told.
    row_looked _ (record { now = c.args.now; line = None }) _ _ _ _
    (λ worlds none. g.S.Store.commits_nothing worlds c.args.store.now)
    (g.S.Store.commits_nothing [] c.args.store.now) refl
