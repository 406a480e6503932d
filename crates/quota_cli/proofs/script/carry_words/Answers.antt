use Rattle.std.proofs.Common.{[], true, refl}
use Rattle.command_words.specs.Asked.{command_of}
use Rattle.option_words.specs.Items.{texts_of}
use Rattle.command_table.specs.Table.{described}
use Rattle.command_table.proofs.CommandLemmas.{not_read, read_carried}
use Rattle.command_table.proofs.CommittedLemmas.{read_committed, row_looked}
use Rattle.command_table.proofs.AskedLemmas.{no_input, read_known}
use Rattle.quota_cli.proofs.script.carry_words.Goals as goal

pub carry_out-requires : goal.carry_out-requires
carry_out-requires g c = record { known = read_known true (texts_of c.args.words.now) c.in-Ok.command c.in-Ok.ensures }

pub returns-in-Ok-clause-carries : goal.returns-in-Ok-clause-carries
returns-in-Ok-clause-carries g c =
    read_carried described c.in-Ok.command (command_of true (texts_of c.args.words.now)) c.args.invocation _ _ _
    c.carry_out.result
    c.in-Ok.ensures c.carry_out.ensures.carries

pub returns-in-Ok-clause-input : goal.returns-in-Ok-clause-input
returns-in-Ok-clause-input g c =
    c.carry_out.ensures.input (no_input (texts_of c.args.words.now) c.in-Ok.command c.in-Ok.ensures)

pub returns-in-Err-clause-carries : goal.returns-in-Err-clause-carries
returns-in-Err-clause-carries g c =
    rw c.usage_refusal.ensures
    (not_read described (command_of true (texts_of c.args.words.now)) c.args.invocation _ _ c.in-Err.fault
    c.in-Err.ensures)

pub returns-in-Ok-clause-commits : goal.returns-in-Ok-clause-commits
returns-in-Ok-clause-commits g c = λ told.
    read_committed described c.in-Ok.command (command_of true (texts_of c.args.words.now)) c.args.invocation _ _ _ _
    c.in-Ok.ensures (c.carry_out.ensures.commits (rw c.in-Ok.ensures at told))

pub returns-in-Err-clause-commits : goal.returns-in-Err-clause-commits
returns-in-Err-clause-commits g c = λ told.
    row_looked _ c.args.invocation _ _ _ _ (λ worlds none. g.S.Store.commits_nothing worlds c.args.store.now)
    (g.S.Store.commits_nothing [] c.args.store.now) refl
