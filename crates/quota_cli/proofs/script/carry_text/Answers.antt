use Rattle.std.proofs.Common.{[], refl}
use Rattle.command_table.proofs.CommittedLemmas.{row_looked}
use Rattle.quota_cli.proofs.CommittedLemmas.{text_committed}
use Rattle.quota_cli.proofs.ScriptLineLemmas.{text_carried, text_wanting}
use Rattle.quota_cli.proofs.script.carry_text.Goals as goal

pub returns-in-Ok-clause-carries : goal.returns-in-Ok-clause-carries
returns-in-Ok-clause-carries g c =
    text_carried c.args.text.now c.args.invocation _ _ _ c.carry_words.result
    (rw (c.as_slice.ensures.value, c.in-Ok.ensures) at c.carry_words.ensures.carries)

pub returns-in-Ok-clause-link : goal.returns-in-Ok-clause-link
returns-in-Ok-clause-link g c = rw (c.as_slice.ensures.value, c.in-Ok.ensures) at c.carry_words.ensures.link

pub returns-in-Err-clause-carries : goal.returns-in-Err-clause-carries
returns-in-Err-clause-carries g c =
    rw (c.of.ensures, c.empty.ensures) (text_wanting c.args.text.now c.args.invocation _ _)

pub returns-in-Ok-clause-commits : goal.returns-in-Ok-clause-commits
returns-in-Ok-clause-commits g c = λ told.
    text_committed c.args.text.now c.args.invocation _ _ _ _
    ((rw (c.as_slice.ensures.value, c.in-Ok.ensures) at c.carry_words.ensures.commits) told)

pub returns-in-Err-clause-commits : goal.returns-in-Err-clause-commits
returns-in-Err-clause-commits g c = λ told.
    row_looked _ c.args.invocation _ _ _ _ (λ worlds none. g.S.Store.commits_nothing worlds c.args.store.now)
    (g.S.Store.commits_nothing [] c.args.store.now) refl
