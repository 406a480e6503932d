use Rattle.std.proofs.Common.{[], Err, inl, inr, refl, ap, ◌∙◌}
use Rattle.std.proofs.lemmas.Result.{on_ok_weaker}
use Rattle.outside.proofs.FrameLemmas.{syncs-none}
use Rattle.refusals.specs.declared.reason.Refusal.{Refusal}
use Rattle.edit_commands.specs.EditWords.{edit_read}
use Rattle.run_steps.proofs.PhaseLemmas.{carries_then}
use Rattle.edit_commands.proofs.WordLemmas.{passed_not, refused_as, warns_read, words_refused}
use Rattle.edit_commands.proofs.AloneLemmas.{edits_alone-none}
use Rattle.run_steps.proofs.CommittedLemmas.{comes_passed}
use Rattle.edit_commands.proofs.CommittedLemmas.{committed_since, read_committed}
use Rattle.edit_commands.proofs.edits.edit_named.Goals as goal

pub returns-in-Ok-clause-carries : goal.returns-in-Ok-clause-carries
returns-in-Ok-clause-carries g c = λ input out link input_tells out_tells link_tells.
    let edit = c.in-Ok.edit in
    carries_then (edit_read c.args.names.now c.args.words) edit _ _ _ _ _ _ _ _ c.in-Ok.ensures
    (λ cause said allowed. inr (edit, c.in-Ok.ensures, allowed))
    (rw (warns_read c.args.names.now c.args.words edit c.in-Ok.ensures) at
    (c.edit_file.ensures.carries input out link input_tells out_tells link_tells))

pub returns-in-Ok-clause-word : goal.returns-in-Ok-clause-word
returns-in-Ok-clause-word g c =
    λ refusal is. passed_not (edit_read c.args.names.now c.args.words) c.in-Ok.edit refusal is c.in-Ok.ensures

pub returns-in-Ok-clause-store : goal.returns-in-Ok-clause-store
returns-in-Ok-clause-store g c =
    λ refusal is. passed_not (edit_read c.args.names.now c.args.words) c.in-Ok.edit refusal is c.in-Ok.ensures

pub returns-in-Ok-clause-silent : goal.returns-in-Ok-clause-silent
returns-in-Ok-clause-silent g c =
    λ refusal is. passed_not (edit_read c.args.names.now c.args.words) c.in-Ok.edit refusal is c.in-Ok.ensures

pub returns-in-Ok-clause-named : goal.returns-in-Ok-clause-named
returns-in-Ok-clause-named g c =
    λ no. c.edit_file.ensures.named (warns_read c.args.names.now c.args.words c.in-Ok.edit c.in-Ok.ensures ∙ no)

pub returns-in-Ok-clause-quiet : goal.returns-in-Ok-clause-quiet
returns-in-Ok-clause-quiet g c =
    λ no. c.edit_file.ensures.quiet (warns_read c.args.names.now c.args.words c.in-Ok.edit c.in-Ok.ensures ∙ no)

pub returns-in-Err-clause-carries : goal.returns-in-Err-clause-carries
returns-in-Err-clause-carries g c = λ input out link input_tells out_tells link_tells.
    words_refused c.args.names.now c.args.words _ _ _ _ _ c.in-Err.refusal c.in-Err.ensures (λ read. inl read)

pub returns-in-Err-clause-word : goal.returns-in-Err-clause-word
returns-in-Err-clause-word g c =
    λ refusal is. ap (λ (r : Refusal). Err r)
    (refused_as (edit_read c.args.names.now c.args.words) refusal c.in-Err.refusal is c.in-Err.ensures)

pub returns-in-Err-clause-named : goal.returns-in-Err-clause-named
returns-in-Err-clause-named g c = λ no told. inl refl

pub returns-in-Err-clause-alone : goal.returns-in-Err-clause-alone
returns-in-Err-clause-alone g c = edits_alone-none c.args.file _

pub returns-in-Ok-clause-made : goal.returns-in-Ok-clause-made
returns-in-Ok-clause-made g c =
    on_ok_weaker c.edit_file.result (λ made told. (c.in-Ok.edit, c.in-Ok.ensures, made told)) c.edit_file.ensures.made

pub returns-in-Err-clause-synced : goal.returns-in-Err-clause-synced
returns-in-Err-clause-synced g c = λ told. syncs-none _

pub returns-in-Ok-clause-commits : goal.returns-in-Ok-clause-commits
returns-in-Ok-clause-commits g c = λ input datagrams told.
    committed_since _ _ _ c.args.file _ _ _ input input datagrams _ _ refl (λ worlds it. it)
    (λ world to. comes_passed (edit_read c.args.names.now c.args.words) c.in-Ok.edit _ _ world c.in-Ok.ensures to)
    (c.edit_file.ensures.commits input datagrams told)

pub returns-in-Err-clause-commits : goal.returns-in-Err-clause-commits
returns-in-Err-clause-commits g c =
    λ input datagrams told. read_committed _ c.args.file _ _ _ (λ worlds. g.met.S.Store.commits_more worlds _ _)
    (g.S.Store.commits_nothing [] _) refl
