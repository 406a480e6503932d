use Rattle.std.proofs.Common.{[], Err, inl, inr, refl, ap}
use Rattle.outside.proofs.FrameLemmas.{syncs-none}
use Rattle.refusals.specs.declared.reason.Refusal.{Refusal}
use Rattle.run_steps.specs.Numbers.{identifier_of}
use Rattle.run_steps.proofs.PhaseLemmas.{carries_then}
use Rattle.edit_commands.proofs.WordLemmas.{identifier_refusal, passed_not, refused_as, word_refused}
use Rattle.edit_commands.proofs.AloneLemmas.{edits_alone-none}
use Rattle.run_steps.proofs.CommittedLemmas.{comes_passed}
use Rattle.edit_commands.proofs.CommittedLemmas.{committed_since, read_committed}
use Rattle.edit_commands.proofs.apply.apply_named.Goals as goal

pub returns-in-Ok-clause-carries : goal.returns-in-Ok-clause-carries
returns-in-Ok-clause-carries g c = λ out link out_tells link_tells.
    carries_then (identifier_of c.args.names.now c.args.word) c.in-Ok.id _ _ _ _ _ _ _ _ c.in-Ok.ensures
    (λ cause said allowed. inr (c.in-Ok.id, c.in-Ok.ensures, allowed))
    (c.apply_form.ensures.carries out link out_tells link_tells)

pub returns-in-Ok-clause-word : goal.returns-in-Ok-clause-word
returns-in-Ok-clause-word g c =
    λ refusal is. passed_not (identifier_of c.args.names.now c.args.word) c.in-Ok.id refusal is c.in-Ok.ensures

pub returns-in-Ok-clause-store : goal.returns-in-Ok-clause-store
returns-in-Ok-clause-store g c =
    λ refusal is. passed_not (identifier_of c.args.names.now c.args.word) c.in-Ok.id refusal is c.in-Ok.ensures

pub returns-in-Err-clause-carries : goal.returns-in-Err-clause-carries
returns-in-Err-clause-carries g c = λ out link out_tells link_tells.
    word_refused (identifier_of c.args.names.now c.args.word) _ _ _ _ _ c.in-Err.refusal c.in-Err.ensures
    (identifier_refusal c.args.names.now c.args.word c.in-Err.refusal c.in-Err.ensures) (λ read. inl read)

pub returns-in-Err-clause-word : goal.returns-in-Err-clause-word
returns-in-Err-clause-word g c =
    λ refusal is. ap (λ (r : Refusal). Err r)
    (refused_as (identifier_of c.args.names.now c.args.word) refusal c.in-Err.refusal is c.in-Err.ensures)

pub returns-in-Err-clause-named : goal.returns-in-Err-clause-named
returns-in-Err-clause-named g c = λ told. inl refl

pub returns-in-Err-clause-alone : goal.returns-in-Err-clause-alone
returns-in-Err-clause-alone g c = edits_alone-none c.args.file _

pub returns-in-Err-clause-synced : goal.returns-in-Err-clause-synced
returns-in-Err-clause-synced g c = λ told. syncs-none _

pub returns-in-Ok-clause-commits : goal.returns-in-Ok-clause-commits
returns-in-Ok-clause-commits g c = λ datagrams told heard.
    committed_since _ _ _ c.args.file _ _ _ _ _ datagrams _ _ refl (λ worlds it. it)
    (λ world to. comes_passed (identifier_of c.args.names.now c.args.word) c.in-Ok.id _ _ world c.in-Ok.ensures to)
    (c.apply_form.ensures.commits datagrams told heard)

pub returns-in-Err-clause-commits : goal.returns-in-Err-clause-commits
returns-in-Err-clause-commits g c =
    λ datagrams told heard. read_committed _ c.args.file _ _ _ (λ worlds. g.met.S.Store.commits_more worlds _ _)
    (g.S.Store.commits_nothing [] _) refl
