use Rattle.std.proofs.Common.{Err, inl, inr, ap}
use Rattle.outside.proofs.FrameLemmas.{syncs-none}
use Rattle.refusals.specs.declared.reason.Refusal.{Refusal}
use Rattle.run_steps.specs.Numbers.{identifier_of}
use Rattle.run_steps.proofs.PhaseLemmas.{carries_then}
use Rattle.edit_commands.proofs.WordLemmas.{identifier_refusal, passed_not, refused_as, word_refused}
use Rattle.edit_commands.proofs.print.print_named.Goals as goal

pub returns-in-Ok-clause-carries : goal.returns-in-Ok-clause-carries
returns-in-Ok-clause-carries g c = λ input err link input_tells err_tells link_tells.
    carries_then (identifier_of c.args.names.now c.args.word) c.in-Ok.id _ _ _ _ _ _ _ _ c.in-Ok.ensures
    (λ cause said allowed. inr (c.in-Ok.id, c.in-Ok.ensures, allowed))
    (c.print_opened.ensures.carries input err link input_tells err_tells link_tells)

pub returns-in-Ok-clause-word : goal.returns-in-Ok-clause-word
returns-in-Ok-clause-word g c =
    λ refusal is. passed_not (identifier_of c.args.names.now c.args.word) c.in-Ok.id refusal is c.in-Ok.ensures

pub returns-in-Ok-clause-store : goal.returns-in-Ok-clause-store
returns-in-Ok-clause-store g c =
    λ refusal is. passed_not (identifier_of c.args.names.now c.args.word) c.in-Ok.id refusal is c.in-Ok.ensures

pub returns-in-Err-clause-carries : goal.returns-in-Err-clause-carries
returns-in-Err-clause-carries g c = λ input err link input_tells err_tells link_tells.
    word_refused (identifier_of c.args.names.now c.args.word) _ _ _ _ _ c.in-Err.refusal c.in-Err.ensures
    (identifier_refusal c.args.names.now c.args.word c.in-Err.refusal c.in-Err.ensures) (λ read. inl read)

pub returns-in-Err-clause-word : goal.returns-in-Err-clause-word
returns-in-Err-clause-word g c =
    λ refusal is. ap (λ (r : Refusal). Err r)
    (refused_as (identifier_of c.args.names.now c.args.word) refusal c.in-Err.refusal is c.in-Err.ensures)

pub returns-in-Err-clause-synced : goal.returns-in-Err-clause-synced
returns-in-Err-clause-synced g c = syncs-none _
