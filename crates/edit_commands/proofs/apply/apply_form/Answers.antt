use Rattle.std.proofs.Common.{false, true, inl, inr, refl, ap}
use Rattle.std.proofs.lemmas.Bool.{false≢true}
use Rattle.std.proofs.lemmas.Result.{IfErr-weaker}
use Rattle.outside.specs.World.{World}
use Rattle.outside.proofs.FrameLemmas.{syncs-after_read, syncs-read}
use Rattle.run_steps.specs.Changing.{edit_uses}
use Rattle.run_steps.specs.Taking.{AForm}
use Rattle.run_steps.proofs.PhaseLemmas.{placed_nowhere}
use Rattle.run_steps.proofs.TakingLemmas.{carries_taking, fault_more, has_taken, input_refused}
use Rattle.edit_commands.proofs.RefusedEditLemmas.{left_for-read}
use Rattle.edit_commands.proofs.AloneLemmas.{edits_alone-after, edits_alone-read}
use Rattle.run_steps.proofs.CommittedLemmas.{comes_taking}
use Rattle.edit_commands.proofs.CommittedLemmas.{committed_since, read_committed}
use Rattle.edit_commands.proofs.apply.apply_form.Goals as goal

pub returns-in-Ok-clause-carries : goal.returns-in-Ok-clause-carries
returns-in-Ok-clause-carries g c = λ out link out_tells link_tells.
    let I = g.I.Source in
    let took = c.in-Ok.ensures in
    carries_taking _ c.args.from (λ limits. true) _ _ c.in-Ok.limits _ _ _ _ _ _ _ _ _ took.leaves took.later
    (λ told. rw c.as_str.ensures at (took.read told.store (λ none. told.input)))
    (λ told. has_taken c.args.from true _ _ (took.behind (λ none. told.input)) (λ all none. took.ended none told.input)
    (λ some. ap (λ i. (I.seen i).left) (took.untouched some)))
    (λ cause said may. inr (c.in-Ok.limits, may))
    (c.edit_file.ensures.carries (I.seen c.take_form.new.input) out link I.tells out_tells
    link_tells)

pub returns-in-Ok-clause-synced : goal.returns-in-Ok-clause-synced
returns-in-Ok-clause-synced g c =
    λ told. syncs-after_read _ _ _ _ c.in-Ok.ensures.leaves (c.edit_file.ensures.synced told)

pub returns-in-Err-clause-carries : goal.returns-in-Err-clause-carries
returns-in-Err-clause-carries g c = λ out link out_tells link_tells.
    let took = c.in-Err.ensures in
    input_refused _ AForm c.args.from (λ limits. true) _ _ _ _ _ _ _ _ _ took.leaves took.later
    (fault_more _ _ _ _ _ _ _ c.in-Err.refusal c.in-Err.refusal.cause (λ rose. rose) (λ rose. rose)
    (λ told. (told.store, λ none. told.input))
    (rw c.as_str.ensures at took.refused))
    (λ told. has_taken c.args.from false _ _ (took.behind (λ none. told.input)) (λ all. absurd (false≢true all))
    (λ some. ap (λ i. (g.I.Source.seen i).left) (took.untouched some)))
    took.may (inl took.may) (placed_nowhere (edit_uses false) c.in-Err.refusal took.placed)

pub returns-in-Ok-clause-named : goal.returns-in-Ok-clause-named
returns-in-Ok-clause-named g c =
    IfErr-weaker c.edit_file.result _ _
    (λ refusal left told. left_for-read refusal.cause _ _ _
    (ap (λ (w : World). w c.args.file) c.in-Ok.ensures.leaves.files) (left told)) (c.edit_file.ensures.named refl)

pub returns-in-Err-clause-named : goal.returns-in-Err-clause-named
returns-in-Err-clause-named g c = λ told. inl (ap (λ (w : World). w c.args.file) c.in-Err.ensures.leaves.files)

pub returns-in-Ok-clause-alone : goal.returns-in-Ok-clause-alone
returns-in-Ok-clause-alone g c = edits_alone-after c.args.file _ _ _ _ c.in-Ok.ensures.leaves c.edit_file.ensures.alone

pub returns-in-Err-clause-alone : goal.returns-in-Err-clause-alone
returns-in-Err-clause-alone g c = edits_alone-read c.args.file _ _ _ c.in-Err.ensures.leaves

pub returns-in-Err-clause-synced : goal.returns-in-Err-clause-synced
returns-in-Err-clause-synced g c = λ told. syncs-read _ _ _ c.in-Err.ensures.leaves

pub returns-in-Ok-clause-commits : goal.returns-in-Ok-clause-commits
returns-in-Ok-clause-commits g c = λ datagrams told heard.
    let I = g.I.Source in
    let took = c.in-Ok.ensures in
    committed_since _ _ _ c.args.file _ _ _ _ (I.seen c.take_form.new.input).left datagrams _ _ took.leaves.files
    (λ worlds it. g.met.S.Store.commits_behind_none worlds _ _ _ took.commits it)
    (λ world to.
    comes_taking c.args.from (λ limits. true) _ _ c.in-Ok.limits _ _ world
    (rw c.as_str.ensures at (took.read told heard))
    (has_taken c.args.from true _ _ (took.behind heard) (λ all none. took.ended none (heard none))
    (λ some. ap (λ i. (I.seen i).left) (took.untouched some))) to)
    (c.edit_file.ensures.commits (I.seen c.take_form.new.input).left datagrams told)

pub returns-in-Err-clause-commits : goal.returns-in-Err-clause-commits
returns-in-Err-clause-commits g c = λ datagrams told heard.
    read_committed _ c.args.file _ _ _ (λ worlds. g.met.S.Store.commits_more worlds _ _) c.in-Err.ensures.commits
    c.in-Err.ensures.leaves.files
