use Rattle.std.proofs.Common.{◌≡◌, inl, inr, Ok, refl, sym, subst, arith, []}
use Rattle.std.proofs.lemmas.Result.{on_ok_weaker}
use Rattle.outside.specs.World.{World}
use Rattle.quota_map.specs.Asked.{asked_of}
use Rattle.quota_map.specs.View.{IsView}
use Rattle.outside.proofs.FrameLemmas.{keeps_other_two-then, syncs-after_read, syncs-read}
use Rattle.run_steps.proofs.OpeningLemmas.{not_opened, unwritten}
use Rattle.run_steps.proofs.PhaseLemmas.{carries_opening}
use Rattle.batch_commands.specs.Batch.{ReadSteps, batch_step}
use Rattle.batch_commands.proofs.TogetherLemmas.{replaces-read, told_first}
use Rattle.batch_commands.proofs.WantingLemmas.{wanting_since}
use Rattle.std.specs.Prelude.{is_ok}
use Rattle.run_steps.specs.Done.{Outside}
use Rattle.run_steps.specs.Steps.{Opening}
use Rattle.refusals.specs.Outcome.{Passed}
use Rattle.run_steps.specs.Taking.{input_said}
use Rattle.run_steps.proofs.CommittedLemmas.{comes_opened, unended_committed}
use Rattle.batch_commands.specs.AtOnce.{MakeTogether}
use Rattle.batch_commands.proofs.LinesCommittedLemmas.{phase_committed}
use Rattle.batch_commands.proofs.batch.apply_named.Goals as goal

pub returns-in-Ok-clause-carries : goal.returns-in-Ok-clause-carries
returns-in-Ok-clause-carries g c = λ out err link out_tells err_tells link_tells.
    let opened = c.in-Ok.ensures in
    let file = c.as_str.ensures in
    carries_opening c.args.file c.args.kind (asked_of c.args.format) _ _ _ _ _ _ _ _ _ (rw file at opened.leaves)
    (λ told. rw file at (opened.seen told)) (λ cause said may. may)
    (λ value view.
    c.apply_opened.ensures.carries opened.as_asked value (λ told. opened.held told value (rw (sym file) at (view told)))
    (λ told. subst (λ (files : World). IsView (files c.args.file) c.args.kind (asked_of c.args.format) (Ok value))
    (sym opened.leaves.files) (view told)) out err link out_tells err_tells link_tells)

pub returns-in-Ok-clause-synced : goal.returns-in-Ok-clause-synced
returns-in-Ok-clause-synced g c =
    λ told. syncs-after_read _ _ _ _ c.in-Ok.ensures.leaves (c.apply_opened.ensures.synced told)

pub returns-in-Err-clause-carries : goal.returns-in-Err-clause-carries
returns-in-Err-clause-carries g c = λ out err link out_tells err_tells link_tells.
    rw (c.of.ensures, c.opening_cause.ensures)
    (not_opened c.args.kind (asked_of c.args.format) c.args.file _ _ _ _ _ _ c.in-Err.fault
    (rw c.as_str.ensures at c.in-Err.ensures.refused) (rw c.as_str.ensures at c.in-Err.ensures.leaves)
    (λ cause may. inl (inr may)))

pub returns-in-Ok-clause-others : goal.returns-in-Ok-clause-others
returns-in-Ok-clause-others g c =
    keeps_other_two-then c.args.file _ _ _ _ (replaces-read c.args.file _ _ _ c.in-Ok.ensures.leaves)
    c.apply_opened.ensures.others

pub returns-in-Err-clause-others : goal.returns-in-Err-clause-others
returns-in-Err-clause-others g c = replaces-read c.args.file _ _ _ c.in-Err.ensures.leaves

pub returns-in-Ok-clause-reads : goal.returns-in-Ok-clause-reads
returns-in-Ok-clause-reads g c = λ none.
    let S = g.S.Store in
    let opened = c.in-Ok.ensures in
    let file = c.as_str.ensures in
    told_first _ c.apply_opened.result (λ told.
    let view = (rw file at opened.seen) told in
    let value = view.0 in
    let few = c.apply_opened.ensures.reads opened.as_asked value (λ is. opened.held is value (rw (sym file) at view.1))
    (λ is. subst (λ (files : World). IsView (files c.args.file) c.args.kind (asked_of c.args.format) (Ok value))
    (sym opened.leaves.files) view.1) none in
    on_ok_weaker c.apply_opened.result (λ reads input_told.
    let opening = (rw file at opened.reads) told in
    let lines = reads told input_told in
    omega (arith, opening, lines)) few)

pub returns-in-Err-clause-synced : goal.returns-in-Err-clause-synced
returns-in-Err-clause-synced g c = λ told. syncs-read _ _ _ c.in-Err.ensures.leaves

pub returns-in-Ok-clause-wanting : goal.returns-in-Ok-clause-wanting
returns-in-Ok-clause-wanting g c =
    wanting_since c.apply_opened.result _ _ _ (unwritten _ _ _ c.in-Ok.ensures.leaves) c.apply_opened.ensures.wanting

pub returns-in-Err-clause-wanting : goal.returns-in-Err-clause-wanting
returns-in-Err-clause-wanting g c = λ is. unwritten _ _ _ c.in-Err.ensures.leaves

pub returns-in-Ok-clause-commits : goal.returns-in-Ok-clause-commits
returns-in-Ok-clause-commits g c = λ datagrams told input_told.
    let S = g.S.Store in
    let file = c.args.file in
    let opened = c.in-Ok.ensures in
    let between = c.open_file.new.store in
    let last = c.apply_opened.new.store in
    let old = (S.seen c.args.store.now).files in
    let input = (g.I.Source.seen c.args.input.now).left in
    let start : Outside = record { files = old; input = input; datagrams = datagrams } in
    let next = ReadSteps c.args.names.now c.args.from file c.args.now in
    let seen = (rw c.as_str.ensures at opened.seen) told in
    let value = seen.0 in
    let ended = is_ok c.apply_opened.result in
    phase_committed _ _ ended ended (next value) (Opening c.args.kind (asked_of c.args.format) file next) file old
    (S.seen between).files (S.seen last).files input input datagrams
    (λ worlds. S.commits worlds between last) (λ worlds. S.commits worlds c.args.store.now last) opened.leaves.files
    (λ all asked said. subst (λ (w : World). MakeTogether (asked_of c.args.format) file c.args.now asked.edits w value)
    (sym opened.leaves.files)
    (all value seen.1 asked
    (subst (λ (w : World). input_said c.args.from (batch_step c.args.names.now c.args.from) w input ≡ Passed asked)
    opened.leaves.files said)))
    (λ well. well) (λ worlds it. S.commits_on [] worlds _ _ _ opened.commits it)
    (λ world to. comes_opened c.args.kind (asked_of c.args.format) file next start value world seen.1 to)
    (c.apply_opened.ensures.commits datagrams told input_told value
    (opened.held told value (rw (sym c.as_str.ensures) at seen.1))
    (subst (λ (files : World). IsView (files file) c.args.kind (asked_of c.args.format) (Ok value))
    (sym opened.leaves.files) seen.1))

pub returns-in-Err-clause-commits : goal.returns-in-Err-clause-commits
returns-in-Err-clause-commits g c = λ datagrams told input_told.
    unended_committed _ _ _ _ _ (λ worlds. g.S.Store.commits worlds c.args.store.now c.open_file.new.store)
    (λ worlds none. g.met.S.Store.commits_more worlds _ _ none) c.in-Err.ensures.commits (λ other differ differs. refl)
