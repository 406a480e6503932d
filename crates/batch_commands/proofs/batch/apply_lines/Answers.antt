use Rattle.std.proofs.Common.{◌≡◌, inl, inr, Ok, ap, refl, subst, sym, List, []}
use Rattle.outside.proofs.FrameLemmas.{keeps_other_two-then, syncs-after_read, syncs-read}
use Rattle.run_steps.proofs.OpeningLemmas.{unwritten}
use Rattle.run_steps.proofs.PhaseLemmas.{carries_naming, naming_refused}
use Rattle.batch_commands.proofs.ReadsLemmas.{named_within}
use Rattle.batch_commands.proofs.TogetherLemmas.{replaces-read}
use Rattle.batch_commands.proofs.WantingLemmas.{wanting_since}
use Rattle.std.specs.Prelude.{is_ok}
use Rattle.id_names.specs.NamesFile.{NameLine}
use Rattle.outside.specs.World.{World}
use Rattle.quota_map.specs.Asked.{asked_of}
use Rattle.quota_map.specs.View.{IsView}
use Rattle.refusals.specs.Outcome.{Passed}
use Rattle.run_steps.specs.Taking.{input_said}
use Rattle.run_steps.proofs.CommittedLemmas.{comes_looked, comes_passed, unended_committed}
use Rattle.batch_commands.specs.AtOnce.{MakeTogether}
use Rattle.run_steps.specs.Done.{Outside}
use Rattle.run_steps.specs.Naming.{names_seen}
use Rattle.run_steps.specs.Steps.{Opening, Then}
use Rattle.batch_commands.specs.Batch.{BatchSteps, ReadSteps, batch_step}
use Rattle.batch_commands.proofs.LinesCommittedLemmas.{phase_committed}
use Rattle.batch_commands.proofs.batch.apply_lines.Goals as goal

pub returns-in-Ok-clause-carries : goal.returns-in-Ok-clause-carries
returns-in-Ok-clause-carries g c = λ out err link out_tells err_tells link_tells line.
    let read = c.in-Ok.ensures in
    carries_naming _ c.args.common.kind c.args.common.names c.in-Ok.names _ _ _ _ _ _ _ _ _ read.leaves read.read
    (λ cause said may. inr (c.in-Ok.names, read.given, may))
    (c.apply_named.ensures.carries out err link out_tells err_tells link_tells)

pub returns-in-Ok-clause-synced : goal.returns-in-Ok-clause-synced
returns-in-Ok-clause-synced g c =
    λ told. syncs-after_read _ _ _ _ c.in-Ok.ensures.leaves (c.apply_named.ensures.synced told)

pub returns-in-Err-clause-carries : goal.returns-in-Err-clause-carries
returns-in-Err-clause-carries g c = λ out err link out_tells err_tells link_tells line.
    let read = c.in-Err.ensures in
    naming_refused c.args.common.kind c.args.common.names _ _ _ _ _ _ _ read.leaves read.refused read.may
    (λ may. inl may) read.placed

pub returns-in-Ok-clause-others : goal.returns-in-Ok-clause-others
returns-in-Ok-clause-others g c =
    keeps_other_two-then c.args.file _ _ _ _ (replaces-read c.args.file _ _ _ c.in-Ok.ensures.leaves)
    c.apply_named.ensures.others

pub returns-in-Err-clause-others : goal.returns-in-Err-clause-others
returns-in-Err-clause-others g c = replaces-read c.args.file _ _ _ c.in-Err.ensures.leaves

pub returns-in-Ok-clause-reads : goal.returns-in-Ok-clause-reads
returns-in-Ok-clause-reads g c =
    let S = g.S.Store in
    named_within c.args.common c.args.from c.args.file (g.I.Source.seen c.args.input.now).left c.apply_named.result _ _
    c.in-Ok.names (S.seen c.args.store.now) (S.seen c.read_names.new.store) (S.seen c.apply_named.new.store)
    c.in-Ok.ensures.given (λ none. ap S.seen (c.in-Ok.ensures.untouched none)) c.apply_named.ensures.reads

pub returns-in-Err-clause-synced : goal.returns-in-Err-clause-synced
returns-in-Err-clause-synced g c = λ told. syncs-read _ _ _ c.in-Err.ensures.leaves

pub returns-in-Ok-clause-wanting : goal.returns-in-Ok-clause-wanting
returns-in-Ok-clause-wanting g c =
    wanting_since c.apply_named.result _ _ _ (unwritten _ _ _ c.in-Ok.ensures.leaves) c.apply_named.ensures.wanting

pub returns-in-Err-clause-wanting : goal.returns-in-Err-clause-wanting
returns-in-Err-clause-wanting g c = λ is. unwritten _ _ _ c.in-Err.ensures.leaves

pub returns-in-Ok-clause-commits : goal.returns-in-Ok-clause-commits
returns-in-Ok-clause-commits g c = λ datagrams line told input_told.
    let S = g.S.Store in
    let common = c.args.common in
    let file = c.args.file in
    let read = c.in-Ok.ensures in
    let names = c.in-Ok.names in
    let between = c.read_names.new.store in
    let last = c.apply_named.new.store in
    let old = (S.seen c.args.store.now).files in
    let input = (g.I.Source.seen c.args.input.now).left in
    let start : Outside = record { files = old; input = input; datagrams = datagrams } in
    let next = λ (lines : List NameLine).
    Opening common.kind (asked_of common.format) file (ReadSteps lines c.args.from file c.args.now) in
    let steps = BatchSteps common c.args.from file (record { now = c.args.now; line = line }) in
    let ended = is_ok c.apply_named.result in
    phase_committed _ _ ended ended (next names) steps file old (S.seen between).files (S.seen last).files input input
    datagrams (λ worlds. S.commits worlds between last)
    (λ worlds. S.commits worlds c.args.store.now last) read.leaves.files
    (λ all value seen asked said. subst
    (λ (w : World). MakeTogether (asked_of common.format) file c.args.now asked.edits w value) (sym read.leaves.files)
    (all names (read.read told) value
    (subst (λ (w : World). IsView (w file) common.kind (asked_of common.format) (Ok value)) read.leaves.files seen)
    asked
    (subst (λ (w : World). input_said c.args.from (batch_step names c.args.from) w input ≡ Passed asked)
    read.leaves.files said)))
    (λ well. well) (λ worlds it. S.commits_on [] worlds _ _ _ read.commits it)
    (λ world to. comes_looked (λ (files : World). Then (names_seen common.kind common.names files) next) start world
    (comes_passed (names_seen common.kind common.names old) names next start world (read.read told) to))
    (c.apply_named.ensures.commits datagrams told input_told)

pub returns-in-Err-clause-commits : goal.returns-in-Err-clause-commits
returns-in-Err-clause-commits g c = λ datagrams line told input_told.
    unended_committed _ _ _ _ _ (λ worlds. g.S.Store.commits worlds c.args.store.now c.read_names.new.store)
    (λ worlds none. g.met.S.Store.commits_more worlds _ _ none) c.in-Err.ensures.commits (λ other differ differs. refl)
