use Rattle.std.proofs.Common.{false, Ok, Err, Option, inl, inr, refl, sym, ap, subst, [], true}
use Rattle.std.specs.Prelude.{IfSome}
use Rattle.std.proofs.lemmas.Bool.{false≢true}
use Rattle.outside.specs.Seen.{StoreSeen}
use Rattle.outside.specs.World.{World}
use Rattle.outside.proofs.FrameLemmas.{keeps_other_two-then, syncs-all, syncs-any, syncs-less, syncs-read, syncs-then}
use Rattle.quota_map.specs.Asked.{asked_of}
use Rattle.quota_map.specs.AnyFile.{HoldsAny}
use Rattle.quota_map.specs.View.{IsView}
use Rattle.refusals.specs.declared.reason.Refusal.{Refusal}
use Rattle.run_steps.specs.Taking.{Lines, input_name}
use Rattle.batch_commands.specs.Batch.{Applying, AskedEdits, LineEditMayRefuse, is_to_end, line_uses}
use Rattle.batch_commands.specs.BatchReading.{IsOfInputLine}
use Rattle.batch_commands.proofs.BatchLemmas.{ends_none, then_ended, then_refused, then_stopped}
use Rattle.run_steps.proofs.OpeningLemmas.{unwritten}
use Rattle.run_steps.proofs.PhaseLemmas.{placed_nowhere}
use Rattle.run_steps.proofs.TakingLemmas.{carries_taking, fault_more, has_taken, input_refused}
use Rattle.batch_commands.proofs.TogetherLemmas.{replaces-read}
use Rattle.batch_commands.proofs.ReadsLemmas.{asked_reads}
use Rattle.batch_commands.proofs.WantingLemmas.{line_wants, wanting_since}
use Rattle.batch_commands.proofs.LinesCommittedLemmas.{applied_committed}
use Rattle.run_steps.proofs.CommittedLemmas.{unended_committed}
use Rattle.batch_commands.proofs.batch.apply_opened.Goals as goal

pub returns-in-Some-clause-carries : goal.returns-in-Some-clause-carries
returns-in-Some-clause-carries g c = λ as_asked value held seen out err link out_tells err_tells link_tells.
    let took = c.in-Ok.ensures in
    let asked : AskedEdits = record { edits = c.in-Ok.batch.edits.items; refusal = c.in-Ok.batch.refusal } in
    let may = subst (λ (o : Option Refusal). IfSome o (IsOfInputLine c.args.names.now (input_name c.args.from)))
    c.in-Some.is took.may_ask in
    carries_taking _ c.args.from is_to_end _ (Applying c.args.file c.args.now value) asked line_uses _ _ _ _ _ _ _ _
    took.leaves took.later (λ told. took.read told.store (λ none. told.input))
    (λ told. has_taken c.args.from (is_to_end asked) _ _ (took.behind (λ none. told.input))
    (λ all none. took.ended (ends_none asked.refusal all) none told.input)
    (λ some. ap (λ i. (g.I.Source.seen i).left) (took.untouched some))) (λ cause said may. may)
    (then_refused _ _ _ c.args.names.now (input_name c.args.from) asked c.in-Some.refusal
    (LineEditMayRefuse (asked_of c.args.format) c.args.file) _ _ _ _
    c.in-Some.is may (inr (inr may.may))
    (rw c.as_slice.ensures.value at (c.in-Ok-edit_lines.ensures.carries as_asked value
    (λ told.
    subst (λ (files : World). HoldsAny g.S.Store.tells files c.args.opened value) (sym took.leaves.files) (held told))
    (λ told. subst (λ (files : World). IsView (files c.args.file) c.args.kind (asked_of c.args.format) (Ok value))
    (sym took.leaves.files) (seen told))
    (g.I.Source.seen c.take_batch.new.input) out err link g.I.Source.tells out_tells err_tells link_tells)))

pub returns-in-Ok-edit_lines-clause-carries : goal.returns-in-Ok-edit_lines-clause-carries
returns-in-Ok-edit_lines-clause-carries g c = λ as_asked value held seen out err link out_tells err_tells link_tells.
    let took = c.in-Ok.ensures in
    let asked : AskedEdits = record { edits = c.in-Ok.batch.edits.items; refusal = c.in-Ok.batch.refusal } in
    carries_taking _ c.args.from is_to_end _ (Applying c.args.file c.args.now value) asked line_uses _ _ _ _ _ _ _ _
    took.leaves took.later (λ told. took.read told.store (λ none. told.input))
    (λ told. has_taken c.args.from (is_to_end asked) _ _ (took.behind (λ none. told.input))
    (λ all none. took.ended (ends_none asked.refusal all) none told.input)
    (λ some. ap (λ i. (g.I.Source.seen i).left) (took.untouched some))) (λ cause said may. may)
    (then_ended _ _ _ asked (LineEditMayRefuse (asked_of c.args.format) c.args.file) _ _ _ _ c.in-None.is
    (rw c.as_slice.ensures.value at (c.in-Ok-edit_lines.ensures.carries as_asked value
    (λ told.
    subst (λ (files : World). HoldsAny g.S.Store.tells files c.args.opened value) (sym took.leaves.files) (held told))
    (λ told. subst (λ (files : World). IsView (files c.args.file) c.args.kind (asked_of c.args.format) (Ok value))
    (sym took.leaves.files) (seen told))
    (g.I.Source.seen c.take_batch.new.input) out err link g.I.Source.tells out_tells err_tells link_tells)))

pub returns-in-Some-clause-synced : goal.returns-in-Some-clause-synced
returns-in-Some-clause-synced g c =
    λ told. syncs-any _ _ _ (syncs-read _ _ _ c.in-Ok.ensures.leaves) (c.in-Ok-edit_lines.ensures.synced told)

pub returns-in-Ok-edit_lines-clause-synced : goal.returns-in-Ok-edit_lines-clause-synced
returns-in-Ok-edit_lines-clause-synced g c = λ told.
    let took = c.in-Ok.ensures in
    syncs-then _ _ _
    (syncs-all _ _ took.leaves.later (record {
      none = took.synced c.in-None.is;
      changed = λ name. inr (ap (λ (files : World). files name) took.leaves.files);
    }))
    (c.in-Ok-edit_lines.ensures.synced told)

pub returns-in-Ok-clause-synced : goal.returns-in-Ok-clause-synced
returns-in-Ok-clause-synced g c =
    λ told. syncs-any _ _ _ (syncs-read _ _ _ c.in-Ok.ensures.leaves) (c.in-Err-edit_lines.ensures.synced told)

pub returns-clause-synced : goal.returns-clause-synced
returns-clause-synced g c = λ told. syncs-less _ _ (syncs-read _ _ _ c.in-Err.ensures.leaves)

pub returns-in-Ok-clause-carries : goal.returns-in-Ok-clause-carries
returns-in-Ok-clause-carries g c = λ as_asked value held seen out err link out_tells err_tells link_tells.
    let took = c.in-Ok.ensures in
    let asked : AskedEdits = record { edits = c.in-Ok.batch.edits.items; refusal = c.in-Ok.batch.refusal } in
    carries_taking _ c.args.from is_to_end _ (Applying c.args.file c.args.now value) asked line_uses _ _ _ _ _ _ _ _
    took.leaves took.later (λ told. took.read told.store (λ none. told.input))
    (λ told. has_taken c.args.from (is_to_end asked) _ _ (took.behind (λ none. told.input))
    (λ all none. took.ended (ends_none asked.refusal all) none told.input)
    (λ some. ap (λ i. (g.I.Source.seen i).left) (took.untouched some))) (λ cause said may. may)
    (then_stopped _ _ _ asked c.in-Err-edit_lines.refusal (LineEditMayRefuse (asked_of c.args.format) c.args.file) _ _ _
    _ (λ cause said may. inl may)
    (rw c.as_slice.ensures.value at (c.in-Err-edit_lines.ensures.carries as_asked value
    (λ told.
    subst (λ (files : World). HoldsAny g.S.Store.tells files c.args.opened value) (sym took.leaves.files) (held told))
    (λ told. subst (λ (files : World). IsView (files c.args.file) c.args.kind (asked_of c.args.format) (Ok value))
    (sym took.leaves.files) (seen told))
    (g.I.Source.seen c.take_batch.new.input) out err link g.I.Source.tells out_tells err_tells link_tells)))

pub returns-clause-carries : goal.returns-clause-carries
returns-clause-carries g c = λ as_asked value held seen out err link out_tells err_tells link_tells.
    let took = c.in-Err.ensures in
    input_refused _ Lines c.args.from is_to_end _ (Applying c.args.file c.args.now value) _ _ _ _ _ _ _
    took.leaves took.later
    (fault_more _ _ _ _ _ _ _ c.in-Err.refusal c.in-Err.refusal.cause (λ rose. rose) (λ rose. rose)
    (λ told. (told.store, λ none. told.input)) took.refused)
    (λ told. has_taken c.args.from false _ _ (took.behind (λ none. told.input)) (λ all. absurd (false≢true all))
    (λ some. ap (λ i. (g.I.Source.seen i).left) (took.untouched some)))
    took.may (inr (inl took.may)) (placed_nowhere line_uses c.in-Err.refusal took.placed)

pub returns-in-Some-clause-others : goal.returns-in-Some-clause-others
returns-in-Some-clause-others g c =
    keeps_other_two-then c.args.file _ _ _ _ (replaces-read c.args.file _ _ _ c.in-Ok.ensures.leaves)
    c.in-Ok-edit_lines.ensures.others

pub returns-in-Ok-edit_lines-clause-others : goal.returns-in-Ok-edit_lines-clause-others
returns-in-Ok-edit_lines-clause-others g c =
    keeps_other_two-then c.args.file _ _ _ _ (replaces-read c.args.file _ _ _ c.in-Ok.ensures.leaves)
    c.in-Ok-edit_lines.ensures.others

pub returns-in-Ok-clause-others : goal.returns-in-Ok-clause-others
returns-in-Ok-clause-others g c =
    keeps_other_two-then c.args.file _ _ _ _ (replaces-read c.args.file _ _ _ c.in-Ok.ensures.leaves)
    c.in-Err-edit_lines.ensures.others

pub returns-clause-others : goal.returns-clause-others
returns-clause-others g c = replaces-read c.args.file _ _ _ c.in-Err.ensures.leaves

pub returns-in-Ok-edit_lines-clause-reads : goal.returns-in-Ok-edit_lines-clause-reads
returns-in-Ok-edit_lines-clause-reads g c = λ as_asked value held seen none told input_told.
    let S = g.S.Store in
    let took = c.in-Ok.ensures in
    let asked : AskedEdits = record { edits = c.in-Ok.batch.edits.items; refusal = c.in-Ok.batch.refusal } in
    let unread = ap S.seen (took.unread none) in
    let files = took.leaves.files in
    asked_reads c.args.names.now c.args.from (S.seen c.args.store.now).files _ asked (S.seen c.args.store.now).reads
    (S.seen c.take_batch.new.store).reads _
    none (took.read told (λ is. input_told)) (ap (λ (s : StoreSeen). s.reads) unread)
    (rw c.as_slice.ensures.value at (c.in-Ok-edit_lines.ensures.reads as_asked value
    (λ told. subst (λ (w : World). HoldsAny S.tells w c.args.opened value) (sym files) (held told))
    (λ told. subst (λ (w : World). IsView (w c.args.file) c.args.kind (asked_of c.args.format) (Ok value)) (sym files)
    (seen told)) told))

pub returns-in-Some-clause-wanting : goal.returns-in-Some-clause-wanting
returns-in-Some-clause-wanting g c =
    let may = subst (λ (o : Option Refusal). IfSome o (IsOfInputLine c.args.names.now (input_name c.args.from)))
    c.in-Some.is c.in-Ok.ensures.may_ask in
    λ is. absurd
    (line_wants c.args.names.now (input_name c.args.from) c.in-Some.refusal.cause c.in-Some.refusal.name may.may is)

pub returns-in-Ok-clause-wanting : goal.returns-in-Ok-clause-wanting
returns-in-Ok-clause-wanting g c =
    wanting_since (Err c.in-Err-edit_lines.refusal) _ _ _ (unwritten _ _ _ c.in-Ok.ensures.leaves)
    c.in-Err-edit_lines.ensures.wanting

pub returns-clause-wanting : goal.returns-clause-wanting
returns-clause-wanting g c = λ is. unwritten _ _ _ c.in-Err.ensures.leaves

pub returns-in-Some-clause-commits : goal.returns-in-Some-clause-commits
returns-in-Some-clause-commits g c = λ datagrams told input_told value held seen.
    let S = g.S.Store in
    let took = c.in-Ok.ensures in
    let asked : AskedEdits = record { edits = c.in-Ok.batch.edits.items; refusal = c.in-Ok.batch.refusal } in
    let same = took.leaves.files in
    let between = c.take_batch.new.store in
    let last = c.edit_lines.new.store in
    let input = (g.I.Source.seen c.args.input.now).left in
    let left = (g.I.Source.seen c.take_batch.new.input).left in
    applied_committed true false c.args.names.now c.args.from (asked_of c.args.format) c.args.file c.args.now value
    asked (S.seen c.args.store.now).files (S.seen between).files (S.seen last).files
    input left datagrams (λ worlds. S.commits worlds between last) (λ worlds. S.commits worlds c.args.store.now last)
    same (λ well. refl)
    (λ worlds it. S.commits_on [] worlds _ _ _ took.commits it) (took.read told input_told)
    (has_taken c.args.from (is_to_end asked) input left (took.behind input_told)
    (λ all none. took.ended (ends_none asked.refusal all) none (input_told none))
    (λ some. ap (λ i. (g.I.Source.seen i).left) (took.untouched some)))
    (rw c.as_slice.ensures.value at (c.in-Ok-edit_lines.ensures.commits told value
    (subst (λ (files : World). HoldsAny S.tells files c.args.opened value) (sym same) held)
    (subst (λ (files : World). IsView (files c.args.file) c.args.kind (asked_of c.args.format) (Ok value))
    (sym same) seen)))

pub returns-in-Ok-edit_lines-clause-commits : goal.returns-in-Ok-edit_lines-clause-commits
returns-in-Ok-edit_lines-clause-commits g c = λ datagrams told input_told value held seen.
    let S = g.S.Store in
    let took = c.in-Ok.ensures in
    let asked : AskedEdits = record { edits = c.in-Ok.batch.edits.items; refusal = c.in-Ok.batch.refusal } in
    let same = took.leaves.files in
    let between = c.take_batch.new.store in
    let last = c.edit_lines.new.store in
    let input = (g.I.Source.seen c.args.input.now).left in
    let left = (g.I.Source.seen c.take_batch.new.input).left in
    applied_committed true true c.args.names.now c.args.from (asked_of c.args.format) c.args.file c.args.now value asked
    (S.seen c.args.store.now).files (S.seen between).files (S.seen last).files
    input left datagrams (λ worlds. S.commits worlds between last) (λ worlds. S.commits worlds c.args.store.now last)
    same (λ well. well)
    (λ worlds it. S.commits_on [] worlds _ _ _ took.commits it) (took.read told input_told)
    (has_taken c.args.from (is_to_end asked) input left (took.behind input_told)
    (λ all none. took.ended (ends_none asked.refusal all) none (input_told none))
    (λ some. ap (λ i. (g.I.Source.seen i).left) (took.untouched some)))
    (rw c.as_slice.ensures.value at (c.in-Ok-edit_lines.ensures.commits told value
    (subst (λ (files : World). HoldsAny S.tells files c.args.opened value) (sym same) held)
    (subst (λ (files : World). IsView (files c.args.file) c.args.kind (asked_of c.args.format) (Ok value))
    (sym same) seen)))

pub returns-in-Ok-clause-commits : goal.returns-in-Ok-clause-commits
returns-in-Ok-clause-commits g c = λ datagrams told input_told value held seen.
    let S = g.S.Store in
    let took = c.in-Ok.ensures in
    let asked : AskedEdits = record { edits = c.in-Ok.batch.edits.items; refusal = c.in-Ok.batch.refusal } in
    let same = took.leaves.files in
    let between = c.take_batch.new.store in
    let last = c.edit_lines.new.store in
    let input = (g.I.Source.seen c.args.input.now).left in
    let left = (g.I.Source.seen c.take_batch.new.input).left in
    applied_committed false false c.args.names.now c.args.from (asked_of c.args.format) c.args.file c.args.now value
    asked (S.seen c.args.store.now).files (S.seen between).files (S.seen last).files
    input left datagrams (λ worlds. S.commits worlds between last) (λ worlds. S.commits worlds c.args.store.now last)
    same (λ well. well)
    (λ worlds it. S.commits_on [] worlds _ _ _ took.commits it) (took.read told input_told)
    (has_taken c.args.from (is_to_end asked) input left (took.behind input_told)
    (λ all none. took.ended (ends_none asked.refusal all) none (input_told none))
    (λ some. ap (λ i. (g.I.Source.seen i).left) (took.untouched some)))
    (rw c.as_slice.ensures.value at (c.in-Err-edit_lines.ensures.commits told value
    (subst (λ (files : World). HoldsAny S.tells files c.args.opened value) (sym same) held)
    (subst (λ (files : World). IsView (files c.args.file) c.args.kind (asked_of c.args.format) (Ok value))
    (sym same) seen)))

pub returns-clause-commits : goal.returns-clause-commits
returns-clause-commits g c = λ datagrams told input_told value held seen.
    unended_committed _ _ _ _ _ (λ worlds. g.S.Store.commits worlds c.args.store.now c.take_batch.new.store)
    (λ worlds none. g.met.S.Store.commits_more worlds _ _ none) c.in-Err.ensures.commits (λ other differ differs. refl)
