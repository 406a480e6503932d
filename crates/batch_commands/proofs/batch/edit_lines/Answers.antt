use Rattle.std.proofs.Common.{true, length, refl, sym, subst, arith, List, []}
use Rattle.std.proofs.lemmas.Result.{on_ok_weaker}
use Rattle.outside.specs.World.{World}
use Rattle.quota_map.specs.Asked.{asked_of}
use Rattle.quota_map.specs.AnyFile.{HoldsAny}
use Rattle.std.specs.Prelude.{is_ok}
use Rattle.run_steps.specs.Done.{seen_of, tells_of}
use Rattle.batch_commands.specs.AtOnce.{MakeTogether}
use Rattle.batch_commands.specs.Batch.{LineEditMayRefuse, line_uses, way_of}
use Rattle.batch_commands.specs.BatchReading.{LineSteps}
use Rattle.batch_commands.proofs.MemoryLemmas.{no_link, no_sink, no_source}
use Rattle.batch_commands.proofs.ReadsLemmas.{placed_reads}
use Rattle.batch_commands.proofs.TogetherLemmas.{carries_read, told_first}
use Rattle.batch_commands.proofs.WantingLemmas.{wanting_never}
use Rattle.batch_commands.proofs.LinesCommittedLemmas.{looked_before, once_anyhow, placed_committed}
use Rattle.batch_commands.proofs.batch.edit_lines.Goals as goal

pub returns-in-Ended-clause-carries : goal.returns-in-Ended-clause-carries
returns-in-Ended-clause-carries g c =
    λ as_asked value held seen input out err link input_tells out_tells err_tells link_tells.
    c.in-Ended.ensures.carries value seen input out err link input_tells out_tells err_tells link_tells

pub returns-clause-carries : goal.returns-clause-carries
returns-clause-carries g c = λ as_asked value held seen input out err link input_tells out_tells err_tells link_tells.
    let S = g.S.Store in
    let reads = c.in-NotMade.ensures.reads_only in
    carries_read (LineSteps (way_of c.args.lines.now) c.args.file c.args.now c.args.lines.now value) line_uses
    (LineEditMayRefuse (asked_of c.args.format) c.args.file)
    (tells_of S.tells input_tells out_tells err_tells link_tells)
    (seen_of (S.seen c.args.store.now) input out err link) (S.seen c.edit_together.new.store)
    (seen_of (S.seen c.edit_all.new.store) input out err link) c.edit_all.result.ended reads
    (rw c.in-NotMade.ensures.back at
    (c.edit_all.ensures.carries (way_of c.args.lines.now) (asked_of c.args.format) as_asked value
    (λ told. subst (λ (files : World). HoldsAny S.tells files c.args.opened value) (sym reads.files) (held told)) input
    out err link input_tells out_tells err_tells link_tells))

pub returns-clause-wanting : goal.returns-clause-wanting
returns-clause-wanting g c = wanting_never c.edit_all.result.ended _ c.edit_all.ensures.memory

pub returns-in-Ended-clause-reads : goal.returns-in-Ended-clause-reads
returns-in-Ended-clause-reads g c = λ as_asked value held seen.
    on_ok_weaker c.in-Ended.ended (λ few told. let twelve = few told in omega (arith, twelve)) c.in-Ended.ensures.reads

pub returns-clause-reads : goal.returns-clause-reads
returns-clause-reads g c = λ as_asked value held seen.
    let S = g.S.Store in
    let reads = c.in-NotMade.ensures.reads_only in
    let old = seen_of (S.seen c.edit_together.new.store) no_source no_sink no_sink no_link in
    let new = seen_of (S.seen c.edit_all.new.store) no_source no_sink no_sink no_link in
    let way = way_of c.args.lines.now in
    let carried =
    rw c.in-NotMade.ensures.back at (c.edit_all.ensures.carries way (asked_of c.args.format) as_asked value
    (λ told. subst (λ (files : World). HoldsAny S.tells files c.args.opened value) (sym reads.files) (held told))
    no_source no_sink no_sink no_link true true true true) in
    told_first _ c.edit_all.result.ended (λ told.
    placed_reads c.args.file c.args.now c.args.lines.now value (S.seen c.args.store.now).reads
    (S.seen c.edit_together.new.store).reads (S.seen c.edit_all.new.store).reads
    c.edit_all.result.ended way old new (tells_of S.tells true true true true)
    (on_ok_weaker c.edit_all.result.ended
    (λ done. done (record { store = told; input = refl; link = refl })) carried.done)
    c.edit_all.ensures.reads (c.in-NotMade.ensures.reads_more told value (seen told)))

pub returns-in-Ended-clause-commits : goal.returns-in-Ended-clause-commits
returns-in-Ended-clause-commits g c =
    λ told value held view. once_anyhow _ _ _ c.args.file _ _ _ (c.in-Ended.ensures.commits told value view)

pub returns-clause-commits : goal.returns-clause-commits
returns-clause-commits g c = λ told value held view.
    let S = g.S.Store in
    let same = c.in-NotMade.ensures.reads_only.files in
    let steps = LineSteps (way_of c.args.lines.now) c.args.file c.args.now c.args.lines.now value in
    let old = (S.seen c.args.store.now).files in
    let middle = (S.seen c.edit_together.new.store).files in
    let new = (S.seen c.edit_all.new.store).files in
    let latter = λ (worlds : List World). S.commits worlds c.edit_together.new.store c.edit_all.new.store in
    let once = MakeTogether (asked_of c.args.format) c.args.file c.args.now c.args.lines.now old value in
    looked_before once once (is_ok c.edit_all.result.ended) steps c.args.file old middle new latter
    (λ worlds. S.commits worlds c.args.store.now c.edit_all.new.store) same (λ is. is)
    (λ worlds it. S.commits_on [] worlds _ _ _ c.in-NotMade.ensures.none_committed it)
    (placed_committed once (is_ok c.edit_all.result.ended) steps c.args.file middle new (length c.args.lines.now) latter
    (c.in-NotMade.ensures.together told value view)
    (rw c.in-NotMade.ensures.back at (c.edit_all.ensures.commits told (way_of c.args.lines.now) value
    (subst (λ (files : World). HoldsAny S.tells files c.args.opened value) (sym same) held))))
