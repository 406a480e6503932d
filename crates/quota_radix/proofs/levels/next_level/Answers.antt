use Rattle.std.proofs.Common.{ℕ, List, arith, []}
use Rattle.std.proofs.lemmas.Result.{err_from_is_err_and}
use Rattle.std.proofs.lemmas.List.Elements.{All-more}
use Rattle.outside.proofs.FrameLemmas.{only_reads-then}
use Rattle.quota_radix.specs.declared.tree_path.TreePath.{TreePath}
use Rattle.byte_order.specs.Words.{words_of}
use Rattle.quota_radix.specs.Levels.{IsWhole}
use Rattle.quota_radix.proofs.LevelLemmas.{level_refused, paths_more, read_of_same}
use Rattle.quota_radix.proofs.levels.next_level.Goals as goal

pub returns-in_err-add_steps-clause-refused : goal.returns-in_err-add_steps-clause-refused
returns-in_err-add_steps-clause-refused g c =
    let p = err_from_is_err_and c.from_residual-in_err-add_steps.result c.from_residual-in_err-add_steps.ensures.1 in
    let kept = c.loop-path.invariant in
    rw (p.1, p.2) (level_refused _ _ c.args.blocks _ _ c.read_words.new.block c.args.level.now c.loop-path.path-index _
    c.loop-path-test.true
    (λ told.
    read_of_same c.args.order c.args.name.now _ _ _ _ kept.leaves.files (c.in_ok-read_words.ensures.words told))
    _ c.in_err-add_steps.ensures.refused)

pub loop-path-preserved : goal.loop-path-preserved
loop-path-preserved g c =
    let kept = c.loop-path.invariant in
    let read = c.in_ok-read_words.ensures in
    let adds = c.in_ok-add_steps.ensures in
    let file : List ℕ = words_of c.args.order (g.S.Store.seen c.args.store.now).files c.args.name.now in
    record {
      next =
          λ told. paths_more _ _ c.args.level.now c.loop-path.next.items _ c.loop-path.path-index _
          c.loop-path-test.true (kept.next told)
          (adds.added file (read_of_same c.args.order c.args.name.now _ _ _ _ kept.leaves.files (read.words told)));
      whole =
          λ told. All-more (λ (path : TreePath). IsWhole file c.args.blocks path.block) c.args.level.now
          c.loop-path.path-index _ c.loop-path-test.true (kept.whole told)
          (adds.whole file (read_of_same c.args.order c.args.name.now _ _ _ _ kept.leaves.files (read.words told)));
      within = λ bound within.
          adds.within bound (within c.loop-path.path-index _ c.loop-path-test.true).0 (kept.within bound within);
      leaves = only_reads-then _ _ _ _ kept.leaves read.leaves;
      reads = omega (arith, read.reads, kept.reads);
      commits = g.S.Store.commits_on [] [] _ _ _ c.loop-path.invariant.commits read.commits;
    }
