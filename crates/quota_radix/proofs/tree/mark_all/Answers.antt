use Rattle.std.proofs.Common.{refl}
use Rattle.file_blocks.proofs.LeadsLemmas.{leads_below}
use Rattle.file_blocks.proofs.MarkedLemmas.{met_all, met_more, met_twice}
use Rattle.quota_radix.specs.declared.tree_path.TreePath.{TreePath}
use Rattle.quota_radix.proofs.tree.mark_all.Goals as goal

pub returns-then-not-insert-clause-refused : goal.returns-then-not-insert-clause-refused
returns-then-not-insert-clause-refused c = rw c.damage_at.ensures (
  refl,
  λ blocks bound numbers are within. record {
    kind = refl;
    twice =
        met_twice (λ (path : TreePath). path.block) numbers c.args.paths.now c.loop-path.path-index _
        c.loop-path-test.true
        (c.if-not-insert.ensures.added blocks _ (c.loop-path.invariant blocks bound numbers are within)
        (leads_below blocks _ (within c.loop-path.path-index _ c.loop-path-test.true).1));
    no_id = refl;
  },
)

pub loop-path-preserved : goal.loop-path-preserved
loop-path-preserved c = λ blocks bound numbers are within.
    met_more (λ (path : TreePath). path.block) blocks _ numbers c.args.paths.now c.loop-path.path-index _
    c.loop-path-test.true
    (c.if-not-insert.ensures.added blocks _ (c.loop-path.invariant blocks bound numbers are within)
    (leads_below blocks _ (within c.loop-path.path-index _ c.loop-path-test.true).1)).0

pub returns-clause-marked : goal.returns-clause-marked
returns-clause-marked c = λ blocks bound numbers are within.
    met_all (λ (path : TreePath). path.block) blocks _ numbers c.args.paths.now c.loop-path.path-index
    c.loop-path-test.false (c.loop-path.invariant blocks bound numbers are within)
