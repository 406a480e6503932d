use Rattle.std.proofs.Common.{◌≡◌}
use Rattle.std.proofs.lemmas.List.Elements.{All-more, All-nil}
use Rattle.quota_radix.specs.declared.tree_path.TreePath.{TreePath}
use Rattle.tree_check.proofs.groups.count_of.Goals as goal

pub loop-index-init : goal.loop-index-init
loop-index-init c = All-nil (λ (leaf : TreePath). leaf.block ≡ c.args.block)

pub loop-index-preserved : goal.loop-index-preserved
loop-index-preserved c =
    All-more (λ (leaf : TreePath). leaf.block ≡ c.args.block) c.args.leaves.now c.loop-index.index
    (record { number = 0; block = 0 }) c.loop-index-test.true c.loop-index.invariant
    c.if-leaf-block.false
