use Rattle.std.proofs.Common.{◌≡◌, ◌/◌}
use Rattle.std.proofs.lemmas.List.Elements.{All-more}
use Rattle.quota_radix.specs.declared.tree_path.TreePath.{TreePath}
use Rattle.tree_build.proofs.new_tree.count_siblings.Goals as goal

pub loop-count-preserved : goal.loop-count-preserved
loop-count-preserved c =
    All-more (λ (path : TreePath). path.number / 256 ≡ c.args.number) c.args.paths.now c.loop-count.count _
    c.loop-count-test.true c.loop-count.invariant c.if-path-number.false
