use Rattle.std.specs.Prelude.{◌≡◌, All, take}
use Rattle.quota_radix.specs.declared.tree_path.TreePath.{TreePath}
use Rattle.tree_check.proofs.groups.count_of.Given as goal

abbrev pub invariant-loop-index : goal.invariant-loop-index
invariant-loop-index l = All (λ (leaf : TreePath). leaf.block ≡ l.block) (take l.index l.leaves)
