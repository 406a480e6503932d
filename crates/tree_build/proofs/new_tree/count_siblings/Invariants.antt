use Rattle.std.proofs.Common.{◌≡◌, ◌/◌, take}
use Rattle.std.specs.Prelude.{All}
use Rattle.quota_radix.specs.declared.tree_path.TreePath.{TreePath}
use Rattle.tree_build.proofs.new_tree.count_siblings.Given as goal

abbrev pub invariant-loop-count : goal.invariant-loop-count
invariant-loop-count l = All (λ (path : TreePath). path.number / 256 ≡ l.number) (take l.count l.paths)
