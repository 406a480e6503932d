use Rattle.std.specs.Prelude.{◌≡◌, take}
use Rattle.quota_radix.specs.Tree.{numbers_of}
use Rattle.tree_check.proofs.groups.list_numbers.Given as goal

abbrev pub invariant-loop-leaf : goal.invariant-loop-leaf
invariant-loop-leaf l = l.numbers.items ≡ numbers_of (take l.leaf-index l.leaves)
