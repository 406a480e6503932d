use Rattle.std.proofs.Common.{ℕ, List, ◌++◌}
use Rattle.quota_radix.specs.declared.tree_path.TreePath.{TreePath}
use Rattle.file_blocks.specs.BlockSet.{AreFlagsOf}
use Rattle.tree_check.specs.Groups.{AreGroupsOf, AreLeftFrom, groups_of, named_blocks}
use Rattle.tree_check.proofs.groups.mark_data.Given as goal

abbrev pub invariant-loop-block : goal.invariant-loop-block
invariant-loop-block l = record {
  left : AreLeftFrom l.leaves l.block l.rest;
  marked : (led : List TreePath) → (numbers : List ℕ) → AreGroupsOf l.blocks led (groups_of l.blocks l.leaves)
      → AreFlagsOf l.blocks l.fn.met.flags.items numbers
      → AreFlagsOf l.blocks l.met.flags.items (numbers ++ named_blocks l.block led);
}
