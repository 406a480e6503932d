use Rattle.std.proofs.Common.{◌≡◌, ◌++◌, ◌^◌, take}
use Rattle.tree_build.specs.NewFile.{AreBelow, leaves_in}
use Rattle.tree_build.proofs.new_data.add_leaves.Given as goal

abbrev pub invariant-loop-entry : goal.invariant-loop-entry
invariant-loop-entry l = record {
  leaves : l.leaves.items
      ≡ l.fn.leaves.items ++ leaves_in (record { block = l.block; entries = take l.entry-index l.entries });
  below : AreBelow (2 ^ 32) l.fn.leaves.items → AreBelow (2 ^ 32) l.leaves.items;
}
