use Rattle.std.proofs.Common.{ℕ, List, ◌++◌, take}
use Rattle.file_blocks.specs.BlockSet.{AreFlagsOf}
use Rattle.quota_radix.specs.Levels.{AreWithin}
use Rattle.quota_radix.specs.Tree.{blocks_of}
use Rattle.quota_radix.proofs.tree.mark_all.Given as goal

abbrev pub invariant-loop-path : goal.invariant-loop-path
invariant-loop-path l = (blocks bound : ℕ) → (numbers : List ℕ) → AreFlagsOf blocks l.fn.met.flags.items numbers
    → AreWithin blocks bound l.paths
    → AreFlagsOf blocks l.met.flags.items (numbers ++ blocks_of (take l.path-index l.paths))
