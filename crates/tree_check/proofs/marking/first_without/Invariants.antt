use Rattle.std.proofs.Common.{ℕ, ◌<◌, List}
use Rattle.file_blocks.specs.BlockSet.{AreFlagsOf}
use Rattle.quota_types.specs.Times.{StandsIn}
use Rattle.tree_check.proofs.marking.first_without.Given as goal

abbrev pub invariant-loop-block : goal.invariant-loop-block
invariant-loop-block l =
    (numbers : List ℕ) → AreFlagsOf l.blocks l.met.flags.items numbers → (number : ℕ) → number < l.block
    → StandsIn numbers number
