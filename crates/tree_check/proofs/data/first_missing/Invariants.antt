use Rattle.std.proofs.Common.{ℕ, ◌<◌, List}
use Rattle.file_blocks.specs.BlockSet.{AreFlagsOf}
use Rattle.quota_types.specs.Times.{StandsIn}
use Rattle.tree_check.proofs.data.first_missing.Given as goal

abbrev pub invariant-loop-block : goal.invariant-loop-block
invariant-loop-block l =
    (numbers others : List ℕ) → AreFlagsOf l.blocks l.room.flags.items numbers
    → AreFlagsOf l.blocks l.met.flags.items others
    → (number : ℕ) → number < l.block → StandsIn numbers number → StandsIn others number
