use Rattle.std.proofs.Common.{ℕ, ◌<◌, List, take}
use Rattle.file_blocks.specs.BlockSet.{AreFlagsOf}
use Rattle.quota_types.specs.Times.{StandsIn}
use Rattle.free_chains.specs.Walk.{linked_blocks}
use Rattle.tree_check.proofs.data.first_foreign.Given as goal

abbrev pub invariant-loop-link : goal.invariant-loop-link
invariant-loop-link l = (blocks : ℕ) (numbers : List ℕ) → AreFlagsOf blocks l.room.flags.items numbers
    → ((number : ℕ) → StandsIn (linked_blocks l.links) number → number < blocks)
    → (number : ℕ) → StandsIn (linked_blocks (take l.link-index l.links)) number → StandsIn numbers number
