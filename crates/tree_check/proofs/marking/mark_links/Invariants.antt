use Rattle.std.proofs.Common.{◌<◌, ℕ, List, ◌++◌, take}
use Rattle.file_blocks.specs.BlockSet.{AreFlagsOf}
use Rattle.quota_types.specs.Times.{StandsIn}
use Rattle.free_chains.specs.Walk.{linked_blocks}
use Rattle.tree_check.proofs.marking.mark_links.Given as goal

abbrev pub invariant-loop-link : goal.invariant-loop-link
invariant-loop-link l = (blocks : ℕ) (numbers : List ℕ) → AreFlagsOf blocks l.initial.met.flags.items numbers
    → ((number : ℕ) → StandsIn (linked_blocks l.links) number → number < blocks)
    → AreFlagsOf blocks l.met.flags.items (numbers ++ linked_blocks (take l.link-index l.links))
