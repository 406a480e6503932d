use Rattle.tree_build.proofs.DataBlockLemmas.{IsFilledTo}
use Rattle.tree_build.proofs.new_data.data_block.Given as goal

abbrev pub invariant-loop-place : goal.invariant-loop-place
invariant-loop-place l = IsFilledTo l.format l.block l.entries l.place
