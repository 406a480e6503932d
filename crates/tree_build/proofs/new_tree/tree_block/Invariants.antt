use Rattle.tree_build.proofs.TreeBlockLemmas.{HasReferences}
use Rattle.tree_build.proofs.new_tree.tree_block.Given as goal

abbrev pub invariant-loop-path : goal.invariant-loop-path
invariant-loop-path l = HasReferences l.block l.paths l.path-index
