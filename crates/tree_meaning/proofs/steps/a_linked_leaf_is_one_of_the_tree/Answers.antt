use Rattle.tree_meaning.proofs.LinkedLemmas.{linked_found}
use Rattle.tree_meaning.proofs.steps.a_linked_leaf_is_one_of_the_tree.Goals as goal

pub returns : goal.returns
returns c = linked_found
