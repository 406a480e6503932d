use Rattle.tree_meaning.proofs.TreeLemmas.{value_of_tree}
use Rattle.tree_meaning.proofs.laws.a_tree_with_a_header_has_a_meaning.Goals as goal

pub returns : goal.returns
returns c = value_of_tree
