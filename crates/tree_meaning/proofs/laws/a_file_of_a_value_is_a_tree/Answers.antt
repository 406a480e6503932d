use Rattle.tree_meaning.proofs.TreeLemmas.{tree_of_value}
use Rattle.tree_meaning.proofs.laws.a_file_of_a_value_is_a_tree.Goals as goal

pub returns : goal.returns
returns c = tree_of_value
