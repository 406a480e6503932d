use Rattle.tree_meaning.proofs.AsideLemmas.{header_changed}
use Rattle.tree_meaning.proofs.steps.a_header_is_none_of_the_tree.Goals as goal

pub returns : goal.returns
returns c = header_changed
