use Rattle.tree_meaning.proofs.LinkedLemmas.{linkable}
use Rattle.tree_meaning.proofs.steps.an_awaited_leaf_can_be_linked.Goals as goal

pub returns : goal.returns
returns c = linkable
