use Rattle.tree_meaning.proofs.AsideLemmas.{reordered}
use Rattle.tree_meaning.proofs.steps.held_blocks_have_no_order.Goals as goal

pub returns : goal.returns
returns c = reordered
