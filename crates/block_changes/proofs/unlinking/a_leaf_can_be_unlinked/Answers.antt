use Rattle.block_changes.proofs.UnlinkedLemmas.{unlinkable}
use Rattle.block_changes.proofs.unlinking.a_leaf_can_be_unlinked.Goals as goal

pub returns : goal.returns
returns c = unlinkable
