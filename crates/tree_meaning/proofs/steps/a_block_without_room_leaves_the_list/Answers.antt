use Rattle.tree_meaning.proofs.ListedLemmas.{left_list}
use Rattle.tree_meaning.proofs.steps.a_block_without_room_leaves_the_list.Goals as goal

pub returns : goal.returns
returns c =
    λ held awaited format old new len now_len heads records first block tree role room keeps leaves longer.
    left_list held awaited format old new len heads records first block tree role room keeps leaves now_len longer
