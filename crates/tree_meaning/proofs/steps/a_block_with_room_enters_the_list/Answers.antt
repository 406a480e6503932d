use Rattle.tree_meaning.proofs.ListedLemmas.{entered}
use Rattle.tree_meaning.proofs.steps.a_block_with_room_enters_the_list.Goals as goal

pub returns : goal.returns
returns c =
    λ held awaited format old new len now_len heads records block tree room keeps enters longer.
    entered held awaited format old new len heads records block tree room keeps enters now_len longer
