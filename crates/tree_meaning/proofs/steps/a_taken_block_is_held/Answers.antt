use Rattle.tree_meaning.proofs.TakenLemmas.{taken}
use Rattle.tree_meaning.proofs.steps.a_taken_block_is_held.Goals as goal

pub returns : goal.returns
returns c =
    λ held awaited format old new len now_len heads now records block tree keeps takes head longer whole.
    taken held awaited format old new len heads now records block keeps takes head tree now_len longer whole
