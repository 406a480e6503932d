use Rattle.tree_meaning.proofs.TakenLemmas.{given}
use Rattle.tree_meaning.proofs.steps.a_given_block_is_free.Goals as goal

pub returns : goal.returns
returns c =
    λ held awaited format old new len now_len heads records block tree keeps gives longer.
    given held awaited format old new len heads records block keeps gives tree now_len longer
