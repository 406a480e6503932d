use Rattle.block_changes.proofs.UnlinkedLemmas.{unlinked}
use Rattle.block_changes.proofs.unlinking.an_unlinked_leaf_is_awaited.Goals as goal

pub returns : goal.returns
returns c =
    λ held way emptied format old new len now_len heads records id tree small five few can clears keeps loses longer.
    unlinked held way emptied format old new len heads records id tree small five few clears keeps loses now_len longer
