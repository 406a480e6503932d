use Rattle.block_changes.proofs.OverwrittenLemmas.{overwritten}
use Rattle.block_changes.proofs.writing.an_overwritten_entry_is_the_record.Goals as goal

pub returns : goal.returns
returns c =
    λ held format old new len now_len heads records block place id rec tree found rewrites longer.
    overwritten held format old new len heads records block place id rec tree found rewrites now_len longer
