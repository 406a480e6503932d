use Rattle.std.proofs.Common.{◌∙◌, arith}
use Rattle.quota_types.proofs.BytesLemmas.{number_same}
use Rattle.edit_journal.proofs.undo_file.undo_head.Goals as goal

pub returns-clause-old_length : goal.returns-clause-old_length
returns-clause-old_length c =
    number_same 8 0 _ _ (λ p from to. c.set_le32_at.ensures.others.before p (omega arith))
    ∙ c.set_le64_at.ensures.written
