use Rattle.std.proofs.Common.{◌∙◌, arith}
use Rattle.std.proofs.lemmas.List.{get_or-replicate}
use Rattle.quota_types.proofs.BytesLemmas.{number_at-zeros, number_same}
use Rattle.edit_journal.proofs.undo_file.range_head.Goals as goal

pub returns-clause-place : goal.returns-clause-place
returns-clause-place c =
    number_same 8 0 _ _ (λ p from to. c.set_le16_at.ensures.others.before p (omega arith))
    ∙ c.set_le64_at.ensures.written

pub returns-clause-rest : goal.returns-clause-rest
returns-clause-rest c =
    number_at-zeros 6 10 _
    (λ p from to.
    c.set_le16_at.ensures.others.behind p (omega arith) ∙ c.set_le64_at.ensures.others.behind p (omega arith)
    ∙ get_or-replicate 16 p 0 0 (omega arith))
