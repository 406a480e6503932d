use Rattle.std.proofs.Common.{◌∙◌, arith}
use Rattle.quota_types.proofs.NumberLemmas.{number_before}
use Rattle.quota_v1.proofs.flat_change.write_limits.Goals as goal

pub returns-clause-hard : goal.returns-clause-hard
returns-clause-hard c =
    number_before 4 _ _ _ _ _ c.write4-3.ensures.kept (omega arith)
    ∙ number_before 4 _ _ _ _ _ c.write4-2.ensures.kept (omega arith)
    ∙ c.write4.ensures.value

pub returns-clause-soft : goal.returns-clause-soft
returns-clause-soft c = number_before 4 _ _ _ _ _ c.write4-3.ensures.kept (omega arith) ∙ c.write4-2.ensures.value
