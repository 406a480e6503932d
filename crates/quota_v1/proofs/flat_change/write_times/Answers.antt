use Rattle.std.proofs.Common.{◌∙◌, arith}
use Rattle.quota_types.proofs.NumberLemmas.{number_before}
use Rattle.quota_v1.proofs.flat_change.write_times.Goals as goal

pub returns-clause-block : goal.returns-clause-block
returns-clause-block c =
    number_before _ _ _ _ _ _ c.write_time-2.ensures.kept (omega (arith, c.second_time.ensures))
    ∙ c.write_time.ensures.value
