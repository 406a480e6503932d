use Rattle.std.proofs.Common.{◌∙◌, arith}
use Rattle.quota_types.proofs.NumberLemmas.{number_before}
use Rattle.quota_v1.proofs.PlaceLemmas.{room_of_fits}
use Rattle.quota_v1.proofs.flat_change.write_numbers.Goals as goal

pub write_limits-requires-clause-used : goal.write_limits-requires-clause-used
write_limits-requires-clause-used c =
    omega (arith, c.kib.ensures, (room_of_fits c.args.format c.requires.flat 0 c.args.rec.now c.requires.fits).space)

pub returns-clause-bhard : goal.returns-clause-bhard
returns-clause-bhard c =
    number_before 4 _ _ _ _ _ c.write_limits-2.ensures.kept (omega arith) ∙ c.write_limits.ensures.hard

pub returns-clause-bsoft : goal.returns-clause-bsoft
returns-clause-bsoft c =
    number_before 4 _ _ _ _ _ c.write_limits-2.ensures.kept (omega arith) ∙ c.write_limits.ensures.soft

pub returns-clause-space : goal.returns-clause-space
returns-clause-space c =
    number_before 4 _ _ _ _ _ c.write_limits-2.ensures.kept (omega arith) ∙ c.write_limits.ensures.used ∙ c.kib.ensures
