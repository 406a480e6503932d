use Rattle.std.proofs.Common.{sym, arith}
use Rattle.quota_v1.proofs.BuildLemmas.{greatest_of_last}
use Rattle.quota_v1.proofs.building.records_needed.Goals as goal

pub returns-in-Some-clause-value : goal.returns-in-Some-clause-value
returns-in-Some-clause-value c =
    omega (arith, greatest_of_last c.args.list.now c.in-Some.entry.now (sym c.in-Some.ensures.value) c.requires)
