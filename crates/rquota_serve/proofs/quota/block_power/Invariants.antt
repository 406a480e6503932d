use Rattle.rquota_serve.proofs.NumberLemmas.{IsSought}
use Rattle.rquota_serve.proofs.quota.block_power.Given as goal

abbrev pub invariant-loop-power : goal.invariant-loop-power
invariant-loop-power l = IsSought l.rec l.power
