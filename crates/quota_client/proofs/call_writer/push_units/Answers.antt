use Rattle.std.proofs.Common.{arith}
use Rattle.quota_client.proofs.CallLemmas.{units_fit}
use Rattle.quota_client.proofs.call_writer.push_units.Goals as goal

pub push-requires : goal.push-requires
push-requires c =
    let fit = units_fit c.args.call.now.items c.args.units.now c.loop-unit.call.items c.loop-unit.unit-index
    c.loop-unit-test.true c.loop-unit.invariant in
    omega arith
