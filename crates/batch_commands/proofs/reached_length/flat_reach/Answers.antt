use Rattle.std.proofs.Common.{arith}
use Rattle.batch_commands.proofs.ReachLemmas.{reach_least, reach_more}
use Rattle.batch_commands.proofs.reached_length.flat_reach.Goals as goal

pub loop-line-preserved : goal.loop-line-preserved
loop-line-preserved c =
    let so_far = c.loop-line.invariant in
    record {
      reaches = omega (arith, so_far.reaches, c.max-most.ensures);
      holds = reach_more c.args.format c.args.lines.now c.loop-line.line-index c.loop-line.most c.max-most.result
          c.record_end.result _ c.loop-line-test.true c.record_end.ensures c.max-most.ensures so_far.holds;
      least = λ room some all.
          reach_least c.args.format c.args.lines.now c.loop-line.line-index c.loop-line.most c.max-most.result
          c.record_end.result room _ c.loop-line-test.true c.record_end.ensures c.max-most.ensures
          (so_far.least room some all) all;
    }
