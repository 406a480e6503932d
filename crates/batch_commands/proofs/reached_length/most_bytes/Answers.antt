use Rattle.std.proofs.Common.{arith}
use Rattle.batch_commands.proofs.RefusedLemmas.{paid_within}
use Rattle.batch_commands.proofs.reached_length.most_bytes.Goals.{else-most-le-MOST_BYTES-via-then-most-le-MOST_BYTES+else-pieces-saturating_mul, else-most-le-MOST_BYTES-via-else-most-le-MOST_BYTES}
use Rattle.batch_commands.proofs.reached_length.most_bytes.Goals as goal
use Rattle.quota_map.specs.Asked.{asked_of}

pub returns-else-most-le-MOST_BYTES-clause-paid : goal.returns-else-most-le-MOST_BYTES-clause-paid
returns-else-most-le-MOST_BYTES-clause-paid c = λ none paid.
    let most = paid_within (asked_of c.args.format) c.args.lines.now c.args.size c.reach-most.result paid
    c.reach-most.ensures.grows c.reach-most.ensures.room in
    let within = paid.within in
    elim c.else-most-le-MOST_BYTES.branch [
      | else-most-le-MOST_BYTES-via-then-most-le-MOST_BYTES+else-pieces-saturating_mul w ↦
          omega (arith, most, within, w.pieces.ensures, w.saturating_mul.ensures, w.if-pieces-saturating_mul.false)
      | else-most-le-MOST_BYTES-via-else-most-le-MOST_BYTES w ↦
          omega (arith, most, within, w.if-most-le-MOST_BYTES.false)
    ]
