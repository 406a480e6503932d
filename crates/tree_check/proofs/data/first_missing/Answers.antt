use Rattle.std.proofs.Common.{below_more, ℕ, arith}
use Rattle.quota_types.specs.Times.{StandsIn}
use Rattle.tree_check.proofs.data.first_missing.Goals as goal
use Rattle.tree_check.proofs.data.first_missing.Goals.{else-contains-via-then-contains+else-not-contains}
use Rattle.tree_check.proofs.data.first_missing.Goals.{else-contains-via-else-contains}

pub loop-block-preserved : goal.loop-block-preserved
loop-block-preserved c = λ numbers others are met.
    below_more (λ (n : ℕ). StandsIn numbers n → StandsIn others n) c.loop-block.block
    (c.loop-block.invariant numbers others are met)
    (λ stands. elim c.else-contains.branch [
      | else-contains-via-then-contains+else-not-contains w ↦
          w.if-not-contains.ensures.found c.args.blocks others met c.loop-block-test.true
      | else-contains-via-else-contains w ↦
          absurd (omega (arith, stands, w.if-contains.ensures.found c.args.blocks numbers are c.loop-block-test.true))
    ])

pub returns : goal.returns
returns c = λ numbers others are met number low. c.loop-block.invariant numbers others are met number (omega arith)
