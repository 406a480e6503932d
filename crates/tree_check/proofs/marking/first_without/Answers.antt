use Rattle.std.proofs.Common.{below_more, ℕ, arith}
use Rattle.quota_types.specs.Times.{StandsIn}
use Rattle.tree_check.proofs.marking.first_without.Goals as goal

pub loop-block-preserved : goal.loop-block-preserved
loop-block-preserved c = λ numbers are.
    below_more (λ (n : ℕ). StandsIn numbers n) c.loop-block.block (c.loop-block.invariant numbers are)
    (c.if-not-contains.ensures.found c.args.blocks numbers are c.loop-block-test.true)

pub returns : goal.returns
returns c = λ numbers are number low. c.loop-block.invariant numbers are number (omega arith)
