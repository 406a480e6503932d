use Rattle.std.proofs.Common.{sym, ◌∙◌, arith}
use Rattle.rquota_serve.proofs.NumberLemmas.{sought-first, sought-here, sought-last, sought-next}
use Rattle.rquota_serve.proofs.quota.block_power.Goals as goal

pub loop-power-init : goal.loop-power-init
loop-power-init c = sought-first c.args.rec.now

pub loop-power-preserved : goal.loop-power-preserved
loop-power-preserved c =
    sought-next c.args.rec.now c.loop-power.power (omega arith) (sym c.fit_blocks.ensures ∙ c.if-fit_blocks.false)
    c.loop-power.invariant

pub returns-then-fit_blocks-clause-power : goal.returns-then-fit_blocks-clause-power
returns-then-fit_blocks-clause-power c =
    sought-here c.args.rec.now c.loop-power.power (omega arith) (sym c.fit_blocks.ensures ∙ c.if-fit_blocks.true)
    c.loop-power.invariant

pub returns-clause-power : goal.returns-clause-power
returns-clause-power c = sought-last c.args.rec.now c.loop-power.power c.loop-power-test.false c.loop-power.invariant
