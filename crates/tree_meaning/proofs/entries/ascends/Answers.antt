use Rattle.std.proofs.Common.{ℕ, List, ap, arith}
use Rattle.std.proofs.lemmas.List.{take_all}
use Rattle.quota_types.specs.Times.{times}
use Rattle.tree_meaning.proofs.EntryLemmas.{ascends_more}
use Rattle.tree_meaning.proofs.entries.ascends.Goals as goal

pub loop-number-preserved : goal.loop-number-preserved
loop-number-preserved c = λ number.
    let more =
    ascends_more c.args.numbers.now c.loop-number.number-index c.loop-number.least (omega arith) c.loop-number.invariant
    (omega (arith, c.if-from-least.false, c.from.ensures)) number in
    (more.0, λ stands. omega (arith, more.1 stands, c.from-least.ensures))

pub returns : goal.returns
returns c = λ number.
    omega (
      arith,
      (c.loop-number.invariant number).0,
      ap (λ (xs : List ℕ). times xs number) (take_all c.loop-number.number-index c.args.numbers.now (omega arith)),
    )
