use Rattle.std.proofs.Common.{ℕ, arith}
use Rattle.quota_types.specs.Times.{StandsIn}
use Rattle.quota_types.proofs.TimesLemmas.{StandsIn-get_or, StandsIn-list_any, times-list_any}
use Rattle.tree_meaning.proofs.EntryLemmas.{stands_in_all, stands_more}
use Rattle.tree_meaning.proofs.entries.first_not_in.Goals as goal

pub returns-then-not-contains : goal.returns-then-not-contains
returns-then-not-contains c =
    (StandsIn-get_or c.args.numbers.now c.loop-number.number-index (omega arith), times-list_any c.args.others.now _ cc)

pub loop-number-preserved : goal.loop-number-preserved
loop-number-preserved c =
    stands_more (λ (n : ℕ). StandsIn c.args.others.now n) c.args.numbers.now c.loop-number.number-index (omega arith)
    c.loop-number.invariant
    (StandsIn-list_any c.args.others.now _ cc)

pub returns : goal.returns
returns c =
    λ number stands. c.loop-number.invariant number
    (stands_in_all c.args.numbers.now c.loop-number.number-index number (omega arith) stands)
