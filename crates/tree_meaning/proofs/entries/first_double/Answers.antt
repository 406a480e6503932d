use Rattle.std.proofs.Common.{ℕ, ◌≤◌, inl, inr, arith}
use Rattle.std.proofs.lemmas.Bool.{cases_lt}
use Rattle.quota_types.specs.Times.{times}
use Rattle.tree_meaning.proofs.EntryLemmas.{stands_in_all, stands_more}
use Rattle.tree_meaning.proofs.entries.first_double.Goals as goal

pub loop-number-preserved : goal.loop-number-preserved
loop-number-preserved c =
    stands_more (λ (n : ℕ). times c.args.numbers.now n ≤ 1) c.args.numbers.now c.loop-number.number-index (omega arith)
    c.loop-number.invariant
    (omega (arith, c.count.ensures))

pub returns : goal.returns
returns c = λ number. elim (cases_lt 0 (times c.args.numbers.now number)) [
  | inl stands ↦ c.loop-number.invariant number
      (stands_in_all c.args.numbers.now c.loop-number.number-index number (omega arith) stands)
  | inr none ↦ omega arith
]
