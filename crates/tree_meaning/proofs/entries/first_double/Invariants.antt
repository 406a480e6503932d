use Rattle.std.proofs.Common.{ℕ, ◌≤◌, take}
use Rattle.quota_types.specs.Times.{StandsIn, times}
use Rattle.tree_meaning.proofs.entries.first_double.Given as goal

abbrev pub invariant-loop-number : goal.invariant-loop-number
invariant-loop-number l = (number : ℕ) → StandsIn (take l.number-index l.numbers) number → times l.numbers number ≤ 1
