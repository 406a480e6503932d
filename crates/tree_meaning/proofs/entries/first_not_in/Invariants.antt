use Rattle.std.proofs.Common.{ℕ, take}
use Rattle.quota_types.specs.Times.{StandsIn}
use Rattle.tree_meaning.proofs.entries.first_not_in.Given as goal

abbrev pub invariant-loop-number : goal.invariant-loop-number
invariant-loop-number l = (number : ℕ) → StandsIn (take l.number-index l.numbers) number → StandsIn l.others number
