use Rattle.std.proofs.Common.{ℕ, ◌<◌, ◌≤◌, take}
use Rattle.quota_types.specs.Times.{StandsIn, times}
use Rattle.tree_meaning.proofs.entries.ascends.Given as goal

abbrev pub invariant-loop-number : goal.invariant-loop-number
invariant-loop-number l =
    (number : ℕ) → (times (take l.number-index l.numbers) number ≤ 1)
    × (StandsIn (take l.number-index l.numbers) number → number < l.least)
