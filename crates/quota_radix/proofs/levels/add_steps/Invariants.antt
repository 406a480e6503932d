use Rattle.std.proofs.Common.{◌≡◌, ℕ, ◌<◌, ◌++◌}
use Rattle.quota_radix.proofs.StepLemmas.{steps_from, word_in}
use Rattle.quota_radix.proofs.levels.add_steps.Given as goal

abbrev pub invariant-loop-digit : goal.invariant-loop-digit
invariant-loop-digit l = record {
  added : l.next.items ≡ l.fn.next.items ++ steps_from (word_in l.block) l.blocks l.path 0 l.digit;
  references : (digit : ℕ) → digit < l.digit → word_in l.block digit < l.blocks;
}
