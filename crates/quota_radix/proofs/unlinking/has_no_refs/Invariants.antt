use Rattle.std.proofs.Common.{◌≡◌, ℕ, ◌*◌, ◌<◌}
use Rattle.quota_types.specs.Bytes.{number_at}
use Rattle.quota_radix.proofs.unlinking.has_no_refs.Given as goal

abbrev pub invariant-loop-digit : goal.invariant-loop-digit
invariant-loop-digit l = (digit : ℕ) → digit < l.digit → number_at 4 l.block (4 * digit) ≡ 0
