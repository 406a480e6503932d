use Rattle.std.proofs.Common.{◌≡◌, ℕ, ◌+◌, ◌*◌, ◌/◌, ◌%◌, ◌<◌}
use Rattle.quota_types.specs.Bytes.{number_at}
use Rattle.tree_file.proofs.coming.leaf_behind.Given as goal

abbrev pub invariant-loop-digit : goal.invariant-loop-digit
invariant-loop-digit l =
    (other : ℕ) → l.id < other → other < 256 * (l.id / 256) + l.digit → number_at 4 l.lowest (4 * (other % 256)) ≡ 0
