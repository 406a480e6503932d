use Rattle.quota_radix.proofs.following.+first_below.Given as goal
use Rattle.std.proofs.Common.{length}

abbrev pub decreases-first_below : goal.decreases-first_below
decreases-first_below g l = length l.digits.now
