use Rattle.quota_radix.proofs.following.+least_below.Given as goal

abbrev pub decreases-least_below : goal.decreases-least_below
decreases-least_below g l = l.to_go
