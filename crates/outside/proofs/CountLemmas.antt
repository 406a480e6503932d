-- Counts of faults.
use Rattle.std.proofs.Common.{ℕ, ◌≤◌, arith}
use Rattle.outside.specs.Count.{Rose}

-- what rose since a later count rose since an earlier one
pub Rose-since : (before between now : ℕ) → before ≤ between → Rose between now → Rose before now
Rose-since before between now later rose = omega (arith, later, rose)
