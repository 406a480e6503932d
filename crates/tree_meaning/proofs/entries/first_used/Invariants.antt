use Rattle.std.proofs.Common.{◌≡◌}
use Rattle.tree_meaning.specs.TreeFile.{record_in}
use Rattle.tree_meaning.proofs.RecordLemmas.{record_from}
use Rattle.tree_meaning.proofs.entries.first_used.Given as goal

abbrev pub invariant-loop-place : goal.invariant-loop-place
invariant-loop-place l = record_in l.format l.block l.id ≡ record_from l.format l.block l.id l.place
