use Rattle.std.proofs.Common.{length}
use Rattle.id_names.proofs.ReadLemmas.{IsRead}
use Rattle.id_names.proofs.names_file.Names.read.Given as goal

abbrev pub invariant-loop-line : goal.invariant-loop-line
invariant-loop-line l = IsRead l.kind l.bytes l.rest l.number l.index

abbrev pub decreases-loop-line : goal.decreases-loop-line
decreases-loop-line l = length l.rest
