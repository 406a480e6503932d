use Rattle.convert.proofs.ListingLemmas.{IsKeptUpTo}
use Rattle.convert.proofs.keeping.keep_all.Given as goal

abbrev pub invariant-loop-entry : goal.invariant-loop-entry
invariant-loop-entry l = IsKeptUpTo l.fn.format l.fn.entries l.entries l.entry-index
