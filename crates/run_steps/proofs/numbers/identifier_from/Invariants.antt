use Rattle.run_steps.proofs.IdentifierLemmas.{IsReadUpTo}
use Rattle.run_steps.proofs.numbers.identifier_from.Given as goal

abbrev pub invariant-loop-digit : goal.invariant-loop-digit
invariant-loop-digit l = IsReadUpTo l.word l.digit-index l.number
