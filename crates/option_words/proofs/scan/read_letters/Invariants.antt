use Rattle.option_words.specs.Given.{given_options}
use Rattle.option_words.proofs.LetterLemmas.{IsReadTo}
use Rattle.option_words.proofs.scan.read_letters.Given as goal

abbrev pub invariant-loop-at : goal.invariant-loop-at
invariant-loop-at l = IsReadTo l.tool l.word l.letters (given_options l.fn.given) l.at (given_options l.given)
