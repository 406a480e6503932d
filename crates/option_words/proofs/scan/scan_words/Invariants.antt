use Rattle.option_words.specs.Items.{texts_of}
use Rattle.option_words.specs.Given.{given_options}
use Rattle.option_words.specs.Reads.{next_of, operands_seen}
use Rattle.option_words.proofs.ItemLemmas.{IsScanned}
use Rattle.option_words.proofs.scan.scan_words.Given as goal

abbrev pub invariant-loop-at : goal.invariant-loop-at
invariant-loop-at l =
    IsScanned l.tool (texts_of l.words) l.at (next_of l.wanted) (given_options l.given) (operands_seen l.operands.items)
