use Rattle.byte_order.proofs.WordsLemmas.{block_in_order, part_in_order, word_of_block}
use Rattle.byte_order.proofs.laws.parts_are_put_in_order.Goals as goal

pub returns-clause-blocks : goal.returns-clause-blocks
returns-clause-blocks c = block_in_order

pub returns-clause-words : goal.returns-clause-words
returns-clause-words c = word_of_block

pub returns-clause-parts : goal.returns-clause-parts
returns-clause-parts c = part_in_order
