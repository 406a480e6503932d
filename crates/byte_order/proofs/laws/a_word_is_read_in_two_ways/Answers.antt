use Rattle.byte_order.proofs.WordsLemmas.{number_past, word_in_order}
use Rattle.byte_order.proofs.laws.a_word_is_read_in_two_ways.Goals as goal

pub returns-clause-same : goal.returns-clause-same
returns-clause-same c = word_in_order

pub returns-clause-past : goal.returns-clause-past
returns-clause-past c = number_past
