use Rattle.byte_order.proofs.WordsLemmas.{length_in_order, whole_length}
use Rattle.byte_order.proofs.laws.a_cut_word_is_filled_up.Goals as goal

pub returns-clause-least : goal.returns-clause-least
returns-clause-least c = λ order file. (length_in_order order file).0

pub returns-clause-most : goal.returns-clause-most
returns-clause-most c = λ order file. (length_in_order order file).1

pub returns-clause-whole : goal.returns-clause-whole
returns-clause-whole c = whole_length
