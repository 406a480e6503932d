use Rattle.byte_order.proofs.WordsLemmas.{byte_twice_in_order, twice_in_order}
use Rattle.byte_order.proofs.laws.words_are_put_back.Goals as goal

pub returns-clause-whole : goal.returns-clause-whole
returns-clause-whole c = twice_in_order

pub returns-clause-bytes : goal.returns-clause-bytes
returns-clause-bytes c = byte_twice_in_order
