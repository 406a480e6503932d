use Rattle.byte_order.proofs.WordsLemmas.{double_turned}
use Rattle.byte_order.proofs.laws.upper_words_stand_in_front.Goals as goal

pub returns : goal.returns
returns c = double_turned
