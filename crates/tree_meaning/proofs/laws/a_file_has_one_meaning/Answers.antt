use Rattle.tree_meaning.proofs.MeaningLemmas.{one_meaning}
use Rattle.tree_meaning.proofs.laws.a_file_has_one_meaning.Goals as goal

pub returns : goal.returns
returns c = one_meaning
