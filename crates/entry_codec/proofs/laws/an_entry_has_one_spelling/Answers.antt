use Rattle.entry_codec.proofs.SpellingLemmas.{one_spelling}
use Rattle.entry_codec.proofs.laws.an_entry_has_one_spelling.Goals as goal

pub returns : goal.returns
returns c = one_spelling
