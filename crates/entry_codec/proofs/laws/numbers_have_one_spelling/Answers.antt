use Rattle.entry_codec.proofs.SpellingLemmas.{same_header}
use Rattle.entry_codec.proofs.laws.numbers_have_one_spelling.Goals as goal

pub returns : goal.returns
returns c = same_header
