use Rattle.tree_meaning.proofs.MovedLemmas.{keeps_entries}
use Rattle.tree_meaning.proofs.steps.links_are_no_entries.Goals as goal

pub returns : goal.returns
returns c = keeps_entries
