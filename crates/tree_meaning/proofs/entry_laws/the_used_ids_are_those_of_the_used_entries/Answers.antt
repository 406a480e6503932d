use Rattle.tree_meaning.proofs.EntryChangeLemmas.{no_record}
use Rattle.tree_meaning.proofs.EntryLemmas.{used_ids-entries}
use Rattle.tree_meaning.proofs.entry_laws.the_used_ids_are_those_of_the_used_entries.Goals as goal

pub returns : goal.returns
returns c = record { ids = used_ids-entries; none = no_record }
