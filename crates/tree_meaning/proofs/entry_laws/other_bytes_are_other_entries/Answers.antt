use Rattle.tree_meaning.proofs.EntryPlaceLemmas.{before_entries, outside_entry}
use Rattle.tree_meaning.proofs.entry_laws.other_bytes_are_other_entries.Goals as goal

pub returns : goal.returns
returns c = record { entry = outside_entry; before = before_entries }
