use Rattle.tree_meaning.proofs.EntryPlaceLemmas.{entries_kept, ids_kept, record_kept, unused_kept}
use Rattle.tree_meaning.proofs.entry_laws.the_same_entries_are_used_alike.Goals as goal

pub returns : goal.returns
returns c = record { entries = entries_kept; ids = ids_kept; room = unused_kept; rec = record_kept }
