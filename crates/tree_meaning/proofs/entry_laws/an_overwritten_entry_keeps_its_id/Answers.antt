use Rattle.tree_meaning.proofs.EntryChangeLemmas.{overwritten_ids, overwritten_other, overwritten_own, overwritten_room}
use Rattle.tree_meaning.proofs.entry_laws.an_overwritten_entry_keeps_its_id.Goals as goal

pub returns : goal.returns
returns c = record { ids = overwritten_ids; others = overwritten_other; own = overwritten_own; room = overwritten_room }
