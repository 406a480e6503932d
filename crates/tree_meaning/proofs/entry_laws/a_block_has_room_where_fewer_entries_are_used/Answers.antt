use Rattle.tree_meaning.proofs.EntryChangeLemmas.{few_used, room_by_count}
use Rattle.tree_meaning.proofs.entry_laws.a_block_has_room_where_fewer_entries_are_used.Goals as goal

pub returns : goal.returns
returns c = record { room = room_by_count; few = few_used }
