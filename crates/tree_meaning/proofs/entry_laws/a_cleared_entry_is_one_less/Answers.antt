use Rattle.tree_meaning.proofs.EntryChangeLemmas.{cleared_entries, cleared_length, cleared_other, cleared_own}
use Rattle.tree_meaning.proofs.EntryChangeLemmas.{cleared_room, cleared_times}
use Rattle.tree_meaning.proofs.entry_laws.a_cleared_entry_is_one_less.Goals as goal

pub returns : goal.returns
returns c = record {
  entries = cleared_entries;
  ids = cleared_times;
  count = cleared_length;
  others = cleared_other;
  own = cleared_own;
  room = cleared_room;
}
