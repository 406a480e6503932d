use Rattle.tree_meaning.proofs.EntryChangeLemmas.{put_entries, put_full, put_length, put_other, put_own, put_times}
use Rattle.tree_meaning.proofs.entry_laws.a_put_entry_is_one_more.Goals as goal

pub returns : goal.returns
returns c = record {
  entries = put_entries;
  ids = put_times;
  count = put_length;
  others = put_other;
  own = put_own;
  full = put_full;
}
