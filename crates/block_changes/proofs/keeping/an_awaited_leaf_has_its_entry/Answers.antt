use Rattle.block_changes.proofs.KeptLemmas.{awaited_data, awaited_entry, full_no_room}
use Rattle.block_changes.proofs.keeping.an_awaited_leaf_has_its_entry.Goals as goal

pub returns : goal.returns
returns c = record { data_block = awaited_data; entry = awaited_entry; full = full_no_room }
