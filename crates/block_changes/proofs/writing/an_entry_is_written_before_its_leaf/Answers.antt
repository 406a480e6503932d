use Rattle.block_changes.proofs.EntryWrittenLemmas.{written_full, written_with_room}
use Rattle.block_changes.proofs.writing.an_entry_is_written_before_its_leaf.Goals as goal

pub returns-clause-with_room : goal.returns-clause-with_room
returns-clause-with_room c =
    λ held format old new len now_len heads records block place id rec tree is_data small no_record writes room longer.
    written_with_room held format old new len heads records block place id rec tree is_data small no_record writes
    now_len room longer

pub returns-clause-full : goal.returns-clause-full
returns-clause-full c =
    λ held format old new len now_len heads records block place id rec tree is_data small no_record writes full longer.
    written_full held format old new len heads records block place id rec tree is_data small no_record writes
    now_len full longer
