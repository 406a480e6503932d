use Rattle.block_changes.proofs.EntryWrittenLemmas.{first_room, first_written}
use Rattle.block_changes.proofs.first_entry.a_fresh_block_gets_its_first_entry.Goals as goal

pub returns-clause-tree : goal.returns-clause-tree
returns-clause-tree c =
    λ held format old new len now_len heads records block place id rec tree blank small none writes longer.
    first_written held format old new len heads records block place id rec tree blank writes small none now_len longer

pub returns-clause-room : goal.returns-clause-room
returns-clause-room c =
    λ held format old new len now_len heads records block place id rec tree blank writes.
    first_room held format old new len heads records block place id rec tree blank writes
