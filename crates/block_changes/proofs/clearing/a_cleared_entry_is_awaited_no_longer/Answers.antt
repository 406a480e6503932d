use Rattle.block_changes.proofs.ClearedLemmas.{cleared_of_full, cleared_with_room, room_now}
use Rattle.block_changes.proofs.clearing.a_cleared_entry_is_awaited_no_longer.Goals as goal

pub returns : goal.returns
returns c = record {
  with_room = λ held format old new len now_len heads records block place id tree loses others room longer.
      cleared_with_room held format old new len heads records block place id tree loses others now_len room longer;
  was_full = λ held format old new len now_len heads records block place id tree loses others full longer.
      cleared_of_full held format old new len heads records block place id tree loses others now_len full longer;
  room = room_now;
}
