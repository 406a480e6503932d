use Rattle.block_changes.proofs.ClearedLemmas.{last_cleared, last_room}
use Rattle.block_changes.proofs.clearing.a_block_without_entries_is_held.Goals as goal

pub returns : goal.returns
returns c = record {
  tree = λ held format old new len now_len heads records block place id tree loses empty longer.
      last_cleared held format old new len heads records block place id tree loses empty now_len longer;
  no_room = last_room;
}
