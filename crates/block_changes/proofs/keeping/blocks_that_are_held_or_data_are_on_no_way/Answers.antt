use Rattle.block_changes.proofs.KeptLemmas.{free_stays, held_or_data_stay, ways_stay}
use Rattle.block_changes.proofs.keeping.blocks_that_are_held_or_data_are_on_no_way.Goals as goal

pub returns : goal.returns
returns c = record {
  ways = λ loose format old new numbers len heads records id tree each keeps small.
      ways_stay loose format old new numbers len heads records tree each keeps id small;
  free = λ loose format old new numbers free len heads records tree each keeps is.
      free_stays loose format old new numbers len heads records tree each keeps free is;
  held_or_data =
      λ was now format old new numbers len now_len first heads records now_records block tree now_tree each keeps.
      held_or_data_stay was format old new numbers len heads records tree each keeps now now_len first
      now_records now_tree block;
}
