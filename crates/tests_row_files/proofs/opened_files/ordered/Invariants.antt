use Rattle.std.specs.List.{All}
use Rattle.quota_types.specs.Kept.{IsKept}
use Rattle.quota_types.specs.declared.record.Entry.{Entry}
use Rattle.quota_value.specs.Listed.{ids_of}
use Rattle.quota_map.proofs.ReadingLemmas.{AscendTo}
use Rattle.tests_row_files.proofs.opened_files.ordered.Given as goal

abbrev pub invariant-loop-entry : goal.invariant-loop-entry
invariant-loop-entry l = record {
  ascends : AscendTo l.after (ids_of l.ordered.items);
  kept : All (λ (entry : Entry). IsKept l.format entry.id entry.rec) l.ordered.items;
}
