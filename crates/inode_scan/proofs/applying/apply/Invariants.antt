use Rattle.std.proofs.Common.{◌≡◌, ◌-◌, ◌^◌, false}
use Rattle.std.specs.Prelude.{All}
use Rattle.quota_types.specs.Kept.{IsKept}
use Rattle.quota_types.specs.Rec.{is_null_of}
use Rattle.quota_types.specs.declared.record.Entry.{Entry}
use Rattle.quota_value.specs.Listed.{ids_of, records_of}
use Rattle.inode_scan.specs.Apply.{wanted}
use Rattle.inode_scan.proofs.ApplyLemmas.{IsDone, IsRest, from_after}
use Rattle.inode_scan.proofs.RisingLemmas.{Rises}
use Rattle.inode_scan.proofs.applying.apply.Given as goal

abbrev pub invariant-ids : goal.invariant-ids
invariant-ids l = record {
  done : IsDone l.format (wanted l.grace l.now (records_of l.list) l.usage) l.after l.entries.items;
  rest : IsRest l.after l.list l.rest;
  ascends : Rises 0 (from_after l.after) (ids_of l.entries.items);
  kept : All (λ (entry : Entry). IsKept l.format entry.id entry.rec) l.entries.items;
  lasting : All (λ (entry : Entry). is_null_of entry.rec ≡ false) l.entries.items;
}

abbrev pub decreases-ids : goal.decreases-ids
decreases-ids l = 2 ^ 32 - from_after l.after
