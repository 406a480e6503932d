use Rattle.std.proofs.Common.{◌+◌, ◌*◌, ◌^◌, ◌<◌, ◌≤◌, IsTrue, length, Ok, Some, []}
use Rattle.std.specs.List.{All}
use Rattle.quota_types.specs.Kept.{IsKept}
use Rattle.quota_types.specs.declared.record.Entry.{Entry}
use Rattle.quota_value.specs.Listed.{ids_of}
use Rattle.opened_file.specs.LooksUp.{LooksUp}
use Rattle.quota_value.specs.QuotaValue.{QuotaValue}
use Rattle.quota_value.proofs.EntriesLemmas.{ids_after}
use Rattle.opened_file.proofs.PassingLemmas.{IsPassed}
use Rattle.quota_map.specs.AnyFile.{HoldsAny, any_at, any_laws, any_next_reads, any_passing_reads, any_seen}
use Rattle.quota_map.proofs.ReadingLemmas.{AscendTo, IsReadUpTo}
use Rattle.quota_map.proofs.reading.read_all.Given as goal

abbrev pub invariant-loop-list : goal.invariant-loop-list
invariant-loop-list g l =
    let S = g.S.Store in
    record {
      read : (value : QuotaValue) → HoldsAny S.tells (S.seen l.fn.store).files l.fn.file value
          → IsReadUpTo value.records l.after l.list.items;
      passed : (value : QuotaValue) → HoldsAny S.tells (S.seen l.fn.store).files l.fn.file value
          → IsPassed (any_passing_reads (any_seen l.fn.file) ((S.seen l.fn.store).files (any_seen l.fn.file).name))
          l.after value.records (S.seen l.fn.store).reads (S.seen l.store).reads;
      ascends : AscendTo l.after (ids_of l.list.items);
      narrow : All (λ (entry : Entry). entry.id < 2 ^ 32) l.list.items;
      kept : All (λ (entry : Entry). IsKept (any_seen l.fn.file).format entry.id entry.rec) l.list.items;
      usable : IsTrue (any_seen l.file).usable;
      few : length l.list.items + ids_after l.after ≤ 2 ^ 32;
      up : LooksUp Some (any_laws S.tells) (any_at S.tells (S.seen l.fn.store) l.fn.file)
          (any_at S.tells (S.seen l.store) l.file)
          (any_next_reads (any_seen l.fn.file) ((S.seen l.fn.store).files (any_seen l.fn.file).name)
          * length l.list.items) (Ok (tt {0}));
      commits : S.commits [] l.fn.store l.store;
    }

abbrev pub decreases-loop-list : goal.decreases-loop-list
decreases-loop-list g l = ids_after l.after
