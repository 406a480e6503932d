use Rattle.std.proofs.Common.{◌≡◌, ◌+◌, ◌-◌, ◌*◌, ◌%◌, ◌<◌, ◌≤◌, true, length, IsTrue, List, ℕ, None, Some, []}
use Rattle.file_blocks.specs.Block.{bytes_of}
use Rattle.outside.specs.Frame.{OnlyReads}
use Rattle.quota_v1.specs.FlatFile.{flat_record}
use Rattle.quota_v1.specs.Window.{HoldsWindow, window_reads}
use Rattle.quota_v1.specs.Place.{records_read}
use Rattle.quota_types.specs.Format.{record_size}
use Rattle.quota_v1.proofs.window.Window.first_from.Given as goal

abbrev pub decreases-loop-next : goal.decreases-loop-next
decreases-loop-next g l = l.records - l.next

abbrev pub invariant-loop-next : goal.invariant-loop-next
invariant-loop-next g l =
    let S = g.S.Store in
    record {
      later : l.from ≤ l.next;
      held : IsTrue S.tells → HoldsWindow l.format (bytes_of ((S.seen l.fn.store).files l.name)) l.fn.self
          → HoldsWindow l.format (bytes_of ((S.seen l.fn.store).files l.name)) l.self;
      none : IsTrue S.tells → (file : List ℕ) → (S.seen l.fn.store).files l.name ≡ Some file
          → length file % record_size l.format ≡ 0 → HoldsWindow l.format file l.fn.self
          → (id : ℕ) → l.from ≤ id → id < l.next → flat_record l.format file id ≡ None;
      leaves : OnlyReads true l.name (S.seen l.fn.store) (S.seen l.store);
      exact : l.next < l.records
          → records_read l.format * (S.seen l.store).reads
          ≤ records_read l.format * (S.seen l.fn.store).reads + (l.next - l.from);
      reads : (S.seen l.store).reads ≤ (S.seen l.fn.store).reads + window_reads l.format l.from l.next;
      within : l.from < l.next → l.next ≤ l.records;
      commits : S.commits [] l.fn.store l.store;
    }
