use Rattle.std.proofs.Common.{◌≡◌, ◌%◌, ◌<◌, ◌≤◌, length, List, ℕ, None}
use Rattle.quota_types.specs.Format.{record_size}
use Rattle.quota_v1.specs.FlatFile.{flat_record}
use Rattle.quota_v1.specs.Place.{record_start}
use Rattle.quota_v1.specs.Slot.{AreFrom}
use Rattle.quota_v1.proofs.slot.first_record.Given as goal

abbrev pub invariant-loop-id : goal.invariant-loop-id
invariant-loop-id l =
    (file : List ℕ) → length file % record_size l.format ≡ 0 → AreFrom file (record_start l.format l.first) l.bytes
    → (k : ℕ) → k < l.id → l.from ≤ k → flat_record l.format file k ≡ None
