-- Records that are looked for through windows, one after another.
use Rattle.std.proofs.Common.{◌≡◌, ◌⊎◌, ℕ, ◌+◌, ◌-◌, ◌*◌, ◌<◌, ◌≤◌, min, List, Option, Some, None, inl, inr, sym, subst}
use Rattle.std.proofs.Common.{arith}
use Rattle.std.proofs.lemmas.Bool.{cases_lt}
use Rattle.file_blocks.specs.Block.{bytes_of}
use Rattle.outside.specs.World.{World}
use Rattle.quota_types.specs.declared.file_kind.Format.{Format}
use Rattle.quota_types.specs.declared.file_kind.Format.TheVariants.{V1, V1R32, V2R0, V2R1}
use Rattle.quota_types.specs.declared.record.Entry.{Entry}
use Rattle.quota_v1.specs.Place.{records_read}
use Rattle.quota_v1.specs.FlatFile.{flat_record}
use Rattle.quota_v1.specs.Slot.{IsFirstRecord}
use Rattle.quota_v1.specs.Opened.{most_next_reads}
use Rattle.quota_v1.specs.Window.{HoldsWindow, window_reads}
use Rattle.quota_v1.specs.declared.window.Window.{Window}

-- a window of the same file after two steps
pub held_on : (format : Format) (old mid : World) (name : List ℕ) (one two three : Window) → mid ≡ old
    → (HoldsWindow format (bytes_of (old name)) one → HoldsWindow format (bytes_of (old name)) two)
    → (HoldsWindow format (bytes_of (mid name)) two → HoldsWindow format (bytes_of (mid name)) three)
    → HoldsWindow format (bytes_of (old name)) one → HoldsWindow format (bytes_of (old name)) three
held_on format old mid name one two three same first second held =
    subst (λ (files : World). HoldsWindow format (bytes_of (files name)) three) same
    (second (subst (λ (files : World). HoldsWindow format (bytes_of (files name)) two) (sym same) (first held)))

-- the same of the file itself
pub held_of_file : (format : Format) (named : Option (List ℕ)) (file : List ℕ) (one three : Window) → named ≡ Some file
    → (HoldsWindow format (bytes_of named) one → HoldsWindow format (bytes_of named) three)
    → HoldsWindow format file one → HoldsWindow format file three
held_of_file format named file one three is held =
    subst (λ (n : Option (List ℕ)). HoldsWindow format (bytes_of n) one → HoldsWindow format (bytes_of n) three) is held

-- none up to an identifier, and the first one from there on
pub first_then : (format : Format) (file : List ℕ) (from next end records : ℕ) (entry : Entry) → from ≤ next
    → end ≤ records → ((id : ℕ) → from ≤ id → id < next → flat_record format file id ≡ None)
    → IsFirstRecord format file next end (Some entry) → IsFirstRecord format file from records (Some entry)
first_then format file from next end records entry later within none found = (
  omega (arith, later, found.0),
  omega (arith, within, found.1),
  found.2,
  λ id low high. elim (cases_lt id next) [ inl before ↦ none id low before | inr behind ↦ found.3 id behind high ],
)

-- none up to an identifier, and none from there on
pub none_then : (format : Format) (file : List ℕ) (from next end : ℕ)
    → ((id : ℕ) → from ≤ id → id < next → flat_record format file id ≡ None) → IsFirstRecord format file next end None
    → (id : ℕ) → from ≤ id → id < end → flat_record format file id ≡ None
none_then format file from next end none more id low high =
    elim (cases_lt id next) [ inl before ↦ none id low before | inr behind ↦ more id behind high ]

-- How many reads there were: one for as many records that were passed as one gives.
pub reads_exact : (format : Format) (before between now from next first end records : ℕ) → from ≤ next → next < records
    → first ≤ next → end ≡ min records (first + records_read format)
    → records_read format * between ≤ records_read format * before + (next - from) → (now ≡ between) ⊎ (first ≡ next)
    → now ≤ between + 1 → next < end
    → end < records → records_read format * now ≤ records_read format * before + (end - from)
reads_exact V1 before between now from next first end records later more begins is exact (inl same) few on inside =
    omega arith
reads_exact V1R32 before between now from next first end records later more begins is exact (inl same) few on inside =
    omega arith
reads_exact V1 before between now from next first end records later more begins is exact (inr same) few on inside =
    omega arith
reads_exact V1R32 before between now from next first end records later more begins is exact (inr same) few on inside =
    omega arith
reads_exact V2R0 before between now from next first end records later more begins is exact (inl same) few on inside =
    omega arith
reads_exact V2R0 before between now from next first end records later more begins is exact (inr same) few on inside =
    omega arith
reads_exact V2R1 before between now from next first end records later more begins is exact (inl same) few on inside =
    omega arith
reads_exact V2R1 before between now from next first end records later more begins is exact (inr same) few on inside =
    omega arith

pub reads_within : (format : Format) (before between now from next first end records : ℕ) → from ≤ next → next < records
    → first ≤ next → end ≡ min records (first + records_read format)
    → records_read format * between ≤ records_read format * before + (next - from) → (now ≡ between) ⊎ (first ≡ next)
    → now ≤ between + 1 → next < end
    → records_read format * now ≤ records_read format * before + (end - from) + (records_read format - 1)
reads_within V1 before between now from next first end records later more begins is exact (inl same) few on =
    omega arith
reads_within V1R32 before between now from next first end records later more begins is exact (inl same) few on =
    omega arith
reads_within V1 before between now from next first end records later more begins is exact (inr same) few on =
    omega arith
reads_within V1R32 before between now from next first end records later more begins is exact (inr same) few on =
    omega arith
reads_within V2R0 before between now from next first end records later more begins is exact (inl same) few on =
    omega arith
reads_within V2R0 before between now from next first end records later more begins is exact (inr same) few on =
    omega arith
reads_within V2R1 before between now from next first end records later more begins is exact (inl same) few on =
    omega arith
reads_within V2R1 before between now from next first end records later more begins is exact (inr same) few on =
    omega arith

-- so many at most
pub reads_some : (format : Format) (before now from end : ℕ)
    → records_read format * now ≤ records_read format * before + (end - from) + (records_read format - 1)
    → now ≤ before + window_reads format from end
reads_some V1 before now from end few = omega arith
reads_some V1R32 before now from end few = omega arith
reads_some V2R0 before now from end few = omega arith
reads_some V2R1 before now from end few = omega arith

-- and so many up to a record that one read more has found
pub reads_near : (format : Format) (before between now from next id : ℕ)
    → records_read format * between ≤ records_read format * before + (next - from) → from ≤ next
    → now ≤ between + 1 → next ≤ id
    → now ≤ before + window_reads format from (id + 1)
reads_near V1 before between now from next id exact later few found = omega arith
reads_near V1R32 before between now from next id exact later few found = omega arith
reads_near V2R0 before between now from next id exact later few found = omega arith
reads_near V2R1 before between now from next id exact later few found = omega arith

-- which are no more than up to a later one
pub reads_on : (format : Format) (before now from end records : ℕ) → now ≤ before + window_reads format from end
    → end ≤ records → now ≤ before + window_reads format from records
reads_on V1 before now from end records few le = omega arith
reads_on V1R32 before now from end records few le = omega arith
reads_on V2R0 before now from end records few le = omega arith
reads_on V2R1 before now from end records few le = omega arith

-- where all were passed, or there were none
pub reads_end : (format : Format) (before now from next records : ℕ) → now ≤ before + window_reads format from next
    → from ≤ next → (from < next → next ≤ records) → now ≤ before + window_reads format from records
reads_end format before now from next records few later within = elim (cases_lt from next) [
  | inl some ↦ reads_on format before now from next records few (within some)
  | inr none ↦ reads_none format before now from next records few (omega arith)
]
  where
    reads_none : (format : Format) (before now from next records : ℕ) → now ≤ before + window_reads format from next
        → next ≤ from → now ≤ before + window_reads format from records
    reads_none V1 before now from next records few none = omega arith
    reads_none V1R32 before now from next records few none = omega arith
    reads_none V2R0 before now from next records few none = omega arith
    reads_none V2R1 before now from next records few none = omega arith

-- no more than all records of a flat file ask for
pub reads_most : (format : Format) (before now from records : ℕ) → now ≤ before + window_reads format from records
    → records ≤ 1048576 → now ≤ before + most_next_reads format
reads_most V1 before now from records few most = omega arith
reads_most V1R32 before now from records few most = omega arith
reads_most V2R0 before now from records few most = omega arith
reads_most V2R1 before now from records few most = omega arith
