-- A whole new flat file, from a list of entries. Source: the table of vfsold, `struct v1_disk_dqblk` of the quota
-- tools, as they write it on 64-bit x86, or for vfsold32 on 32-bit x86.
use Rattle.std.specs.Prelude.{◌≡◌, ℕ, ◌+◌, ◌<◌, max, List, [], ◌∷◌}
use Rattle.std.specs.List.{Contains}
use Rattle.quota_types.specs.Bytes.{byte_at}
use Rattle.quota_types.specs.Format.{record_size}
use Rattle.quota_types.specs.declared.file_kind.Format.{Format}
use Rattle.quota_v1.specs.Place.{block_time_at, record_start}

-- the greatest of some numbers, or 0 of none
abbrev pub greatest : List ℕ → ℕ
greatest [] = 0
greatest (number ∷ numbers) = max number (greatest numbers)

-- how many records a file of these identifiers has: one for each identifier from 0 up to the greatest one, and at least
-- one
abbrev pub records_needed : List ℕ → ℕ
records_needed ids = greatest ids + 1

-- Each byte of an identifier that is not one of these is 0, but for the times of record 0.
abbrev pub IsZeroElsewhere : Format → List ℕ → List ℕ → Type 0
IsZeroElsewhere format ids file =
    (id : ℕ) → ¬ Contains ids id → (at : ℕ) → at < record_size format → (id ≡ 0 → at < block_time_at)
    → byte_at file (record_start format id + at) ≡ 0
