-- Flat files that are passed in parts.
use Rattle.std.specs.Prelude.{ℕ, ◌+◌, ◌/◌, ◌≤◌, List, length}
use Rattle.std.proofs.Common.{arith}
use Rattle.quota_types.specs.Format.{record_size}
use Rattle.quota_types.specs.declared.file_kind.Format.{Format}
use Rattle.quota_types.specs.declared.file_kind.Format.TheVariants.{V1, V1R32, V2R0, V2R1}
use Rattle.quota_v1.specs.Window.{passing_reads}

-- what is passed in two parts is read once more where they meet, and no more often
pub passing_adds_up : (format : Format) (file : List ℕ) (from mid to : ℕ) → from ≤ mid → mid ≤ to
    → passing_reads format file from mid + passing_reads format file mid to
    ≤ passing_reads format file from to + passing_reads format file 0 0
passing_adds_up V1 file from mid to first second =
    let records : ℕ = length file / record_size V1 in
    omega (arith, first, second)
passing_adds_up V1R32 file from mid to first second =
    let records : ℕ = length file / record_size V1R32 in
    omega (arith, first, second)
passing_adds_up V2R0 file from mid to first second =
    let records : ℕ = length file / record_size V2R0 in
    omega (arith, first, second)
passing_adds_up V2R1 file from mid to first second =
    let records : ℕ = length file / record_size V2R1 in
    omega (arith, first, second)
