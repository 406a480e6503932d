-- How many calls of `read` pass the records of a flat file.
use Rattle.std.proofs.Common.{◌≡◌, ℕ, ◌+◌, ◌-◌, ◌^◌, ◌/◌, ◌<◌, ◌≤◌, min, IfSome, List, length, Option, None, Some, Ok}
use Rattle.std.proofs.Common.{Err, inl, inr, sym, subst, arith}
use Rattle.std.proofs.lemmas.Bool.{cases_lt}
use Rattle.file_blocks.specs.Block.{bytes_of}
use Rattle.quota_types.specs.Format.{record_size}
use Rattle.quota_types.specs.Ids.{IsAfter}
use Rattle.quota_types.specs.declared.file_kind.Format.{Format}
use Rattle.quota_types.specs.declared.file_kind.Format.TheVariants.{V1, V1R32, V2R0, V2R1}
use Rattle.quota_types.specs.declared.record.Entry.{Entry}
use Rattle.opened_file.specs.Passing.{first_after, passed_up_to}
use Rattle.opened_file.specs.declared.quota_file.FileFault.{FileFault}
use Rattle.opened_file.proofs.PassingLemmas.{first_at_most}
use Rattle.quota_v1.specs.Place.{records_read}
use Rattle.quota_v1.specs.Window.{passing_reads, window_reads}

-- the records from one up to an end were passed
passed_some : (format : Format) (before now first from end to records : ℕ) → first ≤ from → from < end → end ≤ to
    → end ≤ records → now ≤ before + window_reads format from end
    → now ≤ before + (1 + (min to records - first) / records_read format)
passed_some V1 before now first from end to records later some far within few = omega arith
passed_some V1R32 before now first from end to records later some far within few = omega arith
passed_some V2R0 before now first from end to records later some far within few = omega arith
passed_some V2R1 before now first from end to records later some far within few = omega arith

-- there was none to pass
passed_none : (format : Format) (before now first from to records : ℕ) → records ≤ from
    → now ≤ before + window_reads format from records
    → now ≤ before + (1 + (min to records - first) / records_read format)
passed_none V1 before now first from to records none few = omega arith
passed_none V1R32 before now first from to records none few = omega arith
passed_none V2R0 before now first from to records none few = omega arith
passed_none V2R1 before now first from to records none few = omega arith

-- the same by the records of a file
of_file : (format : Format) (file : List ℕ) (before now first to records : ℕ)
    → records ≡ length file / record_size format → now ≤ before + (1 + (min to records - first) / records_read format)
    → now ≤ before + passing_reads format file first to
of_file format file before now first to records all few =
    subst (λ (n : ℕ). now ≤ before + (1 + (min to n - first) / records_read format)) all few

-- all records from one on were passed
passed_rest : (format : Format) (file : List ℕ) (after : Option ℕ) (from records before now : ℕ)
    → records ≡ length file / record_size format → records ≤ 2 ^ 32
    → ((id : ℕ) → from ≤ id → id < records → IsAfter after id)
    → now ≤ before + window_reads format from records
    → now ≤ before + passing_reads format file (first_after after) (2 ^ 32)
passed_rest format file after from records before now all few comes reads =
    of_file format file before now (first_after after) (2 ^ 32) records all (elim (cases_lt from records) [
      | inl some ↦ passed_some format before now (first_after after) from records (2 ^ 32) records
          (first_at_most after from (comes from (omega arith) some)) some few (omega arith) reads
      | inr none ↦ passed_none format before now (first_after after) from (2 ^ 32) records none reads
    ])

-- a call that found the first record from an identifier on, or none
pub passed_found : (format : Format) (file : List ℕ) (after : Option ℕ) (from records before now : ℕ)
    (found : Option Entry) → records ≡ length file / record_size format → records ≤ 2 ^ 32
    → ((id : ℕ) → from ≤ id → id < records → IsAfter after id)
    → IfSome found (λ entry. (from ≤ entry.id) × (entry.id < records))
    → IfSome found (λ entry. now ≤ before + window_reads format from (entry.id + 1))
    → now ≤ before + window_reads format from records
    → now ≤ before + passing_reads format file (first_after after) (passed_up_to (Ok found))
passed_found format file after from records before now None all few comes between near reads =
    passed_rest format file after from records before now all few comes reads
passed_found format file after from records before now (Some entry) all few comes between near reads =
    of_file format file before now (first_after after) (entry.id + 1) records all
    (passed_some format before now (first_after after) from (entry.id + 1) (entry.id + 1) records
    (first_at_most after from (comes from (omega arith) (omega (arith, between.0, between.1))))
    (omega (arith, between.0)) (omega arith) (omega (arith, between.1)) near)

-- a call that was refused
pub passed_refused : (format : Format) (file : List ℕ) (after : Option ℕ) (from records before now : ℕ)
    (fault : FileFault) → records ≡ length file / record_size format → records ≤ 2 ^ 32
    → ((id : ℕ) → from ≤ id → id < records → IsAfter after id)
    → now ≤ before + window_reads format from records
    → now ≤ before + passing_reads format file (first_after after) (passed_up_to (Err fault))
passed_refused format file after from records before now fault all few comes reads =
    passed_rest format file after from records before now all few comes reads

-- the same of the named file
pub of_named : (format : Format) (named : Option (List ℕ)) (file : List ℕ) (before now from to : ℕ) → named ≡ Some file
    → now ≤ before + passing_reads format file from to → now ≤ before + passing_reads format (bytes_of named) from to
of_named format named file before now from to is few =
    subst (λ (n : Option (List ℕ)). now ≤ before + passing_reads format (bytes_of n) from to) (sym is) few
