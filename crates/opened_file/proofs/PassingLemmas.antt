-- How many calls of `read` are made by calls of `next_after` one after another, which pass all identifiers.
use Rattle.std.proofs.Common.{◌≡◌, ℕ, ◌+◌, ◌*◌, ◌^◌, ◌<◌, ◌≤◌, List, length, Option, None, Some, Ok, ap, subst, arith}
use Rattle.std.specs.FinMap.{entries}
use Rattle.quota_types.specs.declared.record.Entry.{Entry}
use Rattle.quota_types.specs.declared.record.Rec.{Rec}
use Rattle.opened_file.specs.Changes.{FileAt, FileLaws, file_in}
use Rattle.opened_file.specs.LooksUp.{LooksUp}
use Rattle.opened_file.specs.Passing.{first_after, passed_up_to, reads_over}
use Rattle.opened_file.specs.FileSeen.{FileSeen}
use Rattle.quota_types.specs.Ids.{IsAfter}
use Rattle.quota_value.specs.QuotaValue.{Records}
use Rattle.quota_value.specs.NextRecord.{IsNextAfter}
use Rattle.opened_file.specs.declared.quota_file.FileFault.{FileFault}
use Rattle.quota_value.proofs.EntriesLemmas.{entries_after, entries_after-all, entries_after-next}
use Rattle.opened_file.proofs.LooksUpLemmas.{looks_up-seen}

-- what passes the identifiers from one up to another one, in two calls, takes no more than in one, but for what a call
-- takes anyway
abbrev pub AddsUp : (passing : ℕ → ℕ → ℕ) → Type 0
AddsUp passing =
    (from mid to : ℕ) → from ≤ mid → mid ≤ to → passing from mid + passing mid to ≤ passing from to + passing 0 0

-- what comes after is no less than the least identifier that does
pub first_at_most : (after : Option ℕ) (id : ℕ) → IsAfter after id → first_after after ≤ id
first_at_most None id is = omega arith
first_at_most (Some last) id is = omega arith

-- what passes all up to an identifier in one call; before the first call there is nothing to pass
abbrev pub passed_in_one : (passing : ℕ → ℕ → ℕ) → Option ℕ → ℕ
passed_in_one passing None = passing 0 0
passed_in_one passing (Some after) = passing 0 (after + 1)

-- All up to an identifier were passed, by no more calls of `read` than that takes in one, and what a call takes anyway
-- for each record but the last one.
pub record IsPassed (passing : ℕ → ℕ → ℕ) (after : Option ℕ) (records : Records) (before now : ℕ) : Type 0 where
  pub narrow : first_after after ≤ 2 ^ 32
  pub few : now + passing 0 0 * length (entries_after after (entries records)) + passing 0 0
      ≤ before + passed_in_one passing after + passing 0 0 * length (entries records)

pub passed_none : (passing : ℕ → ℕ → ℕ) (records : Records) (before : ℕ) → IsPassed passing None records before before
passed_none passing records before = record {
  narrow = omega arith;
  few = let all = ap (λ (es : List (ℕ × Rec)). passing 0 0 * length es) (entries_after-all (entries records)) in
      omega (arith, all);
}

-- one call more, in the place of two
more_in_one : (passing : ℕ → ℕ → ℕ) (after : Option ℕ) (to : ℕ) → AddsUp passing → first_after after ≤ to
    → passed_in_one passing after + passing (first_after after) to ≤ passing 0 to + passing 0 0
more_in_one passing None to adds within = omega arith
more_in_one passing (Some after) to adds within = adds 0 (after + 1) to (omega arith) within

-- one call more, which found a record
passed_more : (passing : ℕ → ℕ → ℕ) (after : Option ℕ) (records : Records) (entry : Entry) (before mid now : ℕ)
    → AddsUp passing → IsPassed passing after records before mid → IsNextAfter after records (Some entry)
    → first_after after ≤ entry.id → entry.id < 2 ^ 32 → now ≤ mid + passing (first_after after) (entry.id + 1)
    → IsPassed passing (Some entry.id) records before now
passed_more passing after records entry before mid now adds passed next later narrow few =
    let each : ℕ = passing 0 0 in
    let one : each * length (entries_after after (entries records))
    ≡ each + each * length (entries_after (Some entry.id) (entries records)) =
    let found = ap (λ (es : List (ℕ × Rec)). each * length es) (entries_after-next after records entry next) in
    omega (arith, found) in
    record {
      narrow = omega arith;
      few = omega (arith, one, few, passed.few, more_in_one passing after (entry.id + 1) adds (omega arith));
    }

-- the same of what was answered
pub passed_found : (passing : ℕ → ℕ → ℕ) (after : Option ℕ) (records : Records) (entry : Entry) (found : Option Entry)
    (before mid now : ℕ) → AddsUp passing → IsPassed passing after records before mid
    → IsNextAfter after records (Some entry) → IsAfter after entry.id → entry.id < 2 ^ 32 → found ≡ Some entry
    → now ≤ mid + passing (first_after after) (passed_up_to (Ok found))
    → IsPassed passing (Some entry.id) records before now
passed_found passing after records entry found before mid now adds passed next is_after narrow is few =
    passed_more passing after records entry before mid now adds passed next
    (first_at_most after entry.id is_after) narrow
    (subst (λ (o : Option Entry). now ≤ mid + passing (first_after after) (passed_up_to (Ok o))) is few)

-- the last call, which found none or was refused
pub passed_all : (passing : ℕ → ℕ → ℕ) (after : Option ℕ) (records : Records) (before mid now : ℕ) → AddsUp passing
    → IsPassed passing after records before mid → now ≤ mid + passing (first_after after) (2 ^ 32)
    → now ≤ before + reads_over passing (length (entries records))
passed_all passing after records before mid now adds passed few =
    omega (arith, few, passed.few, more_in_one passing after (2 ^ 32) adds passed.narrow)

pub passed_end : (passing : ℕ → ℕ → ℕ) (after : Option ℕ) (records : Records) (found : Option Entry)
    (before mid now : ℕ) → AddsUp passing → IsPassed passing after records before mid → found ≡ None
    → now ≤ mid + passing (first_after after) (passed_up_to (Ok found))
    → now ≤ before + reads_over passing (length (entries records))
passed_end passing after records found before mid now adds passed is few =
    passed_all passing after records before mid now adds passed
    (subst (λ (o : Option Entry). now ≤ mid + passing (first_after after) (passed_up_to (Ok o))) is few)

-- no more calls, after one that found a record
pub passed_part : (passing : ℕ → ℕ → ℕ) (last : ℕ) (records : Records) (before now : ℕ) → AddsUp passing
    → IsPassed passing (Some last) records before now → now ≤ before + reads_over passing (length (entries records))
passed_part passing last records before now adds passed =
    omega (arith, passed.few, adds 0 (last + 1) (2 ^ 32) (omega arith) passed.narrow)

-- what is known of the named file is known of it after look-ups
pub passing_still : {T E : Type 0} (fault_of : E → Option FileFault) (laws : FileLaws) (old mid : FileAt) (most : ℕ)
    (told : T) (passing : FileSeen → Option (List ℕ) → ℕ → ℕ → ℕ) (before now from to : ℕ)
    → LooksUp fault_of laws old mid most (Ok told) → now ≤ before + passing mid.seen (file_in mid) from to
    → now ≤ before + passing old.seen (file_in old) from to
passing_still fault_of laws old mid most told passing before now from to up few =
    subst (λ (of : ℕ → ℕ → ℕ). now ≤ before + of from to) (looks_up-seen fault_of laws old mid most told passing up) few
