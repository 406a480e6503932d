-- How many look-ups a report makes, one after each identifier at most.
use Rattle.std.proofs.Common.{◌≡◌, ℕ, ◌+◌, ◌*◌, ◌-◌, ◌^◌, ◌<◌, ◌≤◌, List, Option, Some, None, Result, Ok, Err, refl}
use Rattle.std.proofs.Common.{arith}
use Rattle.std.proofs.Math.Nat.{mul-le-mul_left}
use Rattle.opened_file.specs.Changes.{FileAt, FileLaws, file_in}
use Rattle.opened_file.specs.LooksUp.{LooksUp}
use Rattle.opened_file.specs.FileSeen.{FileSeen}
use Rattle.quota_types.specs.Ids.{IsAfter}
use Rattle.opened_file.specs.declared.quota_file.FileFault.{FileFault}
use Rattle.quota_value.proofs.EntriesLemmas.{ids_after}
use Rattle.opened_file.proofs.LookupLemmas.{IsAnswer}
use Rattle.opened_file.proofs.LooksUpLemmas.{looks_up-answer, looks_up-more, looks_up-stopped, looks_up-within}
use Rattle.report_text.specs.Fault.{file_fault}
use Rattle.report_text.specs.declared.report_fault.ReportFault.{ReportFault}

-- an identifier that comes after another one leaves fewer behind it
further : (after : Option ℕ) (id : ℕ) → IsAfter after id → id < 2 ^ 32
    → (2 ^ 32 - ids_after after) + 1 ≤ 2 ^ 32 - ids_after (Some id)
further None id is narrow = omega arith
further (Some last) id is narrow = omega arith

-- one more look-up than there are identifiers up to the last one that was found
at_most : (after : Option ℕ) → (2 ^ 32 - ids_after after) + 1 ≤ 2 ^ 32 + 1
at_most after = omega arith

module _ {T : Type 0} (laws : FileLaws) (old mid new : FileAt) (of : FileSeen → Option (List ℕ) → ℕ) where
  -- one more look-up, which found an identifier
  pub one_more : (after : Option ℕ) (id : ℕ) (result : Result T FileFault) → IsAfter after id → id < 2 ^ 32
      → LooksUp Some laws old mid (of old.seen (file_in old) * (2 ^ 32 - ids_after after)) (Ok (tt {0}))
      → LooksUp Some laws mid new (of mid.seen (file_in mid)) result
      → LooksUp Some laws old new (of old.seen (file_in old) * (2 ^ 32 - ids_after (Some id))) result
  one_more after id result is narrow first second =
      looks_up-within Some laws old new _ _ result
      (mul-le-mul_left (of old.seen (file_in old)) (further after id is narrow))
      (looks_up-more Some Some laws old mid new of (2 ^ 32 - ids_after after) ((2 ^ 32 - ids_after after) + 1) (tt {0})
      result refl first second)

  -- one more look-up, which was the last one
  pub last_one : (after : Option ℕ) (result : Result T FileFault) (answer : Result (Unit {0}) ReportFault)
      → IsAnswer {T = T} {U = Unit {0}} Some file_fault result answer
      → LooksUp Some laws old mid (of old.seen (file_in old) * (2 ^ 32 - ids_after after)) (Ok (tt {0}))
      → LooksUp Some laws mid new (of mid.seen (file_in mid)) result
      → LooksUp file_fault laws old new (of old.seen (file_in old) * (2 ^ 32 + 1)) answer
  last_one after result answer same first second =
      looks_up-answer Some file_fault laws old new _ result answer same
      (looks_up-within Some laws old new _ _ result (mul-le-mul_left (of old.seen (file_in old)) (at_most after))
      (looks_up-more Some Some laws old mid new of (2 ^ 32 - ids_after after) ((2 ^ 32 - ids_after after) + 1) (tt {0})
      result refl first second))

  -- one more look-up, after which the sink failed
  pub sink_failed : (after : Option ℕ) (found : T) (fault : ReportFault) → file_fault fault ≡ None
      → LooksUp Some laws old mid (of old.seen (file_in old) * (2 ^ 32 - ids_after after)) (Ok (tt {0}))
      → LooksUp Some laws mid new (of mid.seen (file_in mid)) (Ok found)
      → LooksUp {T = Unit {0}} file_fault laws old new (of old.seen (file_in old) * (2 ^ 32 + 1)) (Err fault)
  sink_failed after found fault none first second =
      looks_up-stopped file_fault file_fault laws old new _ (tt {0}) fault none
      (last_one after (Ok found) (Ok (tt {0})) tt first second)
