-- Look-ups in an opened file: none, and two in a row.
use Rattle.std.proofs.Common.{◌≡◌, ℕ, ◌+◌, ◌*◌, ◌≤◌, List, Option, None, Result, Ok, Err, refl, sym, ap, subst, ◌∙◌}
use Rattle.std.proofs.Common.{arith}
use Rattle.std.proofs.lemmas.Option.{IfSome_then}
use Rattle.opened_file.specs.Changes.{FileAt, FileLaws, file_at, file_in}
use Rattle.outside.specs.World.{World}
use Rattle.opened_file.specs.LooksUp.{LooksUp}
use Rattle.opened_file.specs.QuotaFile.{IsLookupFault}
use Rattle.opened_file.specs.FileSeen.{FileSeen}
use Rattle.quota_value.specs.QuotaValue.{QuotaValue}
use Rattle.outside.specs.Seen.{StoreSeen}
use Rattle.opened_file.specs.declared.quota_file.FileFault.{FileFault}
use Rattle.opened_file.specs.declared.quota_file.FileFault.TheVariants.{Store, Damage, Full, Memory}
use Rattle.outside.proofs.FrameLemmas.{only_reads-less, only_reads-none, only_reads-then}
use Rattle.opened_file.proofs.LookupLemmas.{IsAnswer, IsLookedUp}

-- no look-up was made
pub looks_up-none : {T E : Type 0} (fault_of : E → Option FileFault) (laws : FileLaws) (at : FileAt) (told : T)
    → LooksUp fault_of laws at at 0 (Ok told)
looks_up-none fault_of laws at told = record {
  refused = tt;
  may = tt;
  stays = λ value holds. holds;
  leaves = only_reads-none at.seen.name at.store;
  same = refl;
  counted = tt;
  reads = omega arith;
}

-- a look-up that is refused after another one is refused by what held before that
pub lookup_fault-after : (before between now : ℕ) (held held_between : QuotaValue → Type 0) (fault : FileFault)
    → before ≤ between
    → ((value : QuotaValue) → held value → held_between value) → IsLookupFault between now held_between fault
    → IsLookupFault before now held fault
lookup_fault-after before between now held held_between Store later stays cause = omega arith
lookup_fault-after before between now held held_between (Damage at) later stays cause =
    λ value holds. cause value (stays value holds)
lookup_fault-after before between now held held_between (Full blocks limit) later stays cause = cause
lookup_fault-after before between now held held_between Memory later stays cause = cause

module _ {T U E G : Type 0} (fault_in : G → Option FileFault) (fault_of : E → Option FileFault) (laws : FileLaws)
    (old new : FileAt) (one two : ℕ) (told : U) where
  looks_up-mid : (held : QuotaValue → Type 0) (store : StoreSeen) (result : Result T E)
      → LooksUp fault_in laws old (file_at held old.seen store) one (Ok told)
      → LooksUp fault_of laws (file_at held old.seen store) new two result
      → LooksUp fault_of laws old new (one + two) result
  looks_up-mid held store (Ok done) first second = record {
    refused = tt;
    may = tt;
    stays = λ value holds. second.stays value (first.stays value holds);
    leaves = only_reads-then old.seen.name old.store store new.store first.leaves second.leaves;
    same = second.same;
    counted = tt;
    reads = omega (arith, first.reads, second.reads);
  }
  looks_up-mid held store (Err out) first second = record {
    refused = IfSome_then (fault_of out) second.refused
        (λ fault cause. lookup_fault-after old.store.faults store.faults new.store.faults old.holds held fault
        first.leaves.later first.stays cause);
    may = second.may;
    stays = λ value holds. second.stays value (first.stays value holds);
    leaves = only_reads-then old.seen.name old.store store new.store first.leaves second.leaves;
    same = tt;
    counted = second.counted;
    reads = omega (arith, first.reads, second.reads);
  }

-- look-ups, and more of them: they read what both read
pub looks_up-then : {T U E G : Type 0} (fault_in : G → Option FileFault) (fault_of : E → Option FileFault)
    (laws : FileLaws) (old mid new : FileAt) (one two : ℕ) (told : U) (result : Result T E)
    → LooksUp fault_in laws old mid one (Ok told) → LooksUp fault_of laws mid new two result
    → LooksUp fault_of laws old new (one + two) result
looks_up-then fault_in fault_of laws old mid new one two told result first second =
    let P : FileSeen → Type 0 = λ seen. LooksUp fault_in laws old (file_at mid.holds seen mid.store) one (Ok told)
    × LooksUp fault_of laws (file_at mid.holds seen mid.store) new two result in
    let moved : P old.seen = subst P first.same (first, second) in
    looks_up-mid fault_in fault_of laws old new one two told mid.holds mid.store result moved.0 moved.1

-- no more calls were made than a greater number
pub looks_up-within : {T E : Type 0} (fault_of : E → Option FileFault) (laws : FileLaws) (old new : FileAt)
    (few most : ℕ) (result : Result T E) → few ≤ most
    → LooksUp fault_of laws old new few result → LooksUp fault_of laws old new most result
looks_up-within fault_of laws old new few most result within up = record {
  refused = up.refused;
  may = up.may;
  stays = up.stays;
  leaves = up.leaves;
  same = up.same;
  counted = up.counted;
  reads = omega (arith, up.reads, within);
}

-- look-ups whose answer is Ok where the result is, and has the fault that the result has
pub looks_up-answer : {T U E G : Type 0} (fault_in : E → Option FileFault) (fault_of : G → Option FileFault)
    (laws : FileLaws) (old new : FileAt) (most : ℕ) (result : Result T E) (answer : Result U G)
    → IsAnswer fault_in fault_of result answer → LooksUp fault_in laws old new most result
    → LooksUp fault_of laws old new most answer
looks_up-answer fault_in fault_of laws old new most (Ok told) (Ok answer) is up = record {
  refused = tt;
  may = tt;
  stays = up.stays;
  leaves = up.leaves;
  same = up.same;
  counted = tt;
  reads = up.reads;
}
looks_up-answer fault_in fault_of laws old new most (Ok told) (Err out) is up = absurd is
looks_up-answer fault_in fault_of laws old new most (Err fault) (Ok answer) is up = absurd is
looks_up-answer fault_in fault_of laws old new most (Err fault) (Err out) is up = record {
  refused = rw is up.refused;
  may = rw is up.may;
  stays = up.stays;
  leaves = up.leaves;
  same = tt;
  counted = rw is up.counted;
  reads = up.reads;
}

-- look-ups after which something else refused the call
pub looks_up-stopped : {T U E G : Type 0} (fault_in : G → Option FileFault) (fault_of : E → Option FileFault)
    (laws : FileLaws) (old new : FileAt) (most : ℕ) (told : U) (out : E) → fault_of out ≡ None
    → LooksUp fault_in laws old new most (Ok told) → LooksUp {T = T} fault_of laws old new most (Err out)
looks_up-stopped fault_in fault_of laws old new most told out none up = record {
  refused = rw none tt;
  may = rw none tt;
  stays = up.stays;
  leaves = only_reads-less old.seen.name old.store new.store up.leaves;
  same = tt;
  counted = rw none up.same;
  reads = up.reads;
}

-- after look-ups the named file is the same, and so is what is known of it
pub looks_up-seen : {A T E : Type 0} (fault_of : E → Option FileFault) (laws : FileLaws) (old new : FileAt) (most : ℕ)
    (told : T) (of : FileSeen → Option (List ℕ) → A)
    → LooksUp fault_of laws old new most (Ok told) → of new.seen (file_in new) ≡ of old.seen (file_in old)
looks_up-seen fault_of laws old new most told of up =
    ap (λ (files : World). of new.seen (files new.seen.name)) up.leaves.files
    ∙ ap (λ (seen : FileSeen). of seen (old.store.files seen.name)) up.same

-- One more look-up after others, where each makes as many calls of `read` as is known of the named file.
pub looks_up-more : {T U E G : Type 0} (fault_in : G → Option FileFault) (fault_of : E → Option FileFault)
    (laws : FileLaws) (old mid new : FileAt) (of : FileSeen → Option (List ℕ) → ℕ) (count more : ℕ) (told : U)
    (result : Result T E)
    → more ≡ count + 1 → LooksUp fault_in laws old mid (of old.seen (file_in old) * count) (Ok told)
    → LooksUp fault_of laws mid new (of mid.seen (file_in mid)) result
    → LooksUp fault_of laws old new (of old.seen (file_in old) * more) result
looks_up-more fault_in fault_of laws old mid new of count more told result one first second =
    let each = of old.seen (file_in old) in
    let same : of mid.seen (file_in mid) ≡ each = looks_up-seen fault_in laws old mid (each * count) told of first in
    subst (λ (k : ℕ). LooksUp fault_of laws old new (each * k) result) (sym one)
    (looks_up-within fault_of laws old new (each * count + of mid.seen (file_in mid)) (each * (count + 1)) result
    (omega (arith, same))
    (looks_up-then fault_in fault_of laws old mid new (each * count) (of mid.seen (file_in mid)) told
    result first second))

-- what an edit goes on from
pub is_looked_up : {T E : Type 0} (fault_of : E → Option FileFault) (laws : FileLaws) (old new : FileAt) (most : ℕ)
    (told : T) → LooksUp fault_of laws old new most (Ok told) → IsLookedUp old new
is_looked_up fault_of laws old new most told up = record { stays = up.stays; leaves = up.leaves; same = up.same }
