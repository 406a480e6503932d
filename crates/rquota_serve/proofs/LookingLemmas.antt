-- Look-ups in the files of exports: none, and two in a row.
use Rattle.std.proofs.Common.{ℕ, ◌+◌, ◌*◌, ◌≤◌, IfSome, List, Option, Result, Ok, Err, refl, subst, arith}
use Rattle.std.proofs.Math.Nat.{mul-le-mul_left}
use Rattle.std.proofs.lemmas.Option.{IfSome_then}
use Rattle.outside.specs.Count.{Rose}
use Rattle.outside.specs.Seen.{StoreSeen}
use Rattle.opened_file.specs.declared.quota_file.FileFault.{FileFault}
use Rattle.opened_file.specs.declared.quota_file.FileFault.TheVariants.{Store as CallFailed, Damage as Damaged, Full}
use Rattle.opened_file.specs.declared.quota_file.FileFault.TheVariants.{Memory as NoMemory}
use Rattle.outside.proofs.FrameLemmas.{syncs-none, syncs-then}
use Rattle.rquota_serve.specs.ExportedValues.{ExportedValues}
use Rattle.rquota_serve.specs.ExportSeen.{ExportSeen}
use Rattle.rquota_serve.specs.Looking.{ExportsAt, LooksUpIn}
use Rattle.rquota_serve.specs.Refusal.{IsAnswerFault, IsServeFault, OnFile, OnLink, file_in}
use Rattle.rquota_serve.specs.declared.serve_fault.ServeFault.{ServeFault}
use Rattle.rquota_serve.specs.declared.serve_fault.ServeFault.TheVariants.{Link as LinkFailed, File as FileFailed}
use Rattle.rquota_serve.proofs.ExportLemmas.{looks-none, looks-then}

-- nothing was looked up, whatever number of reads may be made
pub looks_in-none : {T E : Type 0} (fault_of : E → Option FileFault) (at : ExportsAt) (most : ℕ) (told : T)
    → LooksUpIn fault_of at at most (Ok told)
looks_in-none fault_of at most told = record {
  refused = tt;
  may = tt;
  stays = λ exported serves. serves;
  leaves = looks-none at.seen at.store;
  synced = syncs-none at.store;
  same = refl;
  counted = tt;
  reads = omega arith;
}

answer_fault-after : (before between now : ℕ) (serves serves_between : ExportedValues → Type 0) (fault : FileFault)
    → before ≤ between → ((exported : ExportedValues) → serves exported → serves_between exported)
    → IsAnswerFault between now serves_between fault → IsAnswerFault before now serves fault
answer_fault-after before between now serves serves_between CallFailed later stays cause = omega arith
answer_fault-after before between now serves serves_between (Damaged damage) later stays cause =
    λ exported is. cause exported (stays exported is)
answer_fault-after before between now serves serves_between (Full blocks limit) later stays cause = cause
answer_fault-after before between now serves serves_between NoMemory later stays cause = cause

looks_in-mid : {T U E G : Type 0} (fault_in : G → Option FileFault) (fault_of : E → Option FileFault)
    (old new : ExportsAt) (one two : ℕ) (told : U) (held : ExportedValues → Type 0) (store : StoreSeen)
    (result : Result T E)
    → LooksUpIn fault_in old (record { serves = held; seen = old.seen; store = store }) one (Ok told)
    → LooksUpIn fault_of (record { serves = held; seen = old.seen; store = store }) new two result
    → LooksUpIn fault_of old new (one + two) result
looks_in-mid fault_in fault_of old new one two told held store (Ok done) first second = record {
  refused = tt;
  may = tt;
  stays = λ exported serves. second.stays exported (first.stays exported serves);
  leaves = looks-then old.seen old.store store new.store first.leaves second.leaves;
  synced = syncs-then old.store store new.store first.synced second.synced;
  same = second.same;
  counted = tt;
  reads = omega (arith, first.reads, second.reads);
}
looks_in-mid fault_in fault_of old new one two told held store (Err out) first second = record {
  refused = IfSome_then (fault_of out) second.refused
      (λ fault cause. answer_fault-after old.store.faults store.faults new.store.faults old.serves held fault
      first.leaves.later first.stays cause);
  may = second.may;
  stays = λ exported serves. second.stays exported (first.stays exported serves);
  leaves = looks-then old.seen old.store store new.store first.leaves second.leaves;
  synced = syncs-then old.store store new.store first.synced second.synced;
  same = tt;
  counted = second.counted;
  reads = omega (arith, first.reads, second.reads);
}

-- look-ups, and more of them
pub looks_in-then : {T U E G : Type 0} (fault_in : G → Option FileFault) (fault_of : E → Option FileFault)
    (old mid new : ExportsAt) (one two : ℕ) (told : U) (result : Result T E)
    → LooksUpIn fault_in old mid one (Ok told) → LooksUpIn fault_of mid new two result
    → LooksUpIn fault_of old new (one + two) result
looks_in-then fault_in fault_of old mid new one two told result first second =
    let P : List ExportSeen → Type 0 =
    λ seen. LooksUpIn fault_in old (record { serves = mid.serves; seen = seen; store = mid.store }) one (Ok told)
    × LooksUpIn fault_of (record { serves = mid.serves; seen = seen; store = mid.store }) new two result in
    let moved : P old.seen = subst P first.same (first, second) in
    looks_in-mid fault_in fault_of old new one two told mid.serves mid.store result moved.0 moved.1

-- no more calls were made than a greater number
looks_in-within : {T E : Type 0} (fault_of : E → Option FileFault) (old new : ExportsAt) (few most : ℕ)
    (result : Result T E) → few ≤ most
    → LooksUpIn fault_of old new few result → LooksUpIn fault_of old new most result
looks_in-within fault_of old new few most result within looks = record {
  refused = looks.refused;
  may = looks.may;
  stays = looks.stays;
  leaves = looks.leaves;
  synced = looks.synced;
  same = looks.same;
  counted = looks.counted;
  reads = omega (arith, looks.reads, within);
}

-- one more look-up after `count` others, where each makes at most `each` calls of `read`
pub looks_in-more : {T U E G : Type 0} (fault_in : G → Option FileFault) (fault_of : E → Option FileFault)
    (old mid new : ExportsAt) (each count most : ℕ) (told : U) (result : Result T E)
    → count + 1 ≤ most → LooksUpIn fault_in old mid (each * count) (Ok told) → LooksUpIn fault_of mid new each result
    → LooksUpIn fault_of old new (each * most) result
looks_in-more fault_in fault_of old mid new each count most told result more first second =
    looks_in-within fault_of old new (each * count + each) (each * most) result
    (omega (arith, mul-le-mul_left each more))
    (looks_in-then fault_in fault_of old mid new (each * count) each told result first second)

-- why serving ended: the link failed, or a file did
pub serve_fault : (before now link link_now : ℕ) (serves : ExportedValues → Type 0) (fault : ServeFault)
    → OnLink fault (Rose link link_now) → IfSome (file_in fault) (IsAnswerFault before now serves)
    → IsServeFault before now link link_now serves fault
serve_fault before now link link_now serves LinkFailed unlinked refused = unlinked
serve_fault before now link link_now serves (FileFailed fault) unlinked refused = refused

pub on_file : (P : FileFault → Type 0) (fault : ServeFault) → IfSome (file_in fault) P → OnFile fault P
on_file P LinkFailed may = tt
on_file P (FileFailed fault) may = may
