-- What is seen once objects outside were used, and commands whose file was not opened.
use Rattle.std.proofs.Common.{◌≡◌, ◌≢◌, ℕ, ◌≤◌, Bool, List, [], Option, Some, Err, inr, refl, sym, ap, arith}
use Rattle.std.proofs.Common.{append-nil}
use Rattle.quota_types.specs.declared.file_kind.Kind.{Kind}
use Rattle.outside.specs.Frame.{OnlyReads}
use Rattle.quota_value.specs.QuotaValue.{QuotaValue}
use Rattle.outside.specs.Seen.{SinkSeen, SourceSeen, StoreSeen}
use Rattle.outside.specs.World.{World}
use Rattle.opened_file.specs.declared.quota_file.OpenFault.{OpenFault}
use Rattle.opened_file.specs.declared.quota_file.OpenFault.TheVariants.{Store, NoFile, TooLarge, Memory, FormatMismatch}
use Rattle.opened_file.specs.declared.quota_file.OpenFault.TheVariants.{Damage}
use Rattle.opened_file.specs.declared.quota_file.FileFault.{FileFault}
use Rattle.opened_file.specs.declared.quota_file.FileFault.TheVariants.{Store as CallFailed, Damage as FileDamaged}
use Rattle.opened_file.specs.declared.quota_file.FileFault.TheVariants.{Full as NoBlocks, Memory as NoMemory}
use Rattle.quota_map.specs.Asked.{Asked}
use Rattle.quota_map.specs.View.{IsOpenFault}
use Rattle.quota_map.proofs.OpeningLemmas.{IsFaultAs, open_as}
use Rattle.quota_map.proofs.SeenLemmas.{IsOfCall, fault_seen, store_rose}
use Rattle.refusals.specs.declared.cause.Cause.{Cause}
use Rattle.refusals.specs.declared.cause.Cause.TheVariants.{SinkFault}
use Rattle.refusals.specs.declared.reason.Refusal.{Refusal}
use Rattle.run_steps.specs.Done.{AreDone, IsLater, IsUnwritten, IsWorldTold, Outside, RunSeen, RunTells, outside_of}
use Rattle.run_steps.specs.Meaning.{EndsBy}
use Rattle.run_steps.specs.Opening.{MayRefuseOpening, file_cause, opening_cause}
use Rattle.run_steps.specs.Run.{HasReason, HasSteps, IsDoneInPart, IsPlacedBy, Uses}
use Rattle.run_steps.specs.Carrying.{CarriesOut}
use Rattle.run_steps.specs.Steps.{Opening, Steps}
use Rattle.run_steps.proofs.PartLemmas.{nothing_begun}
use Rattle.run_steps.proofs.WritesLemmas.{writes_for-same}
use Rattle.refusals.specs.Refusals.{refusal_of}

-- what is seen once the store was used; once the output was used too; and once bytes were taken from the input
abbrev pub with_store : RunSeen → StoreSeen → RunSeen
with_store seen store = record seen { store = store }

abbrev pub with_out : RunSeen → StoreSeen → SinkSeen → RunSeen
with_out seen store out = record seen { store = store; out = out }

abbrev pub with_input : RunSeen → SourceSeen → RunSeen
with_input seen input = record seen { input = input }

-- the files of what is met outside, alone
abbrev outside_with : RunSeen → World → Outside
outside_with seen files = record { files = files; input = seen.input.left; datagrams = seen.link.left }

-- where files were only read, what is met outside is as it was
pub outside_same : (seen : RunSeen) (store : StoreSeen) → store.files ≡ seen.store.files
    → outside_of (with_store seen store) ≡ outside_of seen
outside_same seen store same = ap (λ (files : World). outside_with seen files) same

-- a call that only read wrote nothing
pub unwritten : {done : Bool} (name : List ℕ) (old new : StoreSeen) → OnlyReads done name old new → IsUnwritten old new
unwritten name old new reads = record { files = reads.files; writes = reads.writes }

-- nothing was done where the store was only read
pub nothing_read : {done : Bool} {why : Option Cause} (steps : Steps) (name : List ℕ) (tells : RunTells) (old : RunSeen)
    (store : StoreSeen) → why ≢ Some SinkFault → OnlyReads done name old.store store
    → IsDoneInPart steps tells why old (with_store old store)
nothing_read steps name tells old store other reads =
    nothing_begun steps tells old (with_store old store) other reads.files (λ told. refl) (λ told. refl) refl refl
    refl reads.writes

-- no act was done
pub none_done : (tells : RunTells) (old : RunSeen) (store : StoreSeen) (input : SourceSeen)
    → IsUnwritten old.store store
    → AreDone tells [] old (with_input (with_store old store) input)
none_done tells old store input same = record {
  files = same.files;
  out = λ told. sym (append-nil old.out.written);
  err = λ told. sym (append-nil old.err.written);
  answered = sym (append-nil old.link.answers);
  started = refl;
  writes = writes_for-same [] old.store.writes store.writes same.writes;
}

-- no act, and a refusal
pub refused_steps : {done : Bool} (name : List ℕ) (steps : Steps) (tells : RunTells) (old : RunSeen) (store : StoreSeen)
    (refusal : Refusal) → OnlyReads done name old.store store
    → ((new : Outside) → new ≡ outside_of old → EndsBy steps (outside_of old) [] new (Some refusal))
    → HasSteps steps tells (Some refusal) old (with_store old store)
refused_steps name steps tells old store refusal reads by = record {
  acts = [];
  by_steps = by (outside_of (with_store old store)) (outside_same old store reads.files);
  done = none_done tells old store old.input (unwritten name old.store store reads);
}

-- nothing faded while the store was used
pub store_later : (old : RunSeen) (store : StoreSeen) → old.store.faults ≤ store.faults
    → IsLater old (with_store old store)
store_later old store later =
    record { store = later; input = omega arith; out = omega arith; err = omega arith; link = omega arith }

-- neither that a file is not opened nor that a call on an opened one is refused says that an output failed
pub opening_no_output : (fault : OpenFault) → Some (opening_cause fault) ≢ Some SinkFault
opening_no_output Store is = cc
opening_no_output NoFile is = cc
opening_no_output _ is = cc

pub file_no_output : (fault : FileFault) → Some (file_cause fault) ≢ Some SinkFault
file_no_output CallFailed is = cc
file_no_output (FileDamaged damage) is = cc
file_no_output (NoBlocks blocks limit) is = cc
file_no_output NoMemory is = cc

-- a command was refused where nothing was written
pub refused_so : (steps : Steps) (uses : Uses) (may : Cause → List ℕ → Type 0) (tells : RunTells) (old new : RunSeen)
    (refusal : Refusal)
    → IsUnwritten old.store new.store → new.err ≡ old.err → IsLater old new
    → (IsWorldTold tells → IsDoneInPart steps tells (Some refusal.cause) old new)
    → HasReason uses old new (IsWorldTold tells → HasSteps steps tells (Some refusal) old new) refusal.cause
    → may refusal.cause refusal.name → IsPlacedBy uses refusal
    → CarriesOut steps uses may tells old new (Err refusal)
refused_so steps uses may tells old new refusal same quiet later part reason allowed placed = record {
  done = tt;
  refused = reason;
  part = part;
  may_refuse = allowed;
  placed = placed;
  only_reads = λ only. same;
  all_or_nothing = λ whole other. same;
  quiet = λ no. quiet;
  later = later;
}

-- a command was refused where the store was only read
pub refused_reads : {done : Bool} (name : List ℕ) (steps : Steps) (uses : Uses) (may : Cause → List ℕ → Type 0)
    (tells : RunTells)
    (old : RunSeen) (store : StoreSeen) (refusal : Refusal) → Some refusal.cause ≢ Some SinkFault
    → OnlyReads done name old.store store
    → HasReason uses old (with_store old store)
    (IsWorldTold tells → HasSteps steps tells (Some refusal) old (with_store old store))
    refusal.cause → may refusal.cause refusal.name → IsPlacedBy uses refusal
    → CarriesOut steps uses may tells old (with_store old store) (Err refusal)
refused_reads name steps uses may tells old store refusal other reads reason allowed placed =
    refused_so steps uses may tells old (with_store old store) refusal (unwritten name old.store store reads) refl
    (store_later old store reads.later)
    (λ told. nothing_read steps name tells old store other reads) reason allowed placed

-- a refusal that is seen of the file
seen_steps : {done : Bool} (name : List ℕ) (kind : Kind) (asked : Asked) (next : QuotaValue → Steps) (tells : RunTells)
    (old : RunSeen) (store : StoreSeen) (fault : OpenFault)
    → OnlyReads done name old.store store
    → IsOpenFault old.store.faults store.faults tells.store (old.store.files name) kind asked fault
    → (IsOfCall fault → ⊥) → IsWorldTold tells
    → HasSteps (Opening kind asked name next) tells (Some (refusal_of (opening_cause fault) name)) old
    (with_store old store)
seen_steps name kind asked next tells old store fault reads cause own told =
    refused_steps name (Opening kind asked name next) tells old store _ reads
    (λ new same. inr (
      fault,
      fault_seen _ _ _ _ kind asked fault cause told.store own,
      record { acts_none = refl; same = same; ends = refl },
    ))

-- the reason for which a file was not opened
open_reason : {done : Bool} (uses : Uses) (name : List ℕ) (kind : Kind) (asked : Asked) (next : QuotaValue → Steps)
    (tells : RunTells) (old : RunSeen) (store : StoreSeen) (fault : OpenFault)
    → OnlyReads done name old.store store
    → IsOpenFault old.store.faults store.faults tells.store (old.store.files name) kind asked fault
    → HasReason uses old (with_store old store)
    (IsWorldTold tells
    → HasSteps (Opening kind asked name next) tells (Some (refusal_of (opening_cause fault) name)) old
    (with_store old store)) (opening_cause fault)
open_reason uses name kind asked next tells old store Store reads cause = store_rose _ _ _ _ kind asked cause
open_reason uses name kind asked next tells old store Memory reads cause = tt
open_reason uses name kind asked next tells old store fault reads cause =
    seen_steps name kind asked next tells old store fault reads cause (λ own. own)

-- what is said where opening is refused may be said of a file of its format
as_may : (name : List ℕ) (asked : Asked) (fault : OpenFault) → IsFaultAs asked fault
    → MayRefuseOpening asked name (opening_cause fault) name
as_may name asked Store is = tt
as_may name asked NoFile is = refl
as_may name asked (TooLarge number limit) is = refl
as_may name asked Memory is = tt
as_may name asked (FormatMismatch found) is = (is.0, is.1, refl)
as_may name asked (Damage damage) is = (is, refl)
as_may name asked _ is = (is, refl)

-- A command that opens a file was carried out where that file was not opened.
pub not_opened : {done : Bool} (kind : Kind) (asked : Asked) (name : List ℕ) (next : QuotaValue → Steps) (uses : Uses)
    (may : Cause → List ℕ → Type 0) (tells : RunTells) (old : RunSeen) (store : StoreSeen) (fault : OpenFault)
    → IsOpenFault old.store.faults store.faults tells.store (old.store.files name) kind asked fault
    → OnlyReads done name old.store store
    → ((cause : Cause) → MayRefuseOpening asked name cause name → may cause name)
    → CarriesOut (Opening kind asked name next) uses may tells old (with_store old store)
    (Err (refusal_of (opening_cause fault) name))
not_opened kind asked name next uses may tells old store fault cause reads allowed =
    refused_reads name (Opening kind asked name next) uses may tells old store (refusal_of (opening_cause fault) name)
    (opening_no_output fault) reads
    (open_reason uses name kind asked next tells old store fault reads cause)
    (allowed (opening_cause fault)
    (as_may name asked fault
    (open_as old.store.faults store.faults tells.store (old.store.files name) kind asked fault cause)))
    (record { line = λ no. refl; input_line = λ no. refl })
