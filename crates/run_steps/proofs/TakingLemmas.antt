-- Steps that read an input: what was carried out where it was refused, and where it was read and the next steps were
-- carried out.
use Rattle.std.proofs.Common.{◌≡◌, ◌≢◌, ℕ, ◌≤◌, Bool, false, IsTrue, List, [], Option, None, Some, Err, Result, refl}
use Rattle.std.proofs.Common.{sym, ap, subst, arith}
use Rattle.std.specs.Prelude.{IsSome}
use Rattle.outside.specs.Behind.{IsBehind}
use Rattle.outside.specs.Count.{Rose}
use Rattle.outside.specs.Frame.{OnlyReads}
use Rattle.outside.specs.Seen.{SourceSeen, StoreSeen}
use Rattle.refusals.specs.declared.cause.Cause.{Cause}
use Rattle.refusals.specs.declared.cause.Cause.TheVariants.{StoreFault, SourceFault, SinkFault, LinkFault, Memory}
use Rattle.refusals.specs.declared.reason.Refusal.{Refusal}
use Rattle.refusals.specs.Outcome.{Outcome, Passed, Refused}
use Rattle.run_steps.specs.Done.{IsWorldTold, Outside, RunSeen, RunTells, outside_of}
use Rattle.run_steps.specs.Meaning.{IsTaken}
use Rattle.run_steps.specs.Run.{HasReason, HasSteps, IsPlacedBy, Uses}
use Rattle.run_steps.specs.Carrying.{CarriesOut}
use Rattle.run_steps.specs.Steps.{Steps, Then}
use Rattle.run_steps.specs.Taking.{InputKind, InputMayRefuse, Taking, file_said, input_said, reading, reads_whole}
use Rattle.run_steps.specs.Causes.{IsInputFault}
use Rattle.run_steps.proofs.OpeningLemmas.{none_done, refused_so, unwritten, with_input, with_store}
use Rattle.run_steps.proofs.PartLemmas.{nothing_begun}
use Rattle.run_steps.proofs.PhaseLemmas.{LeadsTo, carries_since, leads_looking, leads_reading, leads_same}
use Rattle.run_steps.proofs.PhaseLemmas.{outside_taken}

-- What was taken.

-- where the input is a file nothing was taken from the standard input, and otherwise this much of it, all where the
-- whole is read
abbrev pub HasTaken : Option (List ℕ) → (whole : Bool) → (old left : List ℕ) → Type 0
HasTaken None whole old left = IsTaken whole old left
HasTaken (Some name) whole old left = left ≡ old

pub has_taken : (from : Option (List ℕ)) (whole : Bool) (old left : List ℕ) → IsBehind old left
    → (IsTrue whole → from ≡ None → left ≡ []) → (IsSome from → left ≡ old) → HasTaken from whole old left
has_taken None whole old left behind ended same =
    record { taken = behind.0; behind = behind.1; all = λ all. ended all refl }
has_taken (Some name) whole old left behind ended same = same refl

-- An input that says so leads to what comes next.

-- the input with what is left of it
abbrev left_of : Outside → List ℕ → Outside
left_of from left = record from { input = left }

pub leads_taking : {V : Type 0} (from : Option (List ℕ)) (is_whole : V → Bool) (read : List ℕ → Outcome V)
    (next : V → Steps) (outcome : Outcome V) (old : Outside) (left : List ℕ)
    → input_said from read old.files old.input ≡ outcome → HasTaken from (reads_whole is_whole outcome) old.input left
    → LeadsTo (Then outcome next) (left_of old left) (Taking from is_whole read next) old
leads_taking None is_whole read next outcome old left said taken =
    let leads = leads_reading (λ bytes. reads_whole is_whole (read bytes)) (λ bytes. Then (read bytes) next) old left
    (subst (λ (o : Outcome _). IsTaken (reads_whole is_whole o) old.input left) (sym said) taken) in
    let same = leads_same (Then outcome next) (Then (read old.input) next) (left_of old left)
    (ap (λ (o : Outcome _). Then o next) (sym said)) in
    record {
      ends = λ acts to ended by. leads.ends acts to ended (same.ends acts to ended by);
      begun = λ done hand now by. leads.begun done hand now (same.begun done hand now by);
    }
leads_taking (Some name) is_whole read next outcome old left said same =
    subst
    (λ (l : List ℕ). LeadsTo (Then outcome next) (left_of old l) (Taking (Some name) is_whole read next) old) (sym same)
    (leads_looking (Then outcome next) (λ files. Then (file_said name read (files name)) next) old
    (ap (λ (o : Outcome _). Then o next) (sym said)))

-- the input was read, where the store was only read meanwhile, and the next steps were carried out
pub carries_taking : {done : Bool} {V : Type 0} (name : List ℕ) (from : Option (List ℕ)) (is_whole : V → Bool)
    (read : List ℕ → Outcome V) (next : V → Steps) (value : V) (uses : Uses) (may more : Cause → List ℕ → Type 0)
    (tells : RunTells)
    (old : RunSeen) (store : StoreSeen) (input : SourceSeen) (new : RunSeen) (result : Result (Unit {0}) Refusal)
    → OnlyReads done name old.store store → old.input.faults ≤ input.faults
    → (IsWorldTold tells → input_said from read old.store.files old.input.left ≡ Passed value)
    → (IsWorldTold tells → HasTaken from (is_whole value) old.input.left input.left)
    → ((cause : Cause) (said : List ℕ) → may cause said → more cause said)
    → CarriesOut (next value) uses may tells (with_input (with_store old store) input) new result
    → CarriesOut (Taking from is_whole read next) (reading from uses) more tells old new result
carries_taking name from is_whole read next value uses may more tells old store input new result reads le said taken
    allows carries =
    carries_since name (next value) (Taking from is_whole read next) uses (reading from uses).input may more tells old
    store input new result reads le
    (λ told. leads_taking from is_whole read next (Passed value) (outside_of old) input.left (said told) (taken told))
    allows carries

-- The input was not read.

refused_taking : {done : Bool} {V : Type 0} (name : List ℕ) (from : Option (List ℕ)) (is_whole : V → Bool)
    (read : List ℕ → Outcome V) (next : V → Steps) (tells : RunTells) (old : RunSeen) (store : StoreSeen)
    (input : SourceSeen) (refusal : Refusal)
    → OnlyReads done name old.store store → input_said from read old.store.files old.input.left ≡ Refused refusal
    → HasTaken from false old.input.left input.left
    → HasSteps (Taking from is_whole read next) tells (Some refusal) old (with_input (with_store old store) input)
refused_taking name from is_whole read next tells old store input refusal reads said taken = record {
  acts = [];
  by_steps =
      (leads_taking from is_whole read next (Refused refusal) (outside_of old) input.left said taken).ends []
      (outside_of (with_input (with_store old store) input)) (Some refusal)
      (record { acts_none = refl; same = outside_taken old store input reads.files; ends = refl });
  done = none_done tells old store input (unwritten name old.store store reads);
}

-- why the input was not read
input_reason : (uses : Uses) (what : InputKind) (from : Option (List ℕ)) {V : Type 0} (tells : RunTells) (old : RunSeen)
    (store : StoreSeen) (input : SourceSeen) (said : Outcome V) (refusal : Refusal) (stated : Type 0)
    (cause : Cause) (name : List ℕ)
    → IsInputFault (Rose old.store.faults store.faults) (Rose old.input.faults input.faults) (IsWorldTold tells) said
    refusal cause → InputMayRefuse what from cause name
    → (IsWorldTold tells → said ≡ Refused refusal → stated)
    → HasReason uses old (with_input (with_store old store) input) (IsWorldTold tells → stated) cause
input_reason uses what from tells old store input said refusal stated StoreFault name fault may so = fault
input_reason uses what from tells old store input said refusal stated SourceFault name fault may so = fault
input_reason uses what from tells old store input said refusal stated SinkFault name fault may so = absurd may
input_reason uses what from tells old store input said refusal stated LinkFault name fault may so = absurd may
input_reason uses what from tells old store input said refusal stated Memory name fault may so = tt
input_reason uses what from tells old store input said refusal stated _ name fault may so = λ told. so told (fault told)

-- no output failed for it
input_no_output : (what : InputKind) (from : Option (List ℕ)) (cause : Cause) (name : List ℕ)
    → InputMayRefuse what from cause name → Some cause ≢ Some SinkFault
input_no_output what from cause name may is =
    let sink : cause ≡ SinkFault = cc in
    subst (λ (c : Cause). InputMayRefuse what from c name) sink may

-- the input was not read
pub input_refused : {done : Bool} {V : Type 0} (name : List ℕ) (what : InputKind) (from : Option (List ℕ))
    (is_whole : V → Bool) (read : List ℕ → Outcome V) (next : V → Steps) (uses : Uses) (more : Cause → List ℕ → Type 0)
    (tells : RunTells)
    (old : RunSeen) (store : StoreSeen) (input : SourceSeen) (refusal : Refusal)
    → OnlyReads done name old.store store → old.input.faults ≤ input.faults
    → IsInputFault (Rose old.store.faults store.faults) (Rose old.input.faults input.faults) (IsWorldTold tells)
    (input_said from read old.store.files old.input.left) refusal refusal.cause
    → (IsWorldTold tells → HasTaken from false old.input.left input.left)
    → InputMayRefuse what from refusal.cause refusal.name → more refusal.cause refusal.name → IsPlacedBy uses refusal
    → CarriesOut (Taking from is_whole read next) uses more tells old
    (with_input (with_store old store) input) (Err refusal)
input_refused name what from is_whole read next uses more tells old store input refusal reads le fault taken may
    allowed placed =
    let steps = Taking from is_whole read next in
    let new = with_input (with_store old store) input in
    refused_so steps uses more tells old new refusal (unwritten name old.store store reads) refl
    (record { store = reads.later; input = le; out = omega arith; err = omega arith; link = omega arith })
    (λ told. nothing_begun steps tells old new (input_no_output what from refusal.cause refusal.name may) reads.files
    (λ out. refl) (λ err. refl) refl refl refl reads.writes)
    (input_reason uses what from tells old store input (input_said from read old.store.files old.input.left)
    refusal _ refusal.cause
    refusal.name fault may
    (λ told is. refused_taking name from is_whole read next tells old store input refusal reads is (taken told)))
    allowed placed

-- a reason is one where more is known of the counts and less is told
pub fault_more : {V : Type 0} (sr sr' ir ir' told told' : Type 0) (said : Outcome V) (refusal : Refusal) (cause : Cause)
    → (sr → sr') → (ir → ir') → (told' → told)
    → IsInputFault sr ir told said refusal cause → IsInputFault sr' ir' told' said refusal cause
fault_more sr sr' ir ir' told told' said refusal StoreFault store input back fault = store fault
fault_more sr sr' ir ir' told told' said refusal SourceFault store input back fault = input fault
fault_more sr sr' ir ir' told told' said refusal Memory store input back fault = tt
fault_more sr sr' ir ir' told told' said refusal _ store input back fault = λ is. fault (back is)
