-- Commands in phases: what was carried out where a phase was refused, and where it passed and the next one was carried
-- out.
use Rattle.std.proofs.Common.{◌≡◌, ◌≢◌, ℕ, ◌≤◌, Bool, true, false, IsTrue, List, [], Option, None, Some, Ok, Err}
use Rattle.std.proofs.Common.{Result, inl, inr, refl, sym, ap, subst, ◌∙◌, arith}
use Rattle.std.specs.Prelude.{unwrap_or}
use Rattle.std.specs.FinMap.{empty}
use Rattle.std.proofs.lemmas.Bool.{false≢true}
use Rattle.std.proofs.lemmas.Result.{IfErr-weaker, on_ok_weaker}
use Rattle.quota_types.specs.declared.file_kind.Kind.{Kind}
use Rattle.quota_types.specs.declared.file_kind.Kind.TheVariants.{User}
use Rattle.quota_types.specs.declared.file_kind.Format.TheVariants.{V1}
use Rattle.outside.specs.Frame.{OnlyReads}
use Rattle.quota_value.specs.QuotaValue.{QuotaValue}
use Rattle.outside.specs.Seen.{SourceSeen, StoreSeen}
use Rattle.quota_map.specs.Asked.{Asked}
use Rattle.quota_map.specs.View.{IsView}
use Rattle.outside.specs.World.{World}
use Rattle.id_names.specs.NamesFile.{NameLine}
use Rattle.refusals.specs.declared.cause.Cause.{Cause}
use Rattle.refusals.specs.declared.cause.Cause.TheVariants.{StoreFault, SourceFault, SinkFault, LinkFault, Memory}
use Rattle.refusals.specs.declared.reason.Place.{Place}
use Rattle.refusals.specs.declared.reason.Refusal.{Refusal}
use Rattle.refusals.specs.Outcome.{Outcome, Passed, Refused}
use Rattle.refusals.specs.Refusals.{nowhere}
use Rattle.run_steps.specs.Act.{Act, Follows}
use Rattle.run_steps.specs.Done.{IsUnwritten, IsWorldTold, Outside, RunSeen, RunTells, outside_of}
use Rattle.run_steps.specs.Meaning.{EndsBy, HasBegun, IsTaken}
use Rattle.run_steps.specs.Naming.{FileOfNamesMayRefuse, NamesMayRefuse, names_seen}
use Rattle.run_steps.specs.Causes.{IsNamesFault}
use Rattle.run_steps.specs.Run.{HasReason, HasSteps, IsDoneInPart, IsPlacedBy, Uses}
use Rattle.run_steps.specs.Carrying.{CarriesOut}
use Rattle.run_steps.specs.Steps.{Steps, Looking, Naming, Opening, Reading, Stop, Then}
use Rattle.run_steps.specs.Writes.{WritesFor}
use Rattle.outside.proofs.FrameLemmas.{only_reads-none}
use Rattle.run_steps.proofs.OpeningLemmas.{outside_same, refused_reads, refused_steps, with_input, with_store}
use Rattle.run_steps.proofs.PartLemmas.{part_from}
use Rattle.run_steps.proofs.ReasonLemmas.{reason_since}

-- Commands that were refused before anything was done.

-- lack of memory does not say that an output failed
pub memory_no_output : Some Memory ≢ Some SinkFault
memory_no_output is = cc

-- nothing was begun, and the command was refused
pub nothing_carried : (steps : Steps) (uses : Uses) (may : Cause → List ℕ → Type 0) (tells : RunTells) (old : RunSeen)
    (refusal : Refusal) → Some refusal.cause ≢ Some SinkFault
    → HasReason uses old old (IsWorldTold tells → HasSteps steps tells (Some refusal) old old) refusal.cause
    → may refusal.cause refusal.name → IsPlacedBy uses refusal → CarriesOut steps uses may tells old old (Err refusal)
nothing_carried steps uses may tells old refusal other reason allowed outside =
    refused_reads [] steps uses may tells old old.store refusal other (only_reads-none {done = true} [] old.store)
    reason allowed outside

-- a step that is refused at once
stop_steps : (tells : RunTells) (old : RunSeen) (refusal : Refusal)
    → HasSteps (Stop refusal) tells (Some refusal) old old
stop_steps tells old refusal =
    refused_steps [] (Stop refusal) tells old old.store refusal (only_reads-none {done = true} [] old.store)
    (λ new same. record { acts_none = refl; same = same; ends = refl })

-- a refusal of words is no fault
pub stop_carried : (uses : Uses) (may : Cause → List ℕ → Type 0) (tells : RunTells) (old : RunSeen) (refusal : Refusal)
    → Some refusal.cause ≢ Some SinkFault
    → ((stated : Type 0) → stated → HasReason uses old old stated refusal.cause) → may refusal.cause refusal.name
    → IsPlacedBy uses refusal → CarriesOut (Stop refusal) uses may tells old old (Err refusal)
stop_carried uses may tells old refusal other own allowed outside =
    nothing_carried (Stop refusal) uses may tells old refusal other
    (own _ (λ told. stop_steps tells old refusal)) allowed outside

-- Phases that pass: they only read the store, or take bytes from the input.

-- what the next steps do from one place is what the steps do from another
pub record LeadsTo (next : Steps) (start : Outside) (steps : Steps) (from : Outside) : Type 0 where
  pub ends : (acts : List Act) (to : Outside) (ended : Option Refusal) → EndsBy next start acts to ended
      → EndsBy steps from acts to ended
  pub begun : (done hand : List Act) (now : Outside) → HasBegun next start done hand now
      → HasBegun steps from done hand now

-- steps lead to the same ones
pub leads_same : (next steps : Steps) (from : Outside) → next ≡ steps → LeadsTo next from steps from
leads_same next steps from same = record {
  ends = λ acts to ended by. subst (λ (s : Steps). EndsBy s from acts to ended) same by;
  begun = λ done hand now by. subst (λ (s : Steps). HasBegun s from done hand now) same by;
}

-- a look at the files leads to the steps that it gives
pub leads_looking : (next : Steps) (looked : World → Steps) (from : Outside) → next ≡ looked from.files
    → LeadsTo next from (Looking looked) from
leads_looking next looked from same =
    let leads = leads_same next (looked from.files) from same in record { ends = leads.ends; begun = leads.begun }

-- a file that is seen as a value leads to the steps of that value
pub leads_opening : (kind : Kind) (asked : Asked) (name : List ℕ) (next : QuotaValue → Steps) (value : QuotaValue)
    (from : Outside) → IsView (from.files name) kind asked (Ok value)
    → LeadsTo (next value) from (Opening kind asked name next) from
leads_opening kind asked name next value from view = record {
  ends = λ acts to ended by. inl (value, view, by);
  begun = λ done hand now by. inr (value, view, by);
}

-- bytes that are taken lead to the steps of the input
pub leads_reading : (whole : List ℕ → Bool) (next : List ℕ → Steps) (from : Outside) (left : List ℕ)
    → IsTaken (whole from.input) from.input left
    → LeadsTo (next from.input) (record from { input = left }) (Reading whole next) from
leads_reading whole next from left taken = record {
  ends = λ acts to ended by. (left, taken, by);
  begun = λ done hand now by. inr (left, taken, by);
}

-- what is met outside once bytes were taken
pub outside_taken : (old : RunSeen) (store : StoreSeen) (input : SourceSeen) → store.files ≡ old.store.files
    → outside_of (with_input (with_store old store) input) ≡ record (outside_of old) { input = input.left }
outside_taken old store input same = outside_same (with_input old input) store same

-- the next steps were done, and so were the steps
steps_on : {done : Bool} (name : List ℕ) (next steps : Steps) (tells : RunTells) (refusal : Option Refusal)
    (old : RunSeen) (store : StoreSeen) (input : SourceSeen) (new : RunSeen) → OnlyReads done name old.store store
    → LeadsTo next (record (outside_of old) { input = input.left }) steps (outside_of old)
    → HasSteps next tells refusal (with_input (with_store old store) input) new → HasSteps steps tells refusal old new
steps_on name next steps tells refusal old store input new reads leads has = record {
  acts = has.acts;
  by_steps = leads.ends has.acts (outside_of new) refusal
      (subst (λ (o : Outside). EndsBy next o has.acts (outside_of new) refusal)
      (outside_taken old store input reads.files) has.by_steps);
  done = record {
    files = subst (λ (w : World). Follows has.acts w new.store.files) reads.files has.done.files;
    out = has.done.out;
    err = has.done.err;
    answered = has.done.answered;
    started = has.done.started;
    writes = subst (λ (w : ℕ). WritesFor has.acts w new.store.writes) reads.writes has.done.writes;
  };
}

-- they were done in part
part_on : {done : Bool} {why : Option Cause} (name : List ℕ) (next steps : Steps) (tells : RunTells) (old : RunSeen)
    (store : StoreSeen) (input : SourceSeen) (new : RunSeen) → OnlyReads done name old.store store
    → LeadsTo next (record (outside_of old) { input = input.left }) steps (outside_of old)
    → IsDoneInPart next tells why (with_input (with_store old store) input) new → IsDoneInPart steps tells why old new
part_on name next steps tells old store input new reads leads part =
    part_from next steps tells old store input new reads.writes
    (λ done hand now by. leads.begun done hand now (subst (λ (o : Outside). HasBegun next o done hand now)
    (outside_taken old store input reads.files) by)) part

unwritten_on : {done : Bool} (name : List ℕ) (old store new : StoreSeen) → OnlyReads done name old store
    → IsUnwritten store new → IsUnwritten old new
unwritten_on name old store new reads same =
    record { files = same.files ∙ reads.files; writes = same.writes ∙ reads.writes }

-- A phase passed, and what came next was carried out. The command uses the input besides where the phase does.
pub carries_since : {done : Bool} (name : List ℕ) (next steps : Steps) (uses : Uses) (takes : Bool)
    (may more : Cause → List ℕ → Type 0) (tells : RunTells) (old : RunSeen) (store : StoreSeen)
    (input : SourceSeen) (new : RunSeen)
    (result : Result (Unit {0}) Refusal)
    → OnlyReads done name old.store store → old.input.faults ≤ input.faults
    → (IsWorldTold tells → LeadsTo next (record (outside_of old) { input = input.left }) steps (outside_of old))
    → ((cause : Cause) (said : List ℕ) → may cause said → more cause said)
    → CarriesOut next uses may tells (with_input (with_store old store) input) new result
    → CarriesOut steps (record uses { input = takes }) more tells old new result
carries_since name next steps uses takes may more tells old store input new result reads le leads allows carries =
    record {
      done = on_ok_weaker result
          (λ has told. steps_on name next steps tells None old store input new reads (leads told) (has told))
          carries.done;
      refused =
          IfErr-weaker result _ _
          (λ refusal reason. reason_since uses old new store input _ _ refusal.cause reads.later le
          (λ stated told. steps_on name next steps tells (Some refusal) old store input new reads (leads told)
          (stated told)) reason) carries.refused;
      part = λ told. part_on name next steps tells old store input new reads (leads told) (carries.part told);
      may_refuse = IfErr-weaker result _ _ (λ refusal may. allows refusal.cause refusal.name may) carries.may_refuse;
      placed = carries.placed;
      only_reads = λ only. unwritten_on name old.store store new.store reads (carries.only_reads only);
      all_or_nothing = λ whole. IfErr-weaker result _ _
          (λ refusal unless other. unwritten_on name old.store store new.store reads (unless other))
          (carries.all_or_nothing whole);
      quiet = carries.quiet;
      later = record {
        store = omega (arith, reads.later, carries.later.store);
        input = omega (arith, le, carries.later.input);
        out = carries.later.out;
        err = carries.later.err;
        link = carries.later.link;
      };
    }

-- a phase only read the store and passed
pub carries_on : {done : Bool} (name : List ℕ) (next steps : Steps) (uses : Uses) (may more : Cause → List ℕ → Type 0)
    (tells : RunTells) (old : RunSeen) (store : StoreSeen) (new : RunSeen) (result : Result (Unit {0}) Refusal)
    → OnlyReads done name old.store store → (IsWorldTold tells → LeadsTo next (outside_of old) steps (outside_of old))
    → ((cause : Cause) (said : List ℕ) → may cause said → more cause said)
    → CarriesOut next uses may tells (with_store old store) new result → CarriesOut steps uses more tells old new result
carries_on name next steps uses may more tells old store new result reads leads allows carries =
    carries_since name next steps uses uses.input may more tells old store old.input new result reads (omega arith)
    leads allows carries

-- the names were read, and what came next was carried out
pub carries_naming : {done : Bool} (name : List ℕ) (kind : Kind) (names : Option (List ℕ)) (lines : List NameLine)
    (next : List NameLine → Steps) (uses : Uses) (may more : Cause → List ℕ → Type 0) (tells : RunTells)
    (old : RunSeen) (store : StoreSeen) (new : RunSeen) (result : Result (Unit {0}) Refusal)
    → OnlyReads done name old.store store → (IsTrue tells.store → names_seen kind names old.store.files ≡ Passed lines)
    → ((cause : Cause) (said : List ℕ) → may cause said → more cause said)
    → CarriesOut (next lines) uses may tells (with_store old store) new result
    → CarriesOut (Naming kind names next) uses more tells old new result
carries_naming name kind names lines next uses may more tells old store new result reads seen allows carries =
    carries_on name (next lines) (Naming kind names next) uses may more tells old store new result reads
    (λ told. leads_looking (next lines) _ (outside_of old)
    (ap (λ (o : Outcome (List NameLine)). Then o next) (sym (seen told.store)))) allows carries

-- a step that was refused, once the store was only read
pub refused_reading : {done : Bool} {V : Type 0} (name : List ℕ) (outcome : Outcome V) (next : V → Steps)
    (steps : Steps) (tells : RunTells) (old : RunSeen) (store : StoreSeen) (refusal : Refusal)
    → OnlyReads done name old.store store
    → LeadsTo (Then outcome next) (outside_of old) steps (outside_of old) → outcome ≡ Refused refusal
    → HasSteps steps tells (Some refusal) old (with_store old store)
refused_reading name outcome next steps tells old store refusal reads leads is =
    refused_steps name steps tells old store refusal reads (λ new same. leads.ends [] new (Some refusal)
    (subst (λ (o : Outcome _). EndsBy (Then o next) (outside_of old) [] new (Some refusal)) (sym is) (record {
      acts_none = refl;
      same = same;
      ends = refl;
    })))

-- why the names were not read
names_reason : (uses : Uses) (file : List ℕ) (tells : RunTells) (old : RunSeen) (store : StoreSeen)
    (seen : Outcome (List NameLine)) (refusal : Refusal) (stated : Type 0) (cause : Cause) (said : List ℕ)
    → IsNamesFault old.store.faults store.faults tells.store seen refusal cause → FileOfNamesMayRefuse file cause said
    → (IsTrue tells.store → seen ≡ Refused refusal → stated)
    → HasReason uses old (with_store old store) (IsWorldTold tells → stated) cause
names_reason uses file tells old store seen refusal stated StoreFault said fault may so = fault
names_reason uses file tells old store seen refusal stated SourceFault said fault may so = absurd may
names_reason uses file tells old store seen refusal stated SinkFault said fault may so = absurd may
names_reason uses file tells old store seen refusal stated LinkFault said fault may so = absurd may
names_reason uses file tells old store seen refusal stated Memory said fault may so = tt
names_reason uses file tells old store seen refusal stated _ said fault may so =
    λ told. so told.store (fault told.store)

-- no output failed for it
names_no_output : (file : List ℕ) (cause : Cause) (said : List ℕ) → FileOfNamesMayRefuse file cause said
    → Some cause ≢ Some SinkFault
names_no_output file cause said may is =
    let sink : cause ≡ SinkFault = cc in
    subst (λ (c : Cause). FileOfNamesMayRefuse file c said) sink may

-- the file of names was refused
names_refused : {done : Bool} (kind : Kind) (file : List ℕ) (next : List NameLine → Steps) (uses : Uses)
    (more : Cause → List ℕ → Type 0) (tells : RunTells) (old : RunSeen) (store : StoreSeen) (refusal : Refusal)
    → OnlyReads done file old.store store
    → IsNamesFault old.store.faults store.faults tells.store (names_seen kind (Some file) old.store.files)
    refusal refusal.cause
    → FileOfNamesMayRefuse file refusal.cause refusal.name → more refusal.cause refusal.name → IsPlacedBy uses refusal
    → CarriesOut (Naming kind (Some file) next) uses more tells old (with_store old store) (Err refusal)
names_refused kind file next uses more tells old store refusal reads fault may allowed placed =
    refused_reads file (Naming kind (Some file) next) uses more tells old store refusal
    (names_no_output file refusal.cause refusal.name may) reads
    (names_reason uses file tells old store (names_seen kind (Some file) old.store.files) refusal _ refusal.cause
    refusal.name fault may
    (λ told is. refused_reading file (names_seen kind (Some file) old.store.files) next
    (Naming kind (Some file) next) tells old store
    refusal reads
    (leads_looking (Then (names_seen kind (Some file) old.store.files) next) _ (outside_of old) refl) is))
    allowed placed

-- a refusal that stands nowhere is placed by any command
pub placed_nowhere : (uses : Uses) (refusal : Refusal) → refusal.place ≡ nowhere → IsPlacedBy uses refusal
placed_nowhere uses refusal is =
    record { line = λ no. ap (λ (p : Place). p.line) is; input_line = λ no. ap (λ (p : Place). p.input_line) is }

-- the names were not read
pub naming_refused : {done : Bool} (kind : Kind) (names : Option (List ℕ)) (next : List NameLine → Steps) (uses : Uses)
    (more : Cause → List ℕ → Type 0) (tells : RunTells) (old : RunSeen) (store : StoreSeen) (refusal : Refusal)
    → OnlyReads done (unwrap_or names []) old.store store
    → IsNamesFault old.store.faults store.faults tells.store (names_seen kind names old.store.files)
    refusal refusal.cause
    → NamesMayRefuse names refusal.cause refusal.name
    → (NamesMayRefuse names refusal.cause refusal.name → more refusal.cause refusal.name) → refusal.place ≡ nowhere
    → CarriesOut (Naming kind names next) uses more tells old (with_store old store) (Err refusal)
naming_refused kind None next uses more tells old store refusal reads fault may allows placed = absurd may
naming_refused kind (Some file) next uses more tells old store refusal reads fault may allows placed =
    names_refused kind file next uses more tells old store refusal reads fault may (allows may)
    (placed_nowhere uses refusal placed)

-- Phases that open a file.

-- a value, for where none is seen
nothing_value : QuotaValue
nothing_value = record { kind = User; format = V1; grace = record { block = 0; inode = 0 }; flags = 0; records = empty }

-- a value that is seen where the store tells
some_value : (tells : Bool) (sees : QuotaValue → Type 0) → (IsTrue tells → (value : QuotaValue) × sees value)
    → (value : QuotaValue) × (IsTrue tells → sees value)
some_value true sees seen = let one = seen refl in (one.0, λ told. one.1)
some_value false sees seen = (nothing_value, λ told. absurd (false≢true told))

-- a file was opened, and the next steps were carried out over each value that may be seen of it
pub carries_opening : {done : Bool} (name : List ℕ) (kind : Kind) (asked : Asked) (next : QuotaValue → Steps)
    (uses : Uses) (may more : Cause → List ℕ → Type 0) (tells : RunTells) (old : RunSeen) (store : StoreSeen)
    (new : RunSeen) (result : Result (Unit {0}) Refusal)
    → OnlyReads done name old.store store
    → (IsTrue tells.store → (value : QuotaValue) × IsView (old.store.files name) kind asked (Ok value))
    → ((cause : Cause) (said : List ℕ) → may cause said → more cause said)
    → ((value : QuotaValue) → (IsTrue tells.store → IsView (old.store.files name) kind asked (Ok value))
    → CarriesOut (next value) uses may tells (with_store old store) new result)
    → CarriesOut (Opening kind asked name next) uses more tells old new result
carries_opening name kind asked next uses may more tells old store new result reads seen allows each =
    let some =
    some_value tells.store (λ (value : QuotaValue). IsView (old.store.files name) kind asked (Ok value)) seen in
    carries_on name (next some.0) (Opening kind asked name next) uses may more tells old store new result reads
    (λ told. leads_opening kind asked name next some.0 (outside_of old) (some.1 told.store)) allows (each some.0 some.1)

-- what a command may be refused for, where another one may be
pub carries_more : (steps : Steps) (uses : Uses) (may more : Cause → List ℕ → Type 0) (tells : RunTells)
    (old new : RunSeen) (result : Result (Unit {0}) Refusal)
    → ((cause : Cause) (name : List ℕ) → may cause name → more cause name)
    → CarriesOut steps uses may tells old new result → CarriesOut steps uses more tells old new result
carries_more steps uses may more tells old new result allows carries =
    carries_on [] steps steps uses may more tells old old.store new result (only_reads-none {done = true} [] old.store)
    (λ told. leads_same steps steps (outside_of old) refl) allows carries

-- the same steps were carried out
pub carries_as : (steps other : Steps) (uses : Uses) (may : Cause → List ℕ → Type 0)
    (tells : RunTells) (old new : RunSeen) (result : Result (Unit {0}) Refusal) → steps ≡ other
    → CarriesOut steps uses may tells old new result → CarriesOut other uses may tells old new result
carries_as steps other uses may tells old new result same carries =
    subst (λ (s : Steps). CarriesOut s uses may tells old new result) same carries

-- a step passed with this value, and what came next was carried out
pub carries_then : {V : Type 0} (outcome : Outcome V) (value : V) (next : V → Steps) (uses : Uses)
    (may more : Cause → List ℕ → Type 0)
    (tells : RunTells) (old new : RunSeen) (result : Result (Unit {0}) Refusal)
    → outcome ≡ Passed value → ((cause : Cause) (said : List ℕ) → may cause said → more cause said)
    → CarriesOut (next value) uses may tells old new result
    → CarriesOut (Then outcome next) uses more tells old new result
carries_then outcome value next uses may more tells old new result passed allows carries =
    carries_as (next value) (Then outcome next) uses more tells old new result
    (ap (λ (o : Outcome _). Then o next) (sym passed))
    (carries_more (next value) uses may more tells old new result allows carries)
