-- A run over streams: what comes of its files and of its connections, and how it ends.
use Rattle.std.proofs.Common.{◌≡◌, ◌≢◌, ◌⊎◌, ◌≤◌, ◌+◌, ◌*◌, ℕ, Bool, true, IsTrue, IfErr, IfSome, List, [], ◌∷◌, ◌++◌}
use Rattle.std.proofs.Common.{Option, None, Some, Result, Ok, Err, inl, inr, refl, sym, ap, subst, ◌∙◌, arith}
use Rattle.std.specs.Prelude.{slice_get, IsErr}
use Rattle.std.specs.List.{All}
use Rattle.std.specs.Result.{result_err}
use Rattle.std.proofs.lemmas.Bool.{false≢true}
use Rattle.std.proofs.lemmas.List.Elements.{All-get_or}
use Rattle.std.proofs.lemmas.Option.{get_or_from_slice_get, same_Some, slice_get_within}
use Rattle.network.specs.Connections.{Connection, ConnsSeen, KeepsConnections, KeepsListening, listened_at}
use Rattle.opened_file.specs.declared.quota_file.FileFault.TheVariants.{Store as CallFailed, Damage as FileDamaged}
use Rattle.opened_file.specs.declared.quota_file.FileFault.TheVariants.{Full as NoBlocks, Memory as NoMemory}
use Rattle.option_words.specs.declared.export_option.ExportOption.{ExportOption}
use Rattle.option_words.specs.declared.word_fault.Fault.{Fault}
use Rattle.outside.specs.Count.{Rose}
use Rattle.outside.specs.Seen.{LinkSeen, SinkSeen, SourceSeen, StoreSeen}
use Rattle.outside.specs.World.{World}
use Rattle.quota_map.specs.Asked.{Asked, asked_of}
use Rattle.quota_map.proofs.SeenLemmas.{view_or_refused}
use Rattle.refusals.specs.Refusals.{nowhere, refusal_of}
use Rattle.refusals.specs.Status.{end_status, status_of}
use Rattle.refusals.specs.declared.cause.Cause.{Cause}
use Rattle.refusals.specs.declared.cause.Cause.TheVariants.{Damaged, LinkFault, Memory, SinkFault, SourceFault}
use Rattle.refusals.specs.declared.cause.Cause.TheVariants.{StoreFault, Usage}
use Rattle.refusals.specs.declared.reason.Refusal.{Refusal}
use Rattle.refusals.proofs.GroupLemmas.{words_alone}
use Rattle.rquota_serve.specs.Adding.{reads_of}
use Rattle.rquota_serve.specs.ExportedValues.{ExportedValues, nothing_exported, with_export}
use Rattle.rquota_serve.specs.ExportSeen.{ExportSeen}
use Rattle.rquota_serve.specs.Refusal.{IsAnswerFault, MayRefuseOne}
use Rattle.run_steps.specs.Act.{Act}
use Rattle.run_steps.specs.Carrying.{CarriesOut}
use Rattle.run_steps.specs.Done.{IsUnwritten, IsWorldTold, Outside, RunSeen, RunTells, outside_of, seen_of as all_seen}
use Rattle.run_steps.specs.Done.{tells_of as all_tell}
use Rattle.run_steps.specs.Meaning.{EndsBy}
use Rattle.run_steps.specs.Opening.{MayRefuseOpening}
use Rattle.run_steps.specs.Run.{HasReason, HasSteps, IsPlacedBy}
use Rattle.run_steps.specs.Steps.{Finish, Steps}
use Rattle.run_steps.proofs.ShowingLemmas.{damage_may}
use Rattle.serve_steps.specs.Exporting.{AnsweringMayRefuse, AreExported, ExportingMayRefuse, OpeningAll, first_file}
use Rattle.serve_steps.specs.Exporting.{news_of, serve_uses}
use Rattle.serve_steps.specs.ServeCauses.{IsAsAsked}
use Rattle.serve_steps.proofs.ExportingLemmas.{exported_once}
use Rattle.stream_words.specs.Words.{StreamAsked}
use Rattle.rpc_record.specs.Faults.{OnConn, file_in, stream_cause}
use Rattle.rpc_record.specs.Run.{AreServed, CarriesWords, Ends, EndsServing, FailsToListen, IsFirstRefusal}
use Rattle.rpc_record.specs.Run.{IsOpeningReason, IsServingReason, IsStopped, IsUnopened, ListensAndServes}
use Rattle.rpc_record.specs.Run.{ListensAndStops, StreamSeen, StreamTells, seen_of}
use Rattle.rpc_record.specs.Serving.{ServesConns, StopsServing, connection_reads}
use Rattle.rpc_record.specs.declared.stream_fault.StreamFault.{StreamFault}
use Rattle.rpc_record.specs.declared.stream_fault.StreamFault.TheVariants.{Conn as ConnFailed, File as FileFailed}

-- Steps that open files, and do nothing else.

abbrev pub no_source : SourceSeen
no_source = record { left = []; faults = 0 }

abbrev pub no_sink : SinkSeen
no_sink = record { written = []; faults = 0 }

abbrev pub no_link : LinkSeen
no_link = record { left = []; answers = []; started = record { times = 0; last = None }; faults = 0 }

-- what is seen where nothing but the store is used
abbrev pub opening_seen : StoreSeen → RunSeen
opening_seen store = all_seen store no_source no_sink no_sink no_link

-- whether it tells
abbrev pub opening_tells : Bool → RunTells
opening_tells tells = all_tell tells true true true true

-- the steps behind the files
abbrev pub finishing : ExportedValues → Steps
finishing exported = Finish

-- steps that open files and are refused met the first file that is
first_refusal : (asked : Asked) (list : List ExportOption) (before : ExportedValues) (old : Outside) (acts : List Act)
    (new : Outside) (refusal : Refusal)
    → EndsBy (OpeningAll asked list before finishing) old acts new (Some refusal)
    → IsFirstRefusal asked old.files list refusal
first_refusal asked [] before old acts new refusal ends =
    let no : ◌≡◌ {A = Option Refusal} (Some refusal) None = ends.ends in absurd (cc)
first_refusal asked (export ∷ list) before old acts new refusal (inl by) =
    inr
    (by.0, by.1, first_refusal asked list (with_export before export.path export.kind by.0) old acts new refusal by.2)
first_refusal asked (export ∷ list) before old acts new refusal (inr by) = inl (by.0, by.1, same_Some _ _ by.2.ends)

none_rose : Rose 0 0 → ⊥
none_rose rose = omega (arith, rose)

opening_reason : (old new : StoreSeen) (stated may said : Type 0) (cause : Cause) → may → (stated → said)
    → HasReason serve_uses (opening_seen old) (opening_seen new) stated cause
    → IsOpeningReason (Rose old.faults new.faults) (may × said) cause
opening_reason old new stated may said StoreFault is so reason = reason
opening_reason old new stated may said Memory is so reason = tt
opening_reason old new stated may said SourceFault is so reason = absurd (none_rose reason)
opening_reason old new stated may said SinkFault is so (inl reason) = absurd (none_rose reason)
opening_reason old new stated may said SinkFault is so (inr reason) = absurd (none_rose reason.1)
opening_reason old new stated may said LinkFault is so reason = absurd (none_rose reason.1)
opening_reason old new stated may said _ is so reason = (is, so reason)

-- not all files were opened
pub unopened : (asked : StreamAsked) (tells : StreamTells) (old new : StoreSeen) (conns : ConnsSeen) (refusal : Refusal)
    → CarriesOut (OpeningAll (asked_of asked.format) asked.exports nothing_exported finishing) serve_uses
    (ExportingMayRefuse (asked_of asked.format) asked.exports) (opening_tells tells.store) (opening_seen old)
    (opening_seen new) (Err refusal)
    → IsUnopened asked tells (seen_of old conns) (seen_of new conns) refusal
unopened asked tells old new conns refusal carries = record {
  conns = refl;
  reason =
      opening_reason old new
      (IsWorldTold (opening_tells tells.store)
      → HasSteps (OpeningAll (asked_of asked.format) asked.exports nothing_exported finishing)
      (opening_tells tells.store) (Some refusal) (opening_seen old) (opening_seen new))
      (ExportingMayRefuse (asked_of asked.format) asked.exports refusal.cause refusal.name)
      (IsTrue tells.store → IsFirstRefusal (asked_of asked.format) old.files asked.exports refusal) refusal.cause
      carries.may_refuse
      (λ has told.
      let steps = has (record { store = told; input = refl; link = refl }) in
      first_refusal (asked_of asked.format) asked.exports nothing_exported (outside_of (opening_seen old)) steps.acts
      (outside_of (opening_seen new)) refusal steps.by_steps)
      carries.refused;
}

-- its refusal stands in no line
pub placed_nowhere : (refusal : Refusal) → IsPlacedBy serve_uses refusal → refusal.place ≡ nowhere
placed_nowhere refusal placed =
    let line = placed.line refl in
    let input_line = placed.input_line refl in
    λ i. record { line = line i; input_line = input_line i }

not_refused : (asked : Asked) (list : List ExportOption) (cause : Cause) (name : List ℕ)
    → ((file : List ℕ) → MayRefuseOpening asked file cause name → ⊥)
    → ExportingMayRefuse asked list cause name → ⊥
not_refused asked [] cause name never may = may
not_refused asked (export ∷ list) cause name never (inl may) = never export.file may
not_refused asked (export ∷ list) cause name never (inr may) = not_refused asked list cause name never may

-- and is none of the words
pub no_usage : (asked : Asked) (list : List ExportOption) (cause : Cause) (name : List ℕ)
    → ExportingMayRefuse asked list cause name → status_of cause ≢ 2
no_usage asked list cause name may two =
    let words = words_alone cause two in
    not_refused asked list (Usage words.0 words.1) name (λ file may. may)
    (subst (λ (c : Cause). ExportingMayRefuse asked list c name) words.2 may)

-- Connections that are served once it listens.

pub listens_and_serves : (serves : ExportedValues → Type 0) (port connections : ℕ) (old heard new : ConnsSeen)
    → heard.listened ≡ listened_at old port → KeepsConnections old heard → KeepsListening heard new
    → ServesConns serves connections heard new → ListensAndServes serves port connections old new
listens_and_serves serves port connections old heard new listened kept keeps served = record {
  listened = keeps.listened ∙ listened;
  served = record {
    served = served.served;
    number = served.number;
    taken = served.taken;
    arrived = sym kept.left ∙ served.arrived;
    closed = served.closed ∙ ap (λ (l : List Connection). l ++ served.served) kept.closed;
    answered = served.answered;
  };
}

pub listens_and_stops : (serves : ExportedValues → Type 0) (port connections : ℕ) (old heard new : ConnsSeen)
    → heard.listened ≡ listened_at old port → KeepsConnections old heard → KeepsListening heard new
    → StopsServing serves connections heard new → ListensAndStops serves port connections old new
listens_and_stops serves port connections old heard new listened kept keeps stopped = record {
  listened = keeps.listened ∙ listened;
  served = record {
    served = stopped.served;
    few = stopped.few;
    taken = stopped.taken;
    at_hand = stopped.at_hand;
    arrived = sym kept.left ∙ stopped.arrived;
    closed = stopped.closed ∙ ap (λ (l : List Connection). l ++ stopped.served) kept.closed;
    answered = stopped.answered;
    begun = stopped.begun;
  };
}

-- why serving stopped
pub serving_reason : (serves : ExportedValues → Type 0) (old new : StreamSeen) (heard : ℕ) (fault : StreamFault)
    → old.conns.listener_faults ≤ heard
    → OnConn fault (Rose heard new.conns.listener_faults)
    → IfSome (file_in fault) (IsAnswerFault old.store.faults new.store.faults serves)
    → IsServingReason serves old new (stream_cause fault)
serving_reason serves old new heard ConnFailed later rose cause = omega (arith, later, rose)
serving_reason serves old new heard (FileFailed CallFailed) later rose cause = cause
serving_reason serves old new heard (FileFailed (FileDamaged damage)) later rose cause = cause
serving_reason serves old new heard (FileFailed (NoBlocks blocks limit)) later rose cause = absurd cause
serving_reason serves old new heard (FileFailed NoMemory) later rose cause = absurd cause

all_at : {T : Type 0} (P : T → Type 0) (list : List T) (place : ℕ) (one : T) → All P list
    → slice_get list place ≡ Some one → P one
all_at P list place one all at =
    subst P (get_or_from_slice_get list place one one at)
    (All-get_or P list place one (slice_get_within list place one at) all)

-- what may be said of it
pub serving_may : (format : Asked) (file : List ℕ) (seen : List ExportSeen) (fault : StreamFault) (before now : ℕ)
    (serves : ExportedValues → Type 0) → All (IsAsAsked format) seen
    → IfSome (file_in fault) (MayRefuseOne seen) → IfSome (file_in fault) (IsAnswerFault before now serves)
    → AnsweringMayRefuse format file (stream_cause fault) file
serving_may format file seen ConnFailed before now serves asked may cause = tt
serving_may format file seen (FileFailed CallFailed) before now serves asked may cause = tt
serving_may format file seen (FileFailed (FileDamaged damage)) before now serves asked may cause =
    (damage_may format may.1.file.format damage (all_at (IsAsAsked format) seen may.0 may.1 asked may.2) may.3, refl)
serving_may format file seen (FileFailed (NoBlocks blocks limit)) before now serves asked may cause = absurd cause
serving_may format file seen (FileFailed NoMemory) before now serves asked may cause = absurd cause

-- Files that were opened, and connections that are served behind that.

reason_before : (before after : ExportedValues → Type 0) (old mid : StoreSeen) (conns : ConnsSeen) (new : StreamSeen)
    (cause : Cause) → old.faults ≤ mid.faults
    → ((exported : ExportedValues) → before exported → after exported)
    → IsServingReason after (seen_of mid conns) new cause → IsServingReason before (seen_of old conns) new cause
reason_before before after old mid conns new LinkFault later stays reason = reason
reason_before before after old mid conns new StoreFault later stays reason = omega (arith, later, reason)
reason_before before after old mid conns new (Damaged damage) later stays reason =
    λ exported is. reason exported (stays exported is)
reason_before before after old mid conns new _ later stays reason = absurd reason

serves_before : (before after : ExportedValues → Type 0) (port connections : ℕ) (old new : ConnsSeen)
    → ((exported : ExportedValues) → before exported → after exported)
    → ListensAndServes after port connections old new → ListensAndServes before port connections old new
serves_before before after port connections old new stays serves = record {
  listened = serves.listened;
  served = record {
    served = serves.served.served;
    number = serves.served.number;
    taken = serves.served.taken;
    arrived = serves.served.arrived;
    closed = serves.served.closed;
    answered = λ exported is. serves.served.answered exported (stays exported is);
  };
}

stops_before : (before after : ExportedValues → Type 0) (port connections : ℕ) (old new : ConnsSeen)
    → ((exported : ExportedValues) → before exported → after exported)
    → ListensAndStops after port connections old new → ListensAndStops before port connections old new
stops_before before after port connections old new stays stops = record {
  listened = stops.listened;
  served = record {
    served = stops.served.served;
    few = stops.served.few;
    taken = stops.served.taken;
    at_hand = stops.served.at_hand;
    arrived = stops.served.arrived;
    closed = stops.served.closed;
    answered = λ exported is. stops.served.answered exported (stays exported is);
    begun = λ exported is. stops.served.begun exported (stays exported is);
  };
}

ends_before : (before after : ExportedValues → Type 0) (port connections : ℕ) (tells : Bool) (old mid : StoreSeen)
    (conns : ConnsSeen) (new : StreamSeen) (refusal : Option Refusal) → old.faults ≤ mid.faults
    → ((exported : ExportedValues) → before exported → after exported)
    → EndsServing after port connections tells (seen_of mid conns) new refusal
    → EndsServing before port connections tells (seen_of old conns) new refusal
ends_before before after port connections tells old mid conns new None later stays ends =
    λ told. serves_before before after port connections conns new.conns stays (ends told)
ends_before before after port connections tells old mid conns new (Some refusal) later stays (inl fails) = inl fails
ends_before before after port connections tells old mid conns new (Some refusal) later stays (inr stopped) =
    inr (record {
      stops = λ told. stops_before before after port connections conns new.conns stays (stopped.stops told);
      reason = reason_before before after old mid conns new refusal.cause later stays stopped.reason;
    })

-- Results of calls that may be refused.

-- a refusal with one of the statuses 3 and 4 is none of the words
pub late_worded : {T : Type 0} (result : Result T Refusal)
    → IfErr result (λ (said : Refusal). (status_of said.cause ≡ 3) ⊎ (status_of said.cause ≡ 4))
    → IfErr result (λ (said : Refusal). status_of said.cause ≢ 2)
late_worded (Ok value) late = tt
late_worded (Err said) (inl three) = λ two. omega (arith, two, three)
late_worded (Err said) (inr four) = λ two. omega (arith, two, four)

pub late_or : {T : Type 0} (P : Type 0) (result : Result T Refusal)
    → IfErr result (λ (said : Refusal). (status_of said.cause ≡ 3) ⊎ (status_of said.cause ≡ 4))
    → IfErr result (λ (said : Refusal). (status_of said.cause ≡ 3) ⊎ (status_of said.cause ≡ 4) ⊎ P)
late_or P (Ok value) late = tt
late_or P (Err said) (inl three) = inl three
late_or P (Err said) (inr four) = inr (inl four)

if_err_some : {T : Type 0} (P : Refusal → Type 0) (result : Result T Refusal) → IfErr result P
    → IfSome (result_err result) P
if_err_some P (Ok value) is = tt
if_err_some P (Err refusal) is = is

-- all files were opened, and what came of the connections then
pub opened_ends : {T : Type 0} (asked : StreamAsked) (tells : StreamTells) (old mid : StoreSeen) (conns : ConnsSeen)
    (new : StreamSeen) (serves : ExportedValues → Type 0) (exported : ExportedValues) (result : Result T Refusal)
    → old.faults ≤ mid.faults → (IsTrue tells.store → AreServed asked old.files exported)
    → (IsTrue tells.store → serves exported)
    → EndsServing serves asked.port asked.connections tells.conns (seen_of mid conns) new (result_err result)
    → IfErr result
    (λ (said : Refusal). AnsweringMayRefuse (asked_of asked.format) (first_file asked.exports) said.cause said.name)
    → (IsTrue tells.store → mid.reads ≤ old.reads + reads_of (asked_of asked.format) old.files (news_of asked.exports))
    → new.store.reads ≤ mid.reads + connection_reads * asked.connections
    → Ends asked tells (seen_of old conns) new (result_err result)
opened_ends asked tells old mid conns new serves exported result later are holds ends may opening serving =
    inr (record {
      accepted = λ told. (exported, are told);
      ends =
          ends_before (λ (other : ExportedValues). IsTrue tells.store × AreServed asked old.files other) serves
          asked.port asked.connections tells.conns old mid conns new (result_err result) later
          (λ other is. subst serves
          (exported_once (asked_of asked.format) old.files asked.exports nothing_exported exported other (are is.0)
          is.1) (holds is.0)) ends;
      may = if_err_some
          (λ (said : Refusal).
          AnsweringMayRefuse (asked_of asked.format) (first_file asked.exports) said.cause said.name) result may;
      reads = λ told. omega (arith, opening told, serving);
    })

-- there was not enough memory, and it did not listen
pub wanting_ends : (asked : StreamAsked) (tells : StreamTells) (old mid : StoreSeen) (conns : ConnsSeen)
    → Ends asked tells (seen_of old conns) (seen_of mid conns) (Some (refusal_of Memory []))
wanting_ends asked tells old mid conns = inl (record { conns = refl; reason = tt })

-- How a run ends.

-- words outside the grammar end it with status 2
pub usage_status : (asked : Result StreamAsked Fault) (tells : StreamTells) (old new : StreamSeen)
    (refusal : Option Refusal) → CarriesWords asked tells old new refusal → IsErr asked → end_status refusal ≡ 2
usage_status (Ok asked) tells old new refusal carried is = absurd (false≢true is)
usage_status (Err met) tells old new refusal carried is = ap end_status carried.said

first_never : (asked : Asked) (files : World) (list : List ExportOption) (before exported : ExportedValues)
    (refusal : Refusal) → AreExported asked files list before exported → IsFirstRefusal asked files list refusal → ⊥
first_never asked files [] before exported refusal are refused = refused
first_never asked files (export ∷ list) before exported refusal are (inl refused) =
    view_or_refused (files export.file) export.kind asked are.0 refused.0 are.1 refused.1
first_never asked files (export ∷ list) before exported refusal are (inr later) =
    first_never asked files list (with_export before export.path export.kind are.0) exported refusal are.2 later.2

opening_sure : (failed refused : Type 0) (cause : Cause) → (failed → ⊥) → (refused → ⊥)
    → IsOpeningReason failed refused cause → status_of cause ≡ 5
opening_sure failed refused StoreFault unfailed unrefused reason = absurd (unfailed reason)
opening_sure failed refused Memory unfailed unrefused reason = refl
opening_sure failed refused _ unfailed unrefused reason = absurd (unrefused reason)

serving_sure : (serves : ExportedValues → Type 0) (old new : StreamSeen) (cause : Cause) (exported : ExportedValues)
    → serves exported → (Rose old.store.faults new.store.faults → ⊥)
    → (Rose old.conns.listener_faults new.conns.listener_faults → ⊥) → IsServingReason serves old new cause → ⊥
serving_sure serves old new LinkFault exported is unfailed heard reason = heard reason
serving_sure serves old new StoreFault exported is unfailed heard reason = unfailed reason
serving_sure serves old new (Damaged damage) exported is unfailed heard reason = reason exported is
serving_sure serves old new _ exported is unfailed heard reason = reason

-- where all files are accepted and nothing failed it is done, or there was not enough memory
pub ends_sure : (asked : StreamAsked) (tells : StreamTells) (old new : StreamSeen) (refusal : Option Refusal)
    (exported : ExportedValues) → IsTrue tells.store → AreServed asked old.store.files exported
    → (Rose old.store.faults new.store.faults → ⊥) → (Rose old.conns.listener_faults new.conns.listener_faults → ⊥)
    → Ends asked tells old new refusal
    → (end_status refusal ≡ 0) ⊎ (end_status refusal ≡ 5)
ends_sure asked tells old new None exported told are unfailed heard ends = inl refl
ends_sure asked tells old new (Some refusal) exported told are unfailed heard (inl unopened) =
    inr (opening_sure _ _ refusal.cause unfailed
    (λ refused. first_never (asked_of asked.format) old.store.files asked.exports nothing_exported exported refusal are
    (refused.1 told)) unopened.reason)
ends_sure asked tells old new (Some refusal) exported told are unfailed heard (inr opened) = absurd (by opened.ends)
  where
    by : FailsToListen tells.conns old.conns new.conns refusal.cause
        ⊎ IsStopped (λ (other : ExportedValues). IsTrue tells.store × AreServed asked old.store.files other) asked.port
        asked.connections tells.conns old new refusal.cause → ⊥
    by (inl fails) = heard fails.failed
    by (inr stopped) =
        serving_sure (λ (other : ExportedValues). IsTrue tells.store × AreServed asked old.store.files other) old new
        refusal.cause exported (told, are) unfailed heard stopped.reason

opening_failed : (failed said : Type 0) (asked : Asked) (list : List ExportOption) (cause : Cause) (name : List ℕ)
    → status_of cause ≡ 4
    → IsOpeningReason failed (ExportingMayRefuse asked list cause name × said) cause → failed
opening_failed failed said asked list StoreFault name four reason = reason
opening_failed failed said asked list SourceFault name four reason =
    absurd (not_refused asked list SourceFault name (λ file may. may) reason.0)
opening_failed failed said asked list SinkFault name four reason =
    absurd (not_refused asked list SinkFault name (λ file may. may) reason.0)
opening_failed failed said asked list LinkFault name four reason =
    absurd (not_refused asked list LinkFault name (λ file may. may) reason.0)
opening_failed failed said asked list _ name four reason = absurd (omega (arith, four))

serving_failed : (serves : ExportedValues → Type 0) (old new : StreamSeen) (cause : Cause) → status_of cause ≡ 4
    → IsServingReason serves old new cause
    → Rose old.store.faults new.store.faults ⊎ Rose old.conns.listener_faults new.conns.listener_faults
serving_failed serves old new LinkFault four reason = inr reason
serving_failed serves old new StoreFault four reason = inl reason
serving_failed serves old new (Damaged damage) four reason = absurd (omega (arith, four))
serving_failed serves old new _ four reason = absurd reason

ends_failed : (asked : StreamAsked) (tells : StreamTells) (old new : StreamSeen) (refusal : Refusal)
    → status_of refusal.cause ≡ 4 → Ends asked tells old new (Some refusal)
    → Rose old.store.faults new.store.faults ⊎ Rose old.conns.listener_faults new.conns.listener_faults
ends_failed asked tells old new refusal four (inl unopened) =
    inl (opening_failed _ _ (asked_of asked.format) asked.exports refusal.cause refusal.name four unopened.reason)
ends_failed asked tells old new refusal four (inr opened) = by opened.ends
  where
    by : FailsToListen tells.conns old.conns new.conns refusal.cause
        ⊎ IsStopped (λ (other : ExportedValues). IsTrue tells.store × AreServed asked old.store.files other) asked.port
        asked.connections tells.conns old new refusal.cause
        → Rose old.store.faults new.store.faults ⊎ Rose old.conns.listener_faults new.conns.listener_faults
    by (inl fails) = inr fails.failed
    by (inr stopped) =
        serving_failed (λ (other : ExportedValues). IsTrue tells.store × AreServed asked old.store.files other) old new
        refusal.cause four stopped.reason

-- it ends with status 4 only where a call on the store failed, or one of `listen` and `accept`
pub carried_failed : (asked : Result StreamAsked Fault) (tells : StreamTells) (old new : StreamSeen) (refusal : Refusal)
    → status_of refusal.cause ≡ 4 → CarriesWords asked tells old new (Some refusal)
    → Rose old.store.faults new.store.faults ⊎ Rose old.conns.listener_faults new.conns.listener_faults
carried_failed (Ok asked) tells old new refusal four carried = ends_failed asked tells old new refusal four carried
carried_failed (Err met) tells old new refusal four carried =
    let two = usage_status (Err met) tells old new (Some refusal) carried refl in absurd (omega (arith, two, four))

-- Frames.

pub unwritten-then : (old mid new : StoreSeen) → IsUnwritten old mid → IsUnwritten mid new → IsUnwritten old new
unwritten-then old mid new first second =
    record { files = second.files ∙ first.files; writes = second.writes ∙ first.writes }
