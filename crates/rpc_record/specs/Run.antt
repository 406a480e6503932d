-- What a run over streams does: the files that its words name are opened, then it listens, and then connections are
-- served. Source: this project's own, after the manual page of rpc.rquotad.
use Rattle.std.specs.Prelude.{◌≡◌, ◌≤◌, ◌+◌, ◌*◌, ◌⊎◌, ℕ, Bool, IsTrue, IfSome, IsSomeAnd, List, [], ◌∷◌, Option, None}
use Rattle.std.specs.Prelude.{Some, Result, Ok, Err, ⊤}
use Rattle.network.specs.Connections.{ConnsSeen, KeepsConnections, listened_at}
use Rattle.opened_file.specs.declared.quota_file.OpenFault.{OpenFault}
use Rattle.option_words.specs.declared.export_option.ExportOption.{ExportOption}
use Rattle.option_words.specs.declared.word_fault.Fault.{Fault}
use Rattle.outside.specs.Count.{Rose}
use Rattle.outside.specs.Seen.{SinkSeen, StoreSeen}
use Rattle.outside.specs.World.{World}
use Rattle.quota_map.specs.Asked.{Asked, asked_of}
use Rattle.quota_map.specs.View.{IsView}
use Rattle.quota_value.specs.QuotaValue.{QuotaValue}
use Rattle.refusals.specs.Line.{closing_line}
use Rattle.refusals.specs.Refusals.{nowhere, refusal_of}
use Rattle.refusals.specs.Said.{AppendsUnless}
use Rattle.refusals.specs.Status.{end_status}
use Rattle.refusals.specs.declared.cause.Cause.{Cause}
use Rattle.refusals.specs.declared.cause.Cause.TheVariants.{Damaged, LinkFault, Memory, StoreFault, Usage}
use Rattle.refusals.specs.declared.reason.Refusal.{Refusal}
use Rattle.rquota_serve.specs.Adding.{reads_of}
use Rattle.rquota_serve.specs.ExportedValues.{ExportedValues, nothing_exported}
use Rattle.run_steps.specs.Opening.{opening_cause}
use Rattle.serve_steps.specs.Exporting.{AnsweringMayRefuse, AreExported, ExportingMayRefuse, first_file, news_of}
use Rattle.stream_words.specs.Words.{StreamAsked}
use Rattle.rpc_record.specs.Serving.{ServesConns, StopsServing, connection_reads}

-- what is seen of the store and of the connections
pub record StreamSeen : Type 0 where
  pub store : StoreSeen
  pub conns : ConnsSeen

abbrev pub seen_of : StoreSeen → ConnsSeen → StreamSeen
seen_of store conns = record { store = store; conns = conns }

-- whether these tell
pub record StreamTells : Type 0 where
  pub store : Bool
  pub conns : Bool

abbrev pub tells_of : (store conns : Bool) → StreamTells
tells_of store conns = record { store = store; conns = conns }

-- The files.

-- every file is seen as a value, and these values are exported, each under its path for its kind
abbrev pub AreServed : StreamAsked → World → ExportedValues → Type 0
AreServed asked files exported = AreExported (asked_of asked.format) files asked.exports nothing_exported exported

-- The first of these files that is not seen as a value is seen as this refusal.
abbrev pub IsFirstRefusal : Asked → World → List ExportOption → Refusal → Type 0
IsFirstRefusal asked files [] refusal = ⊥
IsFirstRefusal asked files (export ∷ exports) refusal =
    ((fault : OpenFault) × IsView (files export.file) export.kind asked (Err fault)
    × (refusal ≡ refusal_of (opening_cause fault) export.file))
    ⊎ ((value : QuotaValue) × IsView (files export.file) export.kind asked (Ok value)
    × IsFirstRefusal asked files exports refusal)

-- Why not all files were opened: the store failed, there was not enough memory, or one of the files is refused.
abbrev pub IsOpeningReason : (failed refused : Type 0) → Cause → Type 0
IsOpeningReason failed refused StoreFault = failed
IsOpeningReason failed refused Memory = ⊤
IsOpeningReason failed refused _ = refused

-- Not all files were opened, and it did not listen.
pub record IsUnopened (asked : StreamAsked) (tells : StreamTells) (old new : StreamSeen)
    (refusal : Refusal) : Type 0 where
  pub conns : new.conns ≡ old.conns
  pub reason : IsOpeningReason (Rose old.store.faults new.store.faults)
      (ExportingMayRefuse (asked_of asked.format) asked.exports refusal.cause refusal.name
      × (IsTrue tells.store → IsFirstRefusal (asked_of asked.format) old.store.files asked.exports refusal))
      refusal.cause

-- The connections.

-- it listened once, at the port, before any connection was accepted, and then served this many connections
pub record ListensAndServes (serves : ExportedValues → Type 0) (port connections : ℕ)
    (old new : ConnsSeen) : Type 0 where
  pub listened : new.listened ≡ listened_at old port
  pub served : ServesConns serves connections old new

-- it listened once, at the port, before any connection was accepted, and then served fewer connections
pub record ListensAndStops (serves : ExportedValues → Type 0) (port connections : ℕ)
    (old new : ConnsSeen) : Type 0 where
  pub listened : new.listened ≡ listened_at old port
  pub served : StopsServing serves connections old new

-- It failed to listen, and no connection was accepted.
pub record FailsToListen (tells : Bool) (old new : ConnsSeen) (cause : Cause) : Type 0 where
  pub said : cause ≡ LinkFault
  pub failed : Rose old.listener_faults new.listener_faults
  pub listened : IsTrue tells → new.listened ≡ old.listened
  pub leaves : KeepsConnections old new

-- Why serving stopped: no connection was accepted, the store failed, or a file is damaged, and then what is exported
-- was no value.
abbrev pub IsServingReason : (serves : ExportedValues → Type 0) → (old new : StreamSeen) → Cause → Type 0
IsServingReason serves old new LinkFault = Rose old.conns.listener_faults new.conns.listener_faults
IsServingReason serves old new StoreFault = Rose old.store.faults new.store.faults
IsServingReason serves old new (Damaged damage) = (exported : ExportedValues) → ¬ (serves exported)
IsServingReason serves old new _ = ⊥

-- It listened, and then serving stopped.
pub record IsStopped (serves : ExportedValues → Type 0) (port connections : ℕ) (tells : Bool) (old new : StreamSeen)
    (cause : Cause) : Type 0 where
  pub stops : IsTrue tells → ListensAndStops serves port connections old.conns new.conns
  pub reason : IsServingReason serves old new cause

-- how it ends where all files were opened
abbrev pub EndsServing : (serves : ExportedValues → Type 0) → (port connections : ℕ) → (tells : Bool)
    → (old new : StreamSeen) → Option Refusal → Type 0
EndsServing serves port connections tells old new None =
    IsTrue tells → ListensAndServes serves port connections old.conns new.conns
EndsServing serves port connections tells old new (Some refusal) =
    FailsToListen tells old.conns new.conns refusal.cause
    ⊎ IsStopped serves port connections tells old new refusal.cause

-- How many calls of `read` it takes at most to serve connections out of these files: those of opening each, and for
-- each connection those of its answers.
abbrev pub stream_reads : StreamAsked → World → ℕ
stream_reads asked files =
    reads_of (asked_of asked.format) files (news_of asked.exports) + connection_reads * asked.connections

-- All files were opened, and it served the values that they are seen as. A damage that was not seen when the files were
-- opened is said to be one of the first file. However it ended, no more was read than that takes.
pub record IsOpened (asked : StreamAsked) (tells : StreamTells) (old new : StreamSeen)
    (refusal : Option Refusal) : Type 0 where
  pub accepted : IsTrue tells.store → (exported : ExportedValues) × AreServed asked old.store.files exported
  pub ends : EndsServing (λ exported. IsTrue tells.store × AreServed asked old.store.files exported) asked.port
      asked.connections tells.conns old new refusal
  pub may : IfSome refusal
      (λ said. AnsweringMayRefuse (asked_of asked.format) (first_file asked.exports) said.cause said.name)
  pub reads : IsTrue tells.store → new.store.reads ≤ old.store.reads + stream_reads asked old.store.files

-- The run.

-- how it ends where the words ask for this
abbrev pub Ends : StreamAsked → StreamTells → (old new : StreamSeen) → Option Refusal → Type 0
Ends asked tells old new refusal =
    IsSomeAnd refusal (IsUnopened asked tells old new) ⊎ IsOpened asked tells old new refusal

-- The words are outside the grammar: nothing was done, and the refusal names the first fault.
pub record IsRefused (met : Fault) (old new : StreamSeen) (refusal : Option Refusal) : Type 0 where
  pub said : refusal ≡ Some (refusal_of (Usage met.kind met.word) [])
  pub same : new ≡ old

-- how words are carried out
abbrev pub CarriesWords : Result StreamAsked Fault → StreamTells → (old new : StreamSeen) → Option Refusal → Type 0
CarriesWords (Err met) tells old new refusal = IsRefused met old new refusal
CarriesWords (Ok asked) tells old new refusal = Ends asked tells old new refusal

-- The run of words: they are carried out, the status is that of the refusal, or 0, and the error output got the line of
-- the refusal and nothing else; where it failed, a prefix of it.
pub record Runs (asked : Result StreamAsked Fault) (tells : StreamTells) (old new : StreamSeen) (err_tells : Bool)
    (err_old err_new : SinkSeen) (status : ℕ) : Type 0 where
  pub refusal : Option Refusal
  pub carried : CarriesWords asked tells old new refusal
  pub placed : IfSome refusal (λ said. said.place ≡ nowhere)
  pub ended : status ≡ end_status refusal
  pub err : IsTrue err_tells
      → AppendsUnless (Rose err_old.faults err_new.faults) err_old.written err_new.written (closing_line refusal)
