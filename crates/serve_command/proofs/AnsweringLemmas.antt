-- Datagrams that were answered, all that were asked for or not, as steps.
use Rattle.std.proofs.Common.{◌≡◌, ℕ, zero, suc, ◌<◌, ◌≤◌, IsTrue, true, false, List, [], ◌∷◌, ◌++◌, length, map}
use Rattle.std.proofs.Common.{Result, Ok, Err, OnOk, OnErr, Option, None, Some, IfSome, refl, sym, ap, subst, ◌∙◌, inl}
use Rattle.std.proofs.Common.{inr, append-nil, arith, ◌≢◌}
use Rattle.std.specs.List.{All, cons_option, filter_map, slice_get}
use Rattle.std.specs.Option.{option_to_list}
use Rattle.std.specs.Result.{is_err}
use Rattle.std.proofs.lemmas.List.Elements.{All-get_or}
use Rattle.std.proofs.lemmas.Option.{get_or_from_slice_get, slice_get_within}
use Rattle.outside.specs.Count.{Rose}
use Rattle.outside.specs.Seen.{Datagram, LinkSeen, Started, StoreSeen}
use Rattle.outside.specs.World.{World}
use Rattle.opened_file.specs.declared.quota_file.FileFault.TheVariants.{Store as CallFailed, Damage as FileDamaged}
use Rattle.opened_file.specs.declared.quota_file.FileFault.TheVariants.{Full as NoBlocks, Memory as NoMemory}
use Rattle.rquota_xdr.specs.Call.{call_of}
use Rattle.rquota_xdr.specs.Reply.{spelling_of}
use Rattle.rquota_xdr.specs.declared.call.Call.{Call}
use Rattle.rquota_xdr.specs.declared.call.Call.TheVariants.{Silent, OldRpc, NoProgram, NoVersion, NoProcedure, Auth}
use Rattle.rquota_xdr.specs.declared.call.Call.TheVariants.{Garbage, Null, Get, Set}
use Rattle.rquota_xdr.specs.declared.reply.Reply.{Reply}
use Rattle.rquota_serve.specs.ExportedValues.{ExportedValues}
use Rattle.rquota_serve.specs.ExportSeen.{ExportSeen}
use Rattle.rquota_serve.specs.Refusal.{IsServeFault, MayRefuseOne, OnFile}
use Rattle.rquota_serve.specs.Reply.{reply_to}
use Rattle.rquota_serve.specs.Serving.{HasReply, Stopped, answers_of, datagram_reply, read_of}
use Rattle.rquota_serve.specs.Served.{Served}
use Rattle.rquota_serve.specs.declared.serve_fault.ServeFault.{ServeFault}
use Rattle.rquota_serve.specs.declared.serve_fault.ServeFault.TheVariants.{Link as LinkFailed, File as FileFailed}
use Rattle.refusals.specs.Refusals.{refusal_of}
use Rattle.refusals.specs.declared.cause.Cause.{Cause}
use Rattle.refusals.specs.declared.cause.Cause.TheVariants.{LinkFault, SinkFault}
use Rattle.run_steps.specs.Act.{Act, Answer, Follows, answers, err_bytes, out_bytes, started_by}
use Rattle.run_steps.specs.Done.{IsWorldTold, Outside, RunSeen, RunTells, outside_of}
use Rattle.run_steps.specs.Meaning.{EndsBy, HasBegun}
use Rattle.run_steps.specs.Run.{HasReason, HasSteps, IsDoneInPart}
use Rattle.run_steps.specs.Carrying.{CarriesOut}
use Rattle.run_steps.specs.Steps.{Starting, Steps}
use Rattle.run_steps.proofs.ActLemmas.{appends_nothing, none_in_part}
use Rattle.run_steps.proofs.PartLemmas.{nothing_begun, whole_begun}
use Rattle.run_steps.proofs.ShowingLemmas.{damage_may}
use Rattle.run_steps.proofs.WritesLemmas.{writes_for-same, writes_in_part}
use Rattle.serve_command.specs.Serve.{AnsweringSteps, Replying}
use Rattle.serve_steps.specs.Exporting.{AnsweringMayRefuse, serve_uses}
use Rattle.serve_steps.specs.ServeCauses.{IsAsAsked, serve_cause}
use Rattle.quota_map.specs.Asked.{Asked}

-- what is seen once the store and the link were used
abbrev pub with_link : RunSeen → StoreSeen → LinkSeen → RunSeen
with_link seen store link = record seen { store = store; link = link }

-- what is met outside
abbrev met : World → List ℕ → List Datagram → Outside
met files input datagrams = record { files = files; input = input; datagrams = datagrams }

-- Acts that are answers.

answering : List (List ℕ) → List Act
answering sent = map Answer sent

answering-out : (sent : List (List ℕ)) → out_bytes (answering sent) ≡ []
unfolding answering
answering-out [] = refl
answering-out (bytes ∷ sent) = answering-out sent

answering-err : (sent : List (List ℕ)) → err_bytes (answering sent) ≡ []
unfolding answering
answering-err [] = refl
answering-err (bytes ∷ sent) = answering-err sent

answering-answers : (sent : List (List ℕ)) → answers (answering sent) ≡ sent
unfolding answering
answering-answers [] = refl
answering-answers (bytes ∷ sent) = ap (λ (l : List (List ℕ)). bytes ∷ l) (answering-answers sent)

answering-started : (sent : List (List ℕ)) (before : Started) → started_by (answering sent) before ≡ before
unfolding answering
answering-started [] before = refl
answering-started (bytes ∷ sent) before = answering-started sent before

answering-follows : (sent : List (List ℕ)) (old new : World) → new ≡ old → Follows (answering sent) old new
unfolding answering
answering-follows [] old new same = same
answering-follows (bytes ∷ sent) old new same = (old, refl, answering-follows sent old new same)

-- the acts of datagrams, one after another
acts_of : ExportedValues → List Datagram → List Act
acts_of exported datagrams = answering (answers_of exported datagrams)

acts_none : (exported : ExportedValues) → acts_of exported [] ≡ []
unfolding acts_of answering answers_of
acts_none exported = refl

replied : Option Reply → List Act → List Act
replied None rest = rest
replied (Some reply) rest = Answer (spelling_of reply) ∷ rest

acts_one : (exported : ExportedValues) (datagram : Datagram) (datagrams : List Datagram)
    → acts_of exported (datagram ∷ datagrams) ≡ replied (datagram_reply exported datagram) (acts_of exported datagrams)
unfolding acts_of answering answers_of replied
acts_one exported datagram datagrams = by (datagram_reply exported datagram)
  where
    by : (reply : Option Reply)
        → map Answer (map spelling_of (cons_option reply (filter_map (datagram_reply exported) datagrams)))
        ≡ replied reply (map Answer (map spelling_of (filter_map (datagram_reply exported) datagrams)))
    by None = refl
    by (Some reply) = refl

-- Datagrams that were all answered.

reply_ends : (reply : Option Reply) (next : Steps) (rest : List Act) (from to : Outside) → EndsBy next from rest to None
    → EndsBy (Replying reply next) from (replied reply rest) to None
unfolding replied
reply_ends None next rest from to ends = ends
reply_ends (Some reply) next rest from to ends = (rest, from.files, refl, refl, ends)

answered_ends : (exported : ExportedValues) (taken : List Datagram) (files : World) (input : List ℕ)
    (left : List Datagram)
    → EndsBy (AnsweringSteps exported (length taken)) (met files input (taken ++ left)) (acts_of exported taken)
    (met files input left) None
answered_ends exported [] files input left = record { acts_none = acts_none exported; same = refl; ends = refl }
answered_ends exported (datagram ∷ taken) files input left = (
  datagram,
  taken ++ left,
  refl,
  subst (λ (acts : List Act). EndsBy
      (Replying (datagram_reply exported datagram) (AnsweringSteps exported (length taken)))
      (met files input (taken ++ left)) acts (met files input left) None)
      (sym (acts_one exported datagram taken))
      (reply_ends (datagram_reply exported datagram) (AnsweringSteps exported (length taken)) (acts_of exported taken)
      (met files input (taken ++ left)) (met files input left)
      (answered_ends exported taken files input left)),
)

pub served_steps : (exported : ExportedValues) (calls : ℕ) (serves : ExportedValues → Type 0) (tells : RunTells)
    (old : RunSeen) (store : StoreSeen) (link : LinkSeen)
    → serves exported → store.files ≡ old.store.files → store.writes ≡ old.store.writes
    → link.started ≡ old.link.started → Served serves calls old.link link
    → HasSteps (AnsweringSteps exported calls) tells None old (with_link old store link)
unfolding acts_of
served_steps exported calls serves tells old store link is files writes started served =
    let sent = answers_of exported served.taken in
    record {
      acts = acts_of exported served.taken;
      by_steps =
          subst (λ (n : ℕ). EndsBy (AnsweringSteps exported n) (outside_of old) (acts_of exported served.taken)
          (outside_of (with_link old store link)) None) served.number
          (subst (λ (l : List Datagram). EndsBy (AnsweringSteps exported (length served.taken))
          (met old.store.files old.input.left l) (acts_of exported served.taken) (outside_of (with_link old store link))
          None) (sym served.left)
          (subst (λ (w : World). EndsBy (AnsweringSteps exported (length served.taken))
          (met old.store.files old.input.left (served.taken ++ link.left)) (acts_of exported served.taken)
          (met w old.input.left link.left) None) (sym files)
          (answered_ends exported served.taken old.store.files old.input.left link.left)));
      done = record {
        files = answering-follows sent old.store.files store.files files;
        out = λ told.
            sym (append-nil old.out.written) ∙ ap (λ (b : List ℕ). old.out.written ++ b) (sym (answering-out sent));
        err = λ told.
            sym (append-nil old.err.written) ∙ ap (λ (b : List ℕ). old.err.written ++ b) (sym (answering-err sent));
        answered = served.answers exported is
            ∙ ap (λ (l : List (List ℕ)). old.link.answers ++ l) (sym (answering-answers sent));
        started = started ∙ sym (answering-started sent old.link.started);
        writes = writes_for-same (acts_of exported served.taken) old.store.writes store.writes writes;
      };
    }

-- Datagrams of which not all were answered.

-- a datagram that is no silent one has a reply, whatever is exported
reply_there : (exported : ExportedValues) (datagram : List ℕ) (now : ℕ) (call : Call) → (call ≡ Silent → ⊥)
    → (reply : Reply) × (reply_to exported datagram now call ≡ Some reply)
reply_there exported datagram now Silent speaks = absurd (speaks refl)
reply_there exported datagram now (OldRpc xid) speaks = (_, refl)
reply_there exported datagram now (NoProgram xid) speaks = (_, refl)
reply_there exported datagram now (NoVersion xid) speaks = (_, refl)
reply_there exported datagram now (NoProcedure xid) speaks = (_, refl)
reply_there exported datagram now (Auth xid stat) speaks = (_, refl)
reply_there exported datagram now (Garbage xid) speaks = (_, refl)
reply_there exported datagram now (Null xid) speaks = (_, refl)
reply_there exported datagram now (Get xid caller path type id) speaks = (_, refl)
reply_there exported datagram now (Set xid) speaks = (_, refl)

-- steps have begun with these acts, and left this much
abbrev Begun : Steps → Outside → List Act → Outside → Type 0
Begun steps from done now = (hand : List Act) × HasBegun steps from done hand now

reply_at_hand : (next : Steps) (from : Outside) (reply : Option Reply) (found : Reply) → reply ≡ Some found
    → Begun (Replying reply next) from [] from
reply_at_hand next from None found is = absurd (cc)
reply_at_hand next from (Some reply) found is = (_, inl (record { done_none = refl; at_hand = refl; same = refl }))

hand_begun : (exported : ExportedValues) (at_hand : Option Datagram) (calls : ℕ) (files : World) (input : List ℕ)
    (left : List Datagram) → IfSome at_hand HasReply
    → Begun (AnsweringSteps exported (suc calls)) (met files input (option_to_list at_hand ++ left)) []
    (met files input left)
hand_begun exported None calls files input left unsent =
    ([], inl (record { done_none = refl; at_hand = refl; same = refl }))
hand_begun exported (Some datagram) calls files input left unsent =
    let there = reply_there exported (read_of datagram) datagram.moment (call_of (read_of datagram)) unsent in
    let begun = reply_at_hand (AnsweringSteps exported calls) (met files input left) (datagram_reply exported datagram)
    there.0 there.1 in
    (begun.0, inr (datagram, left, refl, begun.1))

reply_begun : (reply : Option Reply) (next : Steps) (done hand : List Act) (from now : Outside)
    → HasBegun next from done hand now → HasBegun (Replying reply next) from (replied reply done) hand now
unfolding replied
reply_begun None next done hand from now begun = begun
reply_begun (Some reply) next done hand from now begun = inr (done, from.files, refl, refl, begun)

answered_begun : (exported : ExportedValues) (done : List Datagram) (at_hand : Option Datagram) (calls : ℕ)
    (files : World) (input : List ℕ) (left : List Datagram) → length done < calls → IfSome at_hand HasReply
    → Begun (AnsweringSteps exported calls) (met files input (done ++ (option_to_list at_hand ++ left)))
    (acts_of exported done) (met files input left)
answered_begun exported done at_hand zero files input left few unsent = absurd (omega (arith, few))
answered_begun exported [] at_hand (suc calls) files input left few unsent =
    let begun = hand_begun exported at_hand calls files input left unsent in (
      begun.0,
      subst (λ (acts : List Act). HasBegun (AnsweringSteps exported (suc calls))
          (met files input (option_to_list at_hand ++ left)) acts begun.0 (met files input left))
          (sym (acts_none exported)) begun.1,
    )
answered_begun exported (datagram ∷ done) at_hand (suc calls) files input left few unsent =
    let rest = answered_begun exported done at_hand calls files input left (omega (arith, few)) unsent in
    let behind = done ++ (option_to_list at_hand ++ left) in (
      rest.0,
      inr (
        datagram,
        behind,
        refl,
        subst (λ (acts : List Act). HasBegun
            (Replying (datagram_reply exported datagram) (AnsweringSteps exported calls)) (met files input behind) acts
            rest.0 (met files input left)) (sym (acts_one exported datagram done))
            (reply_begun (datagram_reply exported datagram) (AnsweringSteps exported calls) (acts_of exported done)
            rest.0 (met files input behind) (met files input left) rest.1),
      ),
    )

stopped_part : {why : Option Cause} (exported : ExportedValues) (calls : ℕ) (serves : ExportedValues → Type 0)
    (tells : RunTells) (old : RunSeen) (store : StoreSeen) (link : LinkSeen)
    → why ≢ Some SinkFault → serves exported → store.files ≡ old.store.files → store.writes ≡ old.store.writes
    → link.started ≡ old.link.started → Stopped serves calls old.link link
    → IsDoneInPart (AnsweringSteps exported calls) tells why old (with_link old store link)
unfolding acts_of
stopped_part exported calls serves tells old store link other is files writes started stopped =
    let sent = answers_of exported stopped.done in
    let begun = answered_begun exported stopped.done stopped.at_hand calls old.store.files old.input.left link.left
    stopped.few stopped.unsent in
    record {
      done = acts_of exported stopped.done;
      hand = begun.0;
      now = met old.store.files old.input.left link.left;
      begun = subst (λ (l : List Datagram). HasBegun (AnsweringSteps exported calls)
          (met old.store.files old.input.left l) (acts_of exported stopped.done) begun.0
          (met old.store.files old.input.left link.left)) (sym stopped.left) begun.1;
      files = none_in_part begun.0 old.store.files store.files files;
      out = λ told. appends_nothing _ old.out.written (out_bytes begun.0)
          (sym (append-nil old.out.written) ∙ ap (λ (b : List ℕ). old.out.written ++ b) (sym (answering-out sent)));
      err = λ told. appends_nothing _ old.err.written (err_bytes begun.0)
          (sym (append-nil old.err.written) ∙ ap (λ (b : List ℕ). old.err.written ++ b) (sym (answering-err sent)));
      answered = stopped.answers exported is
          ∙ ap (λ (l : List (List ℕ)). old.link.answers ++ l) (sym (answering-answers sent));
      started = started ∙ sym (answering-started sent old.link.started);
      datagrams = refl;
      writes = writes_in_part begun.0 (acts_of exported stopped.done ++ begun.0) old.store.writes store.writes
          (writes_for-same (acts_of exported stopped.done ++ begun.0) old.store.writes store.writes writes);
      failed = λ is told. absurd (other is);
    }

-- What was carried out.

-- the store was only read, the link was not started, and both counts of faults did not fall
pub record IsServing (old : RunSeen) (store : StoreSeen) (link : LinkSeen) : Type 0 where
  pub files : store.files ≡ old.store.files
  pub writes : store.writes ≡ old.store.writes
  pub started : link.started ≡ old.link.started
  pub store_later : old.store.faults ≤ store.faults
  pub link_later : old.link.faults ≤ link.faults

-- all datagrams were answered
pub served_carried : (exported : ExportedValues) (calls : ℕ) (may : Cause → List ℕ → Type 0)
    (serves : ExportedValues → Type 0) (tells : RunTells) (old : RunSeen) (store : StoreSeen) (link : LinkSeen)
    → IsServing old store link → (IsTrue tells.store → serves exported)
    → (IsTrue tells.link → Served serves calls old.link link)
    → CarriesOut (AnsweringSteps exported calls) serve_uses may tells old (with_link old store link) (Ok tt)
served_carried exported calls may serves tells old store link serving is served =
    let steps = λ (told : IsWorldTold tells). served_steps exported calls serves tells old store link (is told.store)
    serving.files serving.writes serving.started (served told.link) in
    record {
      done = steps;
      refused = tt;
      part = λ told. whole_begun (AnsweringSteps exported calls) tells None old (with_link old store link) (steps told);
      may_refuse = tt;
      placed = tt;
      only_reads = λ only. record { files = serving.files; writes = serving.writes };
      all_or_nothing = λ whole. tt;
      quiet = λ no. refl;
      later = record {
        store = serving.store_later;
        input = omega arith;
        out = omega arith;
        err = omega arith;
        link = serving.link_later;
      };
    }

-- why not all were
serve_reason : (fault : ServeFault) (exported : ExportedValues) (serves : ExportedValues → Type 0) (stated : Type 0)
    (tells : RunTells) (old new : RunSeen)
    → (IsTrue tells.store → serves exported)
    → IsServeFault old.store.faults new.store.faults old.link.faults new.link.faults serves fault
    → HasReason serve_uses old new (IsWorldTold tells → stated) (serve_cause fault)
serve_reason LinkFailed exported serves stated tells old new is cause = (refl, cause)
serve_reason (FileFailed CallFailed) exported serves stated tells old new is cause = cause
serve_reason (FileFailed (FileDamaged damage)) exported serves stated tells old new is cause =
    λ told. absurd (cause exported (is told.store))
serve_reason (FileFailed (NoBlocks blocks limit)) exported serves stated tells old new is cause = absurd cause
serve_reason (FileFailed NoMemory) exported serves stated tells old new is cause = absurd cause

-- none is that an output failed
serve_no_output : (fault : ServeFault) → Some (serve_cause fault) ≢ Some SinkFault
serve_no_output LinkFailed is = cc
serve_no_output (FileFailed CallFailed) is = cc
serve_no_output (FileFailed (FileDamaged damage)) is = cc
serve_no_output (FileFailed (NoBlocks blocks limit)) is = cc
serve_no_output (FileFailed NoMemory) is = cc

all_at : {T : Type 0} (P : T → Type 0) (list : List T) (place : ℕ) (one : T) → All P list
    → slice_get list place ≡ Some one → P one
all_at P list place one all at =
    subst P (get_or_from_slice_get list place one one at)
    (All-get_or P list place one (slice_get_within list place one at) all)

serve_may : (format : Asked) (file : List ℕ) (seen : List ExportSeen) (fault : ServeFault) → All (IsAsAsked format) seen
    → OnFile fault (MayRefuseOne seen)
    → (store_before store_now link_before link_now : ℕ) (serves : ExportedValues → Type 0)
    → IsServeFault store_before store_now link_before link_now serves fault
    → AnsweringMayRefuse format file (serve_cause fault) file
serve_may format file seen LinkFailed asked may sb sn lb ln serves cause = tt
serve_may format file seen (FileFailed CallFailed) asked may sb sn lb ln serves cause = tt
serve_may format file seen (FileFailed (FileDamaged damage)) asked may sb sn lb ln serves cause =
    (damage_may format may.1.file.format damage (all_at (IsAsAsked format) seen may.0 may.1 asked may.2) may.3, refl)
serve_may format file seen (FileFailed (NoBlocks blocks limit)) asked may sb sn lb ln serves cause = absurd cause
serve_may format file seen (FileFailed NoMemory) asked may sb sn lb ln serves cause = absurd cause

pub stopped_carried : (exported : ExportedValues) (calls : ℕ) (format : Asked) (file : List ℕ) (seen : List ExportSeen)
    (fault : ServeFault) (serves : ExportedValues → Type 0) (tells : RunTells)
    (old : RunSeen) (store : StoreSeen) (link : LinkSeen)
    → IsServing old store link → (IsTrue tells.store → serves exported)
    → (IsTrue tells.link → Stopped serves calls old.link link)
    → IsServeFault old.store.faults store.faults old.link.faults link.faults serves fault → All (IsAsAsked format) seen
    → OnFile fault (MayRefuseOne seen)
    → CarriesOut (AnsweringSteps exported calls) serve_uses (AnsweringMayRefuse format file) tells old
    (with_link old store link) (Err (refusal_of (serve_cause fault) file))
stopped_carried exported calls format file seen fault serves tells old store link serving is stopped cause asked may =
    record {
      done = tt;
      refused = serve_reason fault exported serves _ tells old (with_link old store link) is cause;
      part = λ told. stopped_part exported calls serves tells old store link (serve_no_output fault) (is told.store)
          serving.files serving.writes serving.started (stopped told.link);
      may_refuse = serve_may format file seen fault asked may _ _ _ _ serves cause;
      placed = record { line = λ no. refl; input_line = λ no. refl };
      only_reads = λ only. record { files = serving.files; writes = serving.writes };
      all_or_nothing = λ whole other. record { files = serving.files; writes = serving.writes };
      quiet = λ no. refl;
      later = record {
        store = serving.store_later;
        input = omega arith;
        out = omega arith;
        err = omega arith;
        link = serving.link_later;
      };
    }

-- the link did not start
pub unstarted_carried : (exported : ExportedValues) (calls port : ℕ) (asked : Asked) (file : List ℕ) (tells : RunTells)
    (old : RunSeen) (link : LinkSeen) → link.left ≡ old.link.left → link.answers ≡ old.link.answers
    → (IsTrue tells.link → link.started ≡ old.link.started) → Rose old.link.faults link.faults
    → old.link.faults ≤ link.faults
    → CarriesOut (Starting port (AnsweringSteps exported calls)) serve_uses (AnsweringMayRefuse asked file) tells old
    (with_link old old.store link) (Err (refusal_of LinkFault file))
unstarted_carried exported calls port asked file tells old link left sent started rose later = record {
  done = tt;
  refused = (refl, rose);
  part = λ told. nothing_begun (Starting port (AnsweringSteps exported calls)) tells old (with_link old old.store link)
      (λ is. cc) refl (λ t. refl) (λ t. refl) sent (started told.link) left refl;
  may_refuse = tt;
  placed = record { line = λ no. refl; input_line = λ no. refl };
  only_reads = λ only. record { files = refl; writes = refl };
  all_or_nothing = λ whole other. record { files = refl; writes = refl };
  quiet = λ no. refl;
  later = record { store = omega arith; input = omega arith; out = omega arith; err = omega arith; link = later };
}

-- no datagram was taken
answers_nothing : (exported : ExportedValues) → answers_of exported [] ≡ []
unfolding answers_of
answers_nothing exported = refl

pub nothing_stopped : (serves : ExportedValues → Type 0) (calls : ℕ) (old new : LinkSeen) → 0 < calls
    → new.left ≡ old.left → new.answers ≡ old.answers → Stopped serves calls old new
nothing_stopped serves calls old new some left sent = record {
  done = [];
  at_hand = None;
  left = sym left;
  few = some;
  answers = λ exported is.
      sent ∙ sym (ap (λ (l : List (List ℕ)). old.answers ++ l) (answers_nothing exported) ∙ append-nil old.answers);
  unsent = tt;
}

-- what holds of a refused call, where it was refused
pub of_refused : {T E : Type 0} (P : Type 0) (result : Result T E) → is_err result ≡ true → OnErr result P → P
of_refused P (Ok value) is on = absurd (cc)
of_refused P (Err fault) is on = on

-- what holds of a call that was not refused, where it was not
pub of_passed : {T E : Type 0} (P : Type 0) (result : Result T E) → is_err result ≡ false → OnOk result P → P
of_passed P (Ok value) is on = on
of_passed P (Err fault) is on = absurd (cc)
