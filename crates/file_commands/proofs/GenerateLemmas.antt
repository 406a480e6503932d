-- A file that is made, and a line on it: what was carried out where both were done, and where one was not.
use Rattle.std.proofs.Common.{◌≡◌, ℕ, ◌≤◌, true, false, IsTrue, List, [], ◌∷◌, ◌++◌, Option, None, Some, Ok, Err}
use Rattle.std.proofs.Common.{Result, inl, inr, refl, sym, ap, subst, ◌∙◌, arith, append-nil}
use Rattle.std.proofs.lemmas.Bool.{false≢true}
use Rattle.std.proofs.lemmas.Result.{IfErr-weaker, on_ok_weaker}
use Rattle.quota_types.specs.declared.file_kind.Format.{Format}
use Rattle.quota_types.specs.declared.file_kind.Format.TheVariants.{V2R1}
use Rattle.quota_types.specs.declared.file_kind.Kind.{Kind}
use Rattle.quota_types.specs.declared.file_kind.Kind.TheVariants.{User}
use Rattle.outside.specs.Count.{Rose}
use Rattle.quota_value.specs.QuotaValue.{QuotaValue}
use Rattle.outside.specs.Replacement.{ReplacesOnly}
use Rattle.outside.specs.Seen.{SinkSeen, StoreSeen}
use Rattle.outside.specs.Text.{AppendsPrefix}
use Rattle.outside.specs.ManyCalls.{ReplacesOne}
use Rattle.opened_file.specs.declared.replacement.ReplaceFault.{ReplaceFault}
use Rattle.opened_file.specs.declared.replacement.ReplaceFault.TheVariants.{Store as PutFailed, Full as NoBlocks}
use Rattle.opened_file.specs.declared.replacement.ReplaceFault.TheVariants.{Memory as NoMemory}
use Rattle.quota_map.specs.Asked.{AnyTree, InFormat}
use Rattle.quota_map.specs.Replacing.{IsReplaceFileFault, UnlessStore}
use Rattle.quota_map.specs.View.{IsView, most_blocks}
use Rattle.quota_map.proofs.SeenLemmas.{view_or_refused}
use Rattle.refusals.specs.declared.cause.Cause.{Cause}
use Rattle.refusals.specs.declared.cause.Cause.TheVariants.{StoreFault, SourceFault, SinkFault, LinkFault, Memory}
use Rattle.refusals.specs.declared.reason.Refusal.{Refusal}
use Rattle.refusals.specs.Refusals.{nowhere, refusal_of}
use Rattle.run_steps.specs.Act.{Act, Replace, FollowsAct, ToOut, out_bytes}
use Rattle.run_steps.specs.Done.{IsUnwritten, IsWorldTold, RunSeen, RunTells}
use Rattle.run_steps.specs.Run.{HasReason, HasSteps, IsDoneInPart, Uses}
use Rattle.run_steps.specs.Carrying.{CarriesOut}
use Rattle.run_steps.specs.Showing.{ShowingMayRefuse, ShowingSteps, showing_uses}
use Rattle.run_steps.specs.Steps.{Doing, Finish, Steps}
use Rattle.run_steps.proofs.DoingLemmas.{part_of, written_yet}
use Rattle.run_steps.proofs.OpeningLemmas.{refused_so, store_later, with_out, with_store}
use Rattle.run_steps.proofs.PartLemmas.{acts_in_part, carried_whole}
use Rattle.run_steps.proofs.PhaseLemmas.{nothing_carried, placed_nowhere}
use Rattle.run_steps.proofs.ReasonLemmas.{reason_since}
use Rattle.quota_map.proofs.SeenOnceLemmas.{seen_once}
use Rattle.run_steps.proofs.ShowingLemmas.{out_failed, told_begun, told_steps}
use Rattle.run_steps.proofs.WritesLemmas.{writes_for-replacement, writes_in_part}
use Rattle.file_commands.specs.FileValue.{replace_cause}
use Rattle.file_commands.specs.Generate.{GenerateMayRefuse, generate_uses}
use Rattle.file_commands.specs.Causes.{IsUnreported, gathered_cause}

-- A change, and then more steps.

changed_steps : (name : List ℕ) (new : QuotaValue) (next : Steps) (tells : RunTells) (refusal : Option Refusal)
    (old : RunSeen) (store : StoreSeen) (to : RunSeen)
    → FollowsAct (Replace name new) old.store.files store.files → HasSteps next tells refusal (with_store old store) to
    → HasSteps (Doing (Replace name new) next) tells refusal old to
changed_steps name new next tells refusal old store to follows has = record {
  acts = Replace name new ∷ has.acts;
  by_steps = (has.acts, store.files, refl, follows, has.by_steps);
  done = record {
    files = (store.files, follows, has.done.files);
    out = has.done.out;
    err = has.done.err;
    answered = has.done.answered;
    started = has.done.started;
    writes = writes_for-replacement name new has.acts old.store.writes to.store.writes;
  };
}

changed_part : {why : Option Cause} (name : List ℕ) (new : QuotaValue) (next : Steps) (tells : RunTells) (old : RunSeen)
    (store : StoreSeen) (to : RunSeen)
    → FollowsAct (Replace name new) old.store.files store.files → IsDoneInPart next tells why (with_store old store) to
    → IsDoneInPart (Doing (Replace name new) next) tells why old to
changed_part name new next tells old store to follows part = record {
  done = Replace name new ∷ part.done;
  hand = part.hand;
  now = part.now;
  begun = inr (part.done, store.files, refl, follows, part.begun);
  files = part.files;
  out = part.out;
  err = part.err;
  answered = part.answered;
  started = part.started;
  datagrams = part.datagrams;
  writes = writes_in_part part.hand (Replace name new ∷ (part.done ++ part.hand)) old.store.writes to.store.writes
      (writes_for-replacement name new (part.done ++ part.hand) old.store.writes to.store.writes);
  failed = part.failed;
}

-- a file was changed, and the next steps were carried out
pub carries_changed : (name : List ℕ) (new : QuotaValue) (next : Steps) (uses : Uses) (may : Cause → List ℕ → Type 0)
    (tells : RunTells) (old : RunSeen) (store : StoreSeen) (to : RunSeen)
    (result : Result (Unit {0}) Refusal)
    → (IsTrue tells.store → FollowsAct (Replace name new) old.store.files store.files) → old.store.faults ≤ store.faults
    → CarriesOut next uses may tells (with_store old store) to result
    → CarriesOut (Doing (Replace name new) next) (record uses { changes = true; all_or_nothing = false }) may
    tells old to result
carries_changed name new next uses may tells old store to result follows le carries = record {
  done = on_ok_weaker result
      (λ has told. changed_steps name new next tells None old store to (follows told.store) (has told)) carries.done;
  refused = IfErr-weaker result _ _
      (λ refusal reason. reason_since uses old to store old.input _ _ refusal.cause le (omega arith)
      (λ stated told. changed_steps name new next tells (Some refusal) old store to (follows told.store) (stated told))
      reason) carries.refused;
  part = λ told. changed_part name new next tells old store to (follows told.store) (carries.part told);
  may_refuse = carries.may_refuse;
  placed = carries.placed;
  only_reads = λ only. absurd (false≢true (sym only));
  all_or_nothing = λ whole. absurd (false≢true whole);
  quiet = carries.quiet;
  later = record {
    store = omega (arith, le, carries.later.store);
    input = carries.later.input;
    out = carries.later.out;
    err = carries.later.err;
    link = carries.later.link;
  };
}

-- the store failed before the file was changed
pub change_failed : (name text : List ℕ) (new : QuotaValue) (tells : RunTells) (old : RunSeen) (store : StoreSeen)
    → Rose old.store.faults store.faults → store.files name ≡ old.store.files name
    → ReplacesOnly name old.store.files store.files → old.store.faults ≤ store.faults
    → CarriesOut (Doing (Replace name new) (Doing (ToOut text) Finish)) generate_uses (GenerateMayRefuse name) tells old
    (with_store old store) (Err (refusal_of StoreFault name))
change_failed name text new tells old store rose same leaves later =
    let acts = Replace name new ∷ ToOut text ∷ [] in
    record {
      done = tt;
      refused = rose;
      part = λ told. acts_in_part acts None tells old (with_store old store) refl
          (part_of [] acts tells old old.store store (written_yet old.store) (same, leaves)
          (writes_for-replacement name new [] old.store.writes store.writes))
          (λ is told. absurd (cc));
      may_refuse = inr tt;
      placed = record { line = λ no. refl; input_line = λ no. refl };
      only_reads = λ only. absurd (false≢true (sym only));
      all_or_nothing = λ whole. absurd (false≢true whole);
      quiet = λ no. refl;
      later = store_later old store later;
    }

-- A line that is written once files were only read.

-- it was not written whole
pub told_in_part : (name text : List ℕ) (tells : RunTells) (old : RunSeen) (store : StoreSeen) (out : SinkSeen)
    (refusal : Refusal) → IsUnwritten old.store store → old.store.faults ≤ store.faults
    → old.out.faults ≤ out.faults
    → (IsTrue tells.store → IsTrue tells.out → AppendsPrefix old.out.written out.written text)
    → ((stated : Type 0)
    → HasReason showing_uses old (with_out old store out) (IsWorldTold tells → stated) refusal.cause)
    → ShowingMayRefuse AnyTree name refusal.cause refusal.name → refusal.place ≡ nowhere
    → CarriesOut (Doing (ToOut text) Finish) showing_uses (ShowingMayRefuse AnyTree name) tells old
    (with_out old store out) (Err refusal)
told_in_part name text tells old store out refusal unwritten later out_later prefix reason may placed =
    refused_so (Doing (ToOut text) Finish) showing_uses (ShowingMayRefuse AnyTree name) tells old
    (with_out old store out) refusal
    unwritten refl
    (record { store = later; input = omega arith; out = out_later; err = omega arith; link = omega arith })
    (λ told. told_begun text tells old store out
    (out_failed old (with_out old store out) (IsWorldTold tells → ⊥) refusal.cause (reason ⊥)) unwritten
    (prefix told.store)) (reason _) may
    (placed_nowhere showing_uses refusal placed)

-- the output failed
pub told_failed : (name text written : List ℕ) (tells : RunTells) (old : RunSeen) (store : StoreSeen) (out : SinkSeen)
    → IsUnwritten old.store store → old.store.faults ≤ store.faults
    → old.out.faults ≤ out.faults → (IsTrue tells.store → written ≡ text)
    → (IsTrue tells.out → AppendsPrefix old.out.written out.written written) → Rose old.out.faults out.faults
    → CarriesOut (Doing (ToOut text) Finish) showing_uses (ShowingMayRefuse AnyTree name) tells old
    (with_out old store out) (Err (refusal_of SinkFault name))
told_failed name text written tells old store out unwritten later out_later is prefix rose =
    told_in_part name text tells old store out (refusal_of SinkFault name) unwritten later out_later
    (λ told out_told. subst (λ (b : List ℕ). AppendsPrefix old.out.written out.written b) (is told) (prefix out_told))
    (λ stated. inl rose) (inl refl) refl

-- it was written whole, where it is this text as far as the files tell
pub told_whole : (name text written : List ℕ) (tells : RunTells) (old : RunSeen) (store : StoreSeen) (out : SinkSeen)
    → IsUnwritten old.store store → old.store.faults ≤ store.faults
    → old.out.faults ≤ out.faults → (IsTrue tells.store → written ≡ text)
    → (IsTrue tells.out → out.written ≡ old.out.written ++ written)
    → CarriesOut (Doing (ToOut text) Finish) showing_uses (ShowingMayRefuse AnyTree name) tells old
    (with_out old store out) (Ok tt)
told_whole name text written tells old store out unwritten later out_later is whole =
    carried_whole (Doing (ToOut text) Finish) showing_uses (ShowingMayRefuse AnyTree name) tells old
    (with_out old store out) tt
    (λ told. told_steps text tells old store out unwritten
    (λ out_told. whole out_told ∙ ap (λ (b : List ℕ). old.out.written ++ b)
    (is told.store)))
    (λ only. unwritten) (λ no. refl)
    (record { store = later; input = omega arith; out = out_later; err = omega arith; link = omega arith })

-- A report that is gathered in memory.

-- what a text about a file has come to
pub shown_text : (name : List ℕ) (text : QuotaValue → List ℕ) (value : QuotaValue) (tells : RunTells) (old to : RunSeen)
    → IsTrue tells.out
    → HasSteps (ShowingSteps User AnyTree name text) tells None old to
    → IsView (old.store.files name) User AnyTree (Ok value) → to.out.written ≡ old.out.written ++ text value
shown_text name text value tells old to out_told has view = elim has.by_steps [
  | inl shown ↦
      let acts : has.acts ≡ ToOut (text shown.0) ∷ [] =
      shown.2.2 ∙ ap (λ (rest : List Act). ToOut (text shown.0) ∷ rest) shown.2.4.acts_none in
      let same : shown.0 ≡ value = seen_once (old.store.files name) User AnyTree shown.0 value shown.1 view in
      has.done.out out_told
      ∙ ap (λ (a : List Act). old.out.written ++ out_bytes a) acts
      ∙ ap (λ (b : List ℕ). old.out.written ++ b) (append-nil (text shown.0))
      ∙ ap (λ (v : QuotaValue). old.out.written ++ text v) same
  | inr refused ↦ absurd (view_or_refused (old.store.files name) User AnyTree value refused.0 view refused.1)
]

-- it is refused for no value that is seen
not_shown : (name : List ℕ) (text : QuotaValue → List ℕ) (value : QuotaValue) (tells : RunTells) (old to : RunSeen)
    (refusal : Refusal)
    → HasSteps (ShowingSteps User AnyTree name text) tells (Some refusal) old to
    → IsView (old.store.files name) User AnyTree (Ok value) → ⊥
not_shown name text value tells old to refusal has view = elim has.by_steps [
  | inl shown ↦ let ends : Some refusal ≡ None = shown.2.4.ends in cc
  | inr refused ↦ view_or_refused (old.store.files name) User AnyTree value refused.0 view refused.1
]

-- why it was not gathered
pub unreported : (name : List ℕ) (text : QuotaValue → List ℕ) (tells : RunTells) (old to : RunSeen) (refusal : Refusal)
    (cause : Cause) (said : List ℕ)
    → IsTrue tells.input → IsTrue tells.link → ShowingMayRefuse AnyTree name cause said
    → HasReason showing_uses old to
    (IsWorldTold tells → HasSteps (ShowingSteps User AnyTree name text) tells (Some refusal) old to) cause
    → IsUnreported (Rose old.store.faults to.store.faults)
    (IsTrue tells.store → (value : QuotaValue) → ¬ IsView (old.store.files name) User AnyTree (Ok value))
    (gathered_cause cause)
unreported name text tells old to refusal StoreFault said input link may reason = reason
unreported name text tells old to refusal SinkFault said input link may reason = tt
unreported name text tells old to refusal Memory said input link may reason = tt
unreported name text tells old to refusal SourceFault said input link (inl other) reason = absurd (cc)
unreported name text tells old to refusal SourceFault said input link (inr other) reason = absurd other
unreported name text tells old to refusal LinkFault said input link (inl other) reason = absurd (cc)
unreported name text tells old to refusal LinkFault said input link (inr other) reason = absurd other
unreported name text tells old to refusal _ said input link may reason =
    λ told value view.
    not_shown name text value tells old to refusal (reason (record { store = told; input = input; link = link })) view

-- what may be said of it
pub gathered_may : (name : List ℕ) (cause : Cause) (said : List ℕ) → ShowingMayRefuse AnyTree name cause said
    → ShowingMayRefuse AnyTree name (gathered_cause cause) said
gathered_may name SinkFault said may = inr tt
gathered_may name _ said may = may

-- the reason for which the line was not written then
pub unreported_reason : (name : List ℕ) (value : QuotaValue) (tells : RunTells) (old : RunSeen) (store : StoreSeen)
    (stated : Type 0) (cause : Cause)
    → (IsTrue tells.store → IsView (old.store.files name) User AnyTree (Ok value))
    → IsUnreported (Rose old.store.faults store.faults)
    (IsTrue tells.store → (value : QuotaValue) → ¬ IsView (old.store.files name) User AnyTree (Ok value)) cause
    → HasReason showing_uses old (with_out old store old.out) (IsWorldTold tells → stated) cause
unreported_reason name value tells old store stated StoreFault seen why = why
unreported_reason name value tells old store stated Memory seen why = tt
unreported_reason name value tells old store stated SourceFault seen why = absurd why
unreported_reason name value tells old store stated SinkFault seen why = absurd why
unreported_reason name value tells old store stated LinkFault seen why = absurd why
unreported_reason name value tells old store stated _ seen why = λ told. absurd (why told.store value (seen told.store))

-- The file.

-- a file that is seen as a value of users in vfsv1 is seen so whatever format is asked for
pub view_any : (named : Option (List ℕ)) (kind : Kind) (format : Format) (value : QuotaValue) → kind ≡ User
    → format ≡ V2R1 → IsView named kind (InFormat format) (Ok value) → IsView named User AnyTree (Ok value)
view_any named kind format value is_kind is_format view =
    let same : IsView named User (InFormat V2R1) (Ok value) =
    subst (λ (f : Format). IsView named User (InFormat f) (Ok value)) is_format
    (subst (λ (k : Kind). IsView named k (InFormat format) (Ok value)) is_kind view) in
    (same.0, same.1, tt)

-- the file was not made, though there would have been room
pub put_refused : (name text : List ℕ) (new : QuotaValue) (tells : RunTells) (old : RunSeen) (store : StoreSeen)
    (needed : ℕ) (fault : ReplaceFault) → needed ≤ most_blocks
    → IsReplaceFileFault old.store.faults store.faults needed most_blocks fault → UnlessStore fault (store ≡ old.store)
    → store.files name ≡ old.store.files name → ReplacesOne name old.store store
    → CarriesOut (Doing (Replace name new) (Doing (ToOut text) Finish)) generate_uses (GenerateMayRefuse name) tells old
    (with_store old store) (Err (refusal_of (replace_cause fault) name))
put_refused name text new tells old store needed PutFailed few cause unwritten same leaves =
    change_failed name text new tells old store cause.0 same leaves.files leaves.later
put_refused name text new tells old store needed (NoBlocks blocks limit) few cause unwritten same leaves =
    absurd (omega (arith, cause.0, few))
put_refused name text new tells old store needed NoMemory few cause unwritten same leaves =
    subst (λ (s : StoreSeen). CarriesOut (Doing (Replace name new) (Doing (ToOut text) Finish)) generate_uses
    (GenerateMayRefuse name) tells old (with_store old s) (Err (refusal_of Memory name))) (sym unwritten)
    (nothing_carried (Doing (Replace name new) (Doing (ToOut text) Finish)) generate_uses (GenerateMayRefuse name) tells
    old (refusal_of Memory name) (λ is. cc) tt (inr tt) (record { line = λ no. refl; input_line = λ no. refl }))
