-- Edits of lines, one after another: what they have done up to one of them, what a command does that makes them, and
-- for what the edit of one may fail.
use Rattle.std.proofs.Common.{◌≡◌, ◌≢◌, ◌⊎◌, ℕ, ◌+◌, Bool, false, IsTrue, List, [], ◌∷◌, ◌++◌, Option, None, Some, Ok}
use Rattle.std.proofs.Common.{Err, Result, inl, inr, refl, sym, subst, ◌∙◌, arith, true}
use Rattle.std.specs.Prelude.{IsOkAnd, is_none, ⊤}
use Rattle.std.proofs.lemmas.Bool.{false≢true}
use Rattle.id_names.specs.NamesFile.{NameLine}
use Rattle.quota_types.specs.declared.field.Field.{Field}
use Rattle.quota_types.specs.declared.file_kind.Format.{Format}
use Rattle.opened_file.specs.EditsOne.{EditsOne}
use Rattle.outside.specs.Frame.{OnlyReads}
use Rattle.quota_value.specs.QuotaValue.{QuotaValue}
use Rattle.outside.specs.Seen.{StoreSeen}
use Rattle.outside.proofs.FrameLemmas.{only_reads-none}
use Rattle.quota_map.specs.Asked.{Asked}
use Rattle.quota_map.specs.AnyFile.{any_seen}
use Rattle.quota_map.specs.declared.any_file.AnyFile.{AnyFile}
use Rattle.quota_map.specs.View.{IsOpenedAs, fresh_seen}
use Rattle.set_edit.specs.Edits.{limits_edit}
use Rattle.set_edit.specs.declared.limits.Limits.{Limits as FourLimits}
use Rattle.set_edit.specs.declared.edit_fault.EditFault.{EditFault}
use Rattle.batch_commands.specs.declared.batch_line.LineEdit.{LineEdit}
use Rattle.refusals.specs.declared.cause.Cause.{Cause}
use Rattle.refusals.specs.declared.cause.Cause.TheVariants.{StoreFault, SourceFault, SinkFault, LinkFault}
use Rattle.refusals.specs.declared.cause.Cause.TheVariants.{Memory as NoMemory}
use Rattle.refusals.specs.declared.reason.Refusal.{Refusal}
use Rattle.refusals.specs.Outcome.{Outcome, Passed, Refused}
use Rattle.refusals.specs.Refusals.{refusal_of}
use Rattle.run_steps.specs.Act.{Act, Behind, InPlace, Together, Way}
use Rattle.run_steps.specs.Done.{Outside, RunSeen, RunTells, outside_of}
use Rattle.run_steps.specs.Meaning.{EndsBy}
use Rattle.run_steps.specs.Opening.{MayRefuseOpening}
use Rattle.run_steps.specs.Run.{HasReason, HasSteps, IsDoneInPart}
use Rattle.run_steps.specs.Carrying.{CarriesOut}
use Rattle.run_steps.specs.Steps.{DoingAll, Then, Steps}
use Rattle.run_steps.specs.Writes.{edits_in}
use Rattle.batch_commands.specs.Batch.{Applying, AskedEdits, EditsThen, LineEditMayRefuse, LineMayRefuse, at_line}
use Rattle.batch_commands.specs.Batch.{edit_of, line_uses, met_at, way_behind, way_of}
use Rattle.batch_commands.specs.BatchReading.{IsOfInputLine, LineSteps}
use Rattle.edit_steps.specs.EditStep.{value_left, ChangeMayRefuse, edit_cause, edit_step}
use Rattle.run_steps.proofs.DoingLemmas.{AreWritten, done_of, written_both, written_none}
use Rattle.run_steps.proofs.LookingLemmas.{AddsEnd, adds_looking, adds_none, adds_then, leads_doing, part_adding}
use Rattle.run_steps.proofs.LookingLemmas.{steps_adding}
use Rattle.run_steps.proofs.OpeningLemmas.{refused_steps, store_later, with_store}
use Rattle.run_steps.proofs.PartLemmas.{carried_whole, part_but_output, part_from}
use Rattle.run_steps.proofs.ReasonLemmas.{reason_but_stated}
use Rattle.run_steps.proofs.RowLemmas.{LeadsBy, led_both, part_led, steps_led}
use Rattle.batch_commands.proofs.BatchInputLemmas.{unnamed}
use Rattle.edit_steps.proofs.EditFileLemmas.{AnyEdits, edit_may}
use Rattle.run_steps.proofs.WritesLemmas.{edits_in-append}
use Rattle.edit_steps.proofs.EditLemmas.{IsMade, acts_of, acts_written, change_acts, step_made}
use Rattle.edit_steps.proofs.RefusedEditLemmas.{HasEditCause, IsRefusedAt, edit_no_output, edit_reason_any}
use Rattle.edit_steps.proofs.RefusedEditLemmas.{refused_part}

-- the value that an edit left is held
pub left_held : (holds : QuotaValue → Type 0) (edited : Result QuotaValue (Field × ℕ)) (value : QuotaValue)
    → IsOkAnd edited holds → holds (value_left edited value)
left_held holds (Ok new) value held = held
left_held holds (Err out) value held = absurd held

-- Edits that were made, one after another.

-- edits of this way are acts even where they have nothing to do
abbrev pub Counts : Way → Type 0
Counts InPlace = ⊥
Counts way = ⊤

-- Of the lines these are left: the edits of those before them were made, so many, the file holds the value that they
-- left, and the steps of all lines go on with those of these.
pub record AreMade (way : Way) (file : List ℕ) (now : ℕ) (lines rest : List LineEdit) (start : QuotaValue) (made : ℕ)
    (old store : StoreSeen) (holds : QuotaValue → Type 0) : Type 0 where
  pub value : QuotaValue
  pub next : Way
  pub held : holds value
  pub acts : List Act
  pub done : AreWritten acts old store
  pub leads : (from : Outside) → from.files ≡ old.files
      → LeadsBy acts (LineSteps next file now rest value) (record from { files = store.files })
      (LineSteps way file now lines start) from
  pub goes_on : Counts way → Counts next
  pub counted : Counts way → edits_in acts ≡ made

-- none was made yet
pub made_none : {done : Bool} (way : Way) (file : List ℕ) (now : ℕ) (lines : List LineEdit) (start : QuotaValue)
    (name : List ℕ) (old store : StoreSeen) (holds : QuotaValue → Type 0) → OnlyReads done name old store → holds start
    → AreMade way file now lines lines start 0 old store holds
made_none way file now lines start name old store holds reads held = record {
  value = start;
  next = way;
  held = held;
  acts = [];
  done = written_none name old store reads;
  leads = λ from same. leads_doing [] (LineSteps way file now lines start) from store.files (reads.files ∙ sym same);
  goes_on = λ counts. counts;
  counted = λ counts. refl;
}

-- so no act was done
pub none_acts : {done : Bool} (way : Way) (file : List ℕ) (now : ℕ) (lines : List LineEdit) (start : QuotaValue)
    (name : List ℕ) (old store : StoreSeen) (holds : QuotaValue → Type 0) → (reads : OnlyReads done name old store)
    → (held : holds start)
    → (made_none way file now lines start name old store holds reads held).acts ≡ []
unfolding made_none
none_acts way file now lines start name old store holds reads held = refl

-- the steps of a line whose edit was made go on with those of the lines behind it
line_leads : (way : Way) (file : List ℕ) (now : ℕ) (line : LineEdit) (rest : List LineEdit) (value : QuotaValue)
    (told : Type 0) (before after : StoreSeen) (from : Outside)
    → IsMade file (edit_of line now) value told before after → told
    → LeadsBy (acts_of way file (edit_of line now) value)
    (LineSteps (way_behind way ((edit_of line now).is_idle value)) file now rest
    (value_left ((edit_of line now).edited value) value)) (record from { files = after.files })
    (LineSteps way file now (line ∷ rest) value) (record from { files = before.files })
line_leads way file now line rest value told before after from made is =
    let edit = edit_of line now in
    let acts = acts_of way file edit value in
    let next = LineSteps (way_behind way (edit.is_idle value)) file now rest (value_left (edit.edited value) value) in
    let here = record from { files = before.files } in
    let leads = subst
    (λ (o : Outcome (List Act)). LeadsBy acts next (record from { files = after.files })
    (Then (met_at line.number o) (λ (a : List Act). DoingAll a next)) here)
    (sym (step_made way file edit value told before after made is))
    (leads_doing acts next here after.files (acts_written way file edit value told before after made is).files) in
    record { ends = leads.ends; begun = leads.begun }

-- such an edit is one act
acts_counted : (way : Way) (name : List ℕ) (new : QuotaValue) (idle : Bool) → Counts way
    → edits_in (change_acts way name new idle) ≡ 1
acts_counted InPlace name new idle counts = absurd counts
acts_counted (Together others) name new true counts = refl
acts_counted (Together others) name new false counts = refl
acts_counted Behind name new true counts = refl
acts_counted Behind name new false counts = refl

-- and so are those behind it
counts_on : (way : Way) (idle : Bool) → Counts way → Counts (way_behind way idle)
counts_on InPlace idle counts = counts
counts_on (Together others) true counts = counts
counts_on (Together others) false counts = counts
counts_on Behind idle counts = counts

-- one more was made
pub made_more : (way : Way) (file : List ℕ) (now : ℕ) (lines : List LineEdit) (line : LineEdit) (rest : List LineEdit)
    (start : QuotaValue) (made : ℕ) (old before after : StoreSeen) (holds after_holds : QuotaValue → Type 0)
    (told : Type 0) → told
    → (are : AreMade way file now lines (line ∷ rest) start made old before holds)
    → IsMade file (edit_of line now) are.value told before after
    → IsOkAnd ((edit_of line now).edited are.value) after_holds
    → AreMade way file now lines rest start (made + 1) old after after_holds
made_more way file now lines line rest start made old before after holds after_holds told is are one held =
    let edit = edit_of line now in
    let acts = acts_of are.next file edit are.value in
    let left = value_left (edit.edited are.value) are.value in
    let next = way_behind are.next (edit.is_idle are.value) in
    record {
      value = left;
      next = next;
      held = left_held after_holds (edit.edited are.value) are.value held;
      acts = are.acts ++ acts;
      done = written_both are.acts acts old before after are.done
          (acts_written are.next file edit are.value told before after one is);
      leads = λ from same.
          led_both are.acts acts (LineSteps next file now rest left)
          (LineSteps are.next file now (line ∷ rest) are.value) (LineSteps way file now lines start)
          (record from { files = after.files }) (record from { files = before.files }) from (are.leads from same)
          (line_leads are.next file now line rest are.value told before after from one is);
      goes_on = λ counts. counts_on are.next (edit.is_idle are.value) (are.goes_on counts);
      counted = λ counts.
          let before_it = are.counted counts in
          let own : edits_in acts ≡ 1 = acts_counted are.next file left (edit.is_idle are.value) (are.goes_on counts) in
          omega (arith, edits_in-append are.acts acts, before_it, own);
    }

-- its acts come behind those of the edits before it
pub more_acts : (way : Way) (file : List ℕ) (now : ℕ) (lines : List LineEdit) (line : LineEdit) (rest : List LineEdit)
    (start : QuotaValue) (made : ℕ) (old before after : StoreSeen) (holds after_holds : QuotaValue → Type 0)
    (told : Type 0) → (is : told)
    → (are : AreMade way file now lines (line ∷ rest) start made old before holds)
    → (one : IsMade file (edit_of line now) are.value told before after)
    → (held : IsOkAnd ((edit_of line now).edited are.value) after_holds)
    → (made_more way file now lines line rest start made old before after holds after_holds told is are one held).acts
    ≡ are.acts ++ acts_of are.next file (edit_of line now) are.value
unfolding made_more
more_acts way file now lines line rest start made old before after holds after_holds told is are one held = refl

-- What the steps of the lines that are left do, those of all lines do.
made_steps : (way : Way) (file : List ℕ) (now : ℕ) (lines rest : List LineEdit) (start : QuotaValue) (made : ℕ)
    (tells : RunTells) (old : RunSeen) (before after : StoreSeen) (holds : QuotaValue → Type 0) (ended : Option Refusal)
    → (are : AreMade way file now lines rest start made old.store before holds)
    → HasSteps (LineSteps are.next file now rest are.value) tells ended (with_store old before) (with_store old after)
    → HasSteps (LineSteps way file now lines start) tells ended old (with_store old after)
made_steps way file now lines rest start made tells old before after holds ended are has =
    steps_led are.acts (LineSteps are.next file now rest are.value) (LineSteps way file now lines start) tells ended old
    (with_store old before) (with_store old after) (are.leads (outside_of old) refl)
    (done_of are.acts tells old before are.done) has

-- All edits were made.

pub all_carried : (way : Way) (file : List ℕ) (now : ℕ) (lines : List LineEdit) (start : QuotaValue) (made : ℕ)
    (may : Cause → List ℕ → Type 0) (tells : RunTells) (old : RunSeen) (store : StoreSeen) (holds : QuotaValue → Type 0)
    → (IsTrue tells.store → AreMade way file now lines [] start made old.store store holds)
    → EditsOne file old.store store
    → CarriesOut (LineSteps way file now lines start) line_uses may tells old (with_store old store) (Ok tt)
all_carried way file now lines start made may tells old store holds are leaves =
    carried_whole (LineSteps way file now lines start) line_uses may tells old (with_store old store) tt
    (λ told. made_steps way file now lines [] start made tells old store store holds None (are told.store) (record {
      acts = [];
      by_steps = record { acts_none = refl; same = refl; ends = refl };
      done = done_of [] tells (with_store old store) store
          (written_none file store store (only_reads-none {done = true} file store));
    }))
    (λ only. absurd (false≢true (sym only))) (λ no. refl) (store_later old store leaves.later)

-- An edit was refused.

-- what was done of the steps of an outcome was done of those of one that is met at a line
pub met_part : {why : Option Cause} (number : ℕ) (outcome : Outcome (List Act)) (next : List Act → Steps)
    (tells : RunTells) (old new : RunSeen) → IsDoneInPart (Then outcome next) tells why old new
    → IsDoneInPart (Then (met_at number outcome) next) tells why old new
met_part number (Passed acts) next tells old new part = part
met_part number (Refused refusal) next tells old new part =
    part_from (Then (Refused refusal) next) (Then (met_at number (Refused refusal)) next) tells old old.store old.input
    new refl (λ done hand now by. by) part

pub line_refused : (way : Way) (file : List ℕ) (now : ℕ) (lines : List LineEdit) (line : LineEdit)
    (rest : List LineEdit) (start : QuotaValue) (made : ℕ) (may : Cause → List ℕ → Type 0) (tells : RunTells)
    (old : RunSeen) (before after : StoreSeen)
    (holds : QuotaValue → Type 0) (fault : EditFault)
    → (IsTrue tells.store → AreMade way file now lines (line ∷ rest) start made old.store before holds)
    → ((value : QuotaValue) → holds value
    → IsRefusedAt file (edit_of line now) value (IsTrue tells.store) before after (edit_cause fault))
    → HasEditCause (edit_of line now) (before.files file) before.faults after.faults holds fault
    → EditsOne file old.store before → EditsOne file before after → may (edit_cause fault) file
    → CarriesOut (LineSteps way file now lines start) line_uses may tells old (with_store old after)
    (Err (at_line line.number (refusal_of (edit_cause fault) file)))
line_refused way file now lines line rest start made may tells old before after holds fault are_made refused cause first
    leaves allowed =
    let edit = edit_of line now in
    let said = at_line line.number (refusal_of (edit_cause fault) file) in
    let behind = λ (next : Way) (value : QuotaValue) (acts : List Act). DoingAll acts
    (LineSteps (way_behind next (edit.is_idle value)) file now rest (value_left (edit.edited value) value)) in
    let own = λ (next : Way) (value : QuotaValue). edit_step next file edit (before.files file) value in
    record {
      done = tt;
      refused = reason_but_stated line_uses old (with_store old after) _ _ (edit_cause fault) (λ step told.
          let are = are_made told.store in
          let is = step are.next are.value are.held in
          made_steps way file now lines (line ∷ rest) start made tells old before after holds (Some said) are
          (refused_steps file (LineSteps are.next file now (line ∷ rest) are.value) tells (with_store old before) after
          said ((refused are.value are.held).whole is.1) (λ new same.
          subst (λ (o : Outcome (List Act)). EndsBy (Then (met_at line.number o) (behind are.next are.value))
          (outside_of (with_store old before)) [] new (Some said)) (sym is.0)
          (record { acts_none = refl; same = same; ends = refl }))))
          (edit_reason_any file edit (before.files file) line_uses old (with_store old after) before.faults holds fault
          first.later cause);
      part = λ told.
          let are = are_made told.store in
          let here = with_store old before in
          let steps = LineSteps are.next file now (line ∷ rest) are.value in
          part_led are.acts steps (LineSteps way file now lines start) tells old here (with_store old after)
          (omega arith) (omega arith) (are.leads (outside_of old) refl) (done_of are.acts tells old before are.done)
          (part_from (Then (met_at line.number (own are.next are.value)) (behind are.next are.value)) steps tells here
          before old.input (with_store old after) refl (λ done hand now by. by)
          (met_part line.number (own are.next are.value) (behind are.next are.value) tells here (with_store old after)
          (refused_part are.next file edit are.value (behind are.next are.value) tells here after (edit_cause fault)
          (edit_no_output fault) (λ act from. inl (record { done_none = refl; at_hand = refl; same = refl }))
          (refused are.value are.held) told.store)));
      may_refuse = allowed;
      placed = record { line = λ no. refl; input_line = λ no. unnamed line.number (edit_cause fault) no };
      only_reads = λ only. absurd (cc);
      all_or_nothing = λ whole. absurd (false≢true whole);
      quiet = λ no. refl;
      later = record {
        store = omega (arith, first.later, leaves.later);
        input = omega arith;
        out = omega arith;
        err = omega arith;
        link = omega arith;
      };
    }

-- What comes behind the edits.

-- the refusal of a line is no fault
line_is_reason : (names : List NameLine) (place : List ℕ) (old new : RunSeen) (stated : Type 0) (cause : Cause)
    (said : List ℕ) → LineMayRefuse names place cause said → stated → HasReason line_uses old new stated cause
line_is_reason names place old new stated StoreFault said may so = absurd may
line_is_reason names place old new stated SourceFault said may so = absurd may
line_is_reason names place old new stated SinkFault said may so = absurd may
line_is_reason names place old new stated LinkFault said may so = absurd may
line_is_reason names place old new stated NoMemory said may so = absurd may
line_is_reason names place old new stated _ said may so = so

-- nor that of an output
line_no_output : (names : List NameLine) (place : List ℕ) (cause : Cause) (said : List ℕ)
    → LineMayRefuse names place cause said → Some cause ≢ Some SinkFault
line_no_output names place cause said may is =
    let sink : cause ≡ SinkFault = cc in
    subst (λ (c : Cause). LineMayRefuse names place c said) sink may

-- lines behind which a refusal comes do what the lines do, and then end with it
pub lines_add : (way : Way) (file : List ℕ) (now : ℕ) (lines : List LineEdit) (value : QuotaValue)
    (behind : Option Refusal)
    → AddsEnd behind (LineSteps way file now lines value) (EditsThen way file now lines value behind)
lines_add way file now [] value behind = adds_none behind
lines_add way file now (line ∷ lines) value behind =
    let edit = edit_of line now in
    let left = value_left (edit.edited value) value in
    let after = way_behind way (edit.is_idle value) in
    let adds = lines_add after file now lines left behind in
    adds_looking behind _ _
    (λ files. adds_then behind (met_at line.number (edit_step way file edit (files file) value))
    (LineSteps after file now lines left) (EditsThen after file now lines left behind) adds)

-- the edits before a refused line were made, and then comes its refusal
pub then_refused : (file : List ℕ) (now : ℕ) (start : QuotaValue) (names : List NameLine) (place : List ℕ)
    (asked : AskedEdits) (refusal : Refusal) (may more : Cause → List ℕ → Type 0) (tells : RunTells) (old new : RunSeen)
    → asked.refusal ≡ Some refusal → IsOfInputLine names place refusal → more refusal.cause refusal.name
    → CarriesOut (LineSteps (way_of asked.edits) file now asked.edits start) line_uses may tells old new (Ok tt)
    → CarriesOut (Applying file now start asked) line_uses more tells old new (Err refusal)
then_refused file now start names place asked refusal may more tells old new is line_may allowed carries =
    let steps = LineSteps (way_of asked.edits) file now asked.edits start in
    let all = Applying file now start asked in
    let adds = lines_add (way_of asked.edits) file now asked.edits start asked.refusal in
    record {
      done = tt;
      refused = line_is_reason names place old new _ refusal.cause refusal.name line_may.may (λ told.
          subst (λ (r : Option Refusal). HasSteps all tells r old new) is
          (steps_adding asked.refusal steps all tells None old new adds (carries.done told)));
      part =
          λ told. part_but_output all tells old new (line_no_output names place refusal.cause refusal.name line_may.may)
          (part_adding asked.refusal steps all tells old new adds (carries.part told));
      may_refuse = allowed;
      placed = record { line = λ no. line_may.line; input_line = line_may.input_line };
      only_reads = λ only. absurd (cc);
      all_or_nothing = λ whole. absurd (false≢true whole);
      quiet = carries.quiet;
      later = carries.later;
    }

-- the edits of all lines were made
pub then_ended : (file : List ℕ) (now : ℕ) (start : QuotaValue) (asked : AskedEdits)
    (may more : Cause → List ℕ → Type 0) (tells : RunTells) (old new : RunSeen)
    → asked.refusal ≡ None
    → CarriesOut (LineSteps (way_of asked.edits) file now asked.edits start) line_uses may tells old new (Ok tt)
    → CarriesOut (Applying file now start asked) line_uses more tells old new (Ok tt)
then_ended file now start asked may more tells old new is carries =
    let steps = LineSteps (way_of asked.edits) file now asked.edits start in
    let all = Applying file now start asked in
    carried_whole all line_uses more tells old new tt
    (λ told. subst (λ (r : Option Refusal). HasSteps all tells r old new) is
    (steps_adding asked.refusal steps all tells None old new
    (lines_add (way_of asked.edits) file now asked.edits start asked.refusal) (carries.done told)))
    (λ only. absurd (false≢true (sym only))) carries.quiet carries.later

-- an edit was refused, whatever comes behind the edits
pub then_stopped : (file : List ℕ) (now : ℕ) (start : QuotaValue) (asked : AskedEdits) (refusal : Refusal)
    (may more : Cause → List ℕ → Type 0) (tells : RunTells) (old new : RunSeen)
    → ((cause : Cause) (said : List ℕ) → may cause said → more cause said)
    → CarriesOut (LineSteps (way_of asked.edits) file now asked.edits start) line_uses may tells old new (Err refusal)
    → CarriesOut (Applying file now start asked) line_uses more tells old new (Err refusal)
then_stopped file now start asked refusal may more tells old new allows carries =
    let steps = LineSteps (way_of asked.edits) file now asked.edits start in
    let all = Applying file now start asked in
    let adds = lines_add (way_of asked.edits) file now asked.edits start asked.refusal in
    record {
      done = tt;
      refused = reason_but_stated line_uses old new _ _ refusal.cause
          (λ stated told. steps_adding asked.refusal steps all tells (Some refusal) old new adds (stated told))
          carries.refused;
      part = λ told. part_adding asked.refusal steps all tells old new adds (carries.part told);
      may_refuse = allows refusal.cause refusal.name carries.may_refuse;
      placed = carries.placed;
      only_reads = λ only. absurd (cc);
      all_or_nothing = λ whole. absurd (false≢true whole);
      quiet = carries.quiet;
      later = carries.later;
    }

-- an input is read to its end where there is no refusal
pub ends_none : (refusal : Option Refusal) → IsTrue (is_none refusal) → refusal ≡ None
ends_none None all = refl
ends_none (Some refusal) all = absurd (false≢true all)

-- for what the edit of a line may be refused
line_may_of : (asked : Asked) (file : List ℕ) (id : ℕ) (limits : FourLimits) (now : ℕ) (cause : Cause)
    → ChangeMayRefuse asked (limits_edit id limits now) file cause file ⊎ MayRefuseOpening asked file cause file
    → LineEditMayRefuse asked file cause file
line_may_of asked file id limits now cause (inl may) = inl (id, limits, now, may)
line_may_of asked file id limits now cause (inr may) = inr may

pub line_may_fail : {T : Type 0} (asked : Asked) (name : List ℕ) (id : ℕ) (limits : FourLimits) (now : ℕ) (tells : Bool)
    (opened file : AnyFile) (before after : StoreSeen) (format : Format) (fault : EditFault)
    → any_seen opened ≡ fresh_seen name format → IsOpenedAs asked format
    → AnyEdits {T = T} (limits_edit id limits now) tells opened file before after (Err fault)
    → LineEditMayRefuse asked name (edit_cause fault) name
line_may_fail asked name id limits now tells opened file before after format fault was as_asked edits =
    line_may_of asked name id limits now (edit_cause fault)
    (edit_may asked name (limits_edit id limits now) tells opened file before after format fault was as_asked edits)
