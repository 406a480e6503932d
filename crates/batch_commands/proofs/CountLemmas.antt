-- How many lines were edited, where their edits did not end since something failed.
use Rattle.std.proofs.Common.{◌≡◌, ℕ, ◌≤◌, List, [], ◌∷◌, ◌++◌, Option, None, Some, Ok, Err, Result, refl, sym, subst}
use Rattle.std.proofs.Common.{arith}
use Rattle.std.specs.Prelude.{◌+◌, ◌*◌, ◌^◌, ◌<◌, IfErr}
use Rattle.quota_types.specs.Format.{record_size}
use Rattle.quota_types.specs.declared.file_kind.Format.{Format}
use Rattle.quota_types.specs.declared.file_kind.Format.TheVariants.{V1, V1R32, V2R0, V2R1}
use Rattle.quota_value.specs.QuotaValue.{QuotaValue}
use Rattle.outside.specs.Seen.{StoreSeen}
use Rattle.set_edit.specs.declared.edit_fault.EditFault.{EditFault}
use Rattle.refusals.specs.declared.cause.Cause.{Cause}
use Rattle.refusals.specs.declared.reason.Refusal.{Refusal}
use Rattle.refusals.specs.Outcome.{Outcome}
use Rattle.refusals.specs.Refusals.{refusal_of}
use Rattle.refusals.specs.Status.{group_of, status_of}
use Rattle.refusals.proofs.GroupLemmas.{ByFault, ByMemory, ByStep, GroupCase, group_case}
use Rattle.run_steps.specs.Act.{Act, Together}
use Rattle.run_steps.specs.Done.{AreDone, RunSeen, RunTells, outside_of}
use Rattle.run_steps.specs.Meaning.{EndsBy}
use Rattle.run_steps.specs.Steps.{DoingAll, Steps, Then}
use Rattle.run_steps.specs.Writes.{edits_in}
use Rattle.run_steps.proofs.DoingLemmas.{done_of, written_yet}
use Rattle.run_steps.proofs.OpeningLemmas.{none_done, outside_same, with_store}
use Rattle.run_steps.proofs.RowLemmas.{LeadsBy, done_both}
use Rattle.run_steps.proofs.WritesLemmas.{edits_in-append}
use Rattle.edit_steps.specs.EditStep.{edit_cause, value_left}
use Rattle.edit_steps.proofs.RefusedEditLemmas.{HasEditCause, IsRefusedAt, edit_reason_any}
use Rattle.batch_commands.specs.declared.batch_line.LineEdit.{LineEdit}
use Rattle.batch_commands.specs.Batch.{at_line, edit_of, line_uses, met_at, way_behind}
use Rattle.batch_commands.specs.BatchReading.{LineSteps}
use Rattle.batch_commands.specs.Together.{HasMade, IfOwn}
use Rattle.batch_commands.proofs.BatchLemmas.{AreMade}

-- acts were done that lead to the steps that are left, and these end there
made_end : (acts : List Act) (next steps : Steps) (tells : RunTells) (ended : Option Refusal) (made : ℕ)
    (old middle new : RunSeen) → LeadsBy acts next (outside_of middle) steps (outside_of old)
    → AreDone tells acts old middle → edits_in acts ≡ made → EndsBy next (outside_of middle) [] (outside_of new) ended
    → AreDone tells [] middle new → HasMade steps tells ended made old new
made_end acts next steps tells ended made old middle new leads done count by none = record {
  acts = acts ++ [];
  by_steps = leads.ends [] (outside_of new) ended by;
  done = done_both tells acts [] old middle new done none;
  counted = omega (arith, edits_in-append acts [], count);
}

-- all lines were
pub all_made : (others : ℕ) (file : List ℕ) (now : ℕ) (lines : List LineEdit) (start : QuotaValue) (made : ℕ)
    (tells : RunTells) (old : RunSeen) (store : StoreSeen) (holds : QuotaValue → Type 0)
    → AreMade (Together others) file now lines [] start made old.store store holds
    → HasMade (LineSteps (Together others) file now lines start) tells None made old (with_store old store)
all_made others file now lines start made tells old store holds are =
    let here = with_store old store in
    made_end are.acts (LineSteps are.next file now [] are.value) (LineSteps (Together others) file now lines start)
    tells None made old here here (are.leads (outside_of old) refl)
    (done_of are.acts tells old store are.done) (are.counted tt) (record { acts_none = refl; same = refl; ends = refl })
    (done_of [] tells here store (written_yet store))

-- a cause that is neither a fault nor want of memory is stated
own_stated : (cause : Cause) (failed stated : Type 0) → status_of cause < 4
    → GroupCase (group_of cause) failed stated → stated
own_stated cause failed stated own (ByFault four fails) = absurd (omega (arith, own, four))
own_stated cause failed stated own (ByMemory five) = absurd (omega (arith, own, five))
own_stated cause failed stated own (ByStep not_four not_five is) = is

-- those before a refused one were
pub refused_made : (others : ℕ) (file : List ℕ) (now : ℕ) (lines : List LineEdit) (line : LineEdit)
    (rest : List LineEdit) (start : QuotaValue) (made : ℕ) (tells : RunTells) (old : RunSeen) (before after : StoreSeen)
    (holds : QuotaValue → Type 0) (told : Type 0) (fault : EditFault)
    → AreMade (Together others) file now lines (line ∷ rest) start made old.store before holds
    → ((value : QuotaValue) → holds value
    → IsRefusedAt file (edit_of line now) value told before after (edit_cause fault))
    → HasEditCause (edit_of line now) (before.files file) before.faults after.faults holds fault
    → old.store.faults ≤ before.faults → status_of (edit_cause fault) < 4
    → HasMade (LineSteps (Together others) file now lines start) tells
    (Some (at_line line.number (refusal_of (edit_cause fault) file))) made old (with_store old after)
refused_made others file now lines line rest start made tells old before after holds told fault are refused
    cause later own =
    let way = Together others in
    let edit = edit_of line now in
    let said = at_line line.number (refusal_of (edit_cause fault) file) in
    let here = with_store old before in
    let new = with_store old after in
    let next = LineSteps are.next file now (line ∷ rest) are.value in
    let behind = λ (acts : List Act). DoingAll acts
    (LineSteps (way_behind are.next (edit.is_idle are.value)) file now rest
    (value_left (edit.edited are.value) are.value)) in
    let is = own_stated (edit_cause fault) _ _ own
    (group_case (group_of (edit_cause fault)) _ _
    (edit_reason_any file edit (before.files file) line_uses old new before.faults holds fault later cause)) are.next
    are.value are.held in
    let read = (refused are.value are.held).whole is.1 in
    made_end are.acts next (LineSteps way file now lines start) tells (Some said) made old here new
    (are.leads (outside_of old) refl) (done_of are.acts tells old before are.done) (are.counted tt)
    (subst (λ (o : Outcome (List Act)).
    EndsBy (Then (met_at line.number o) behind) (outside_of here) [] (outside_of new) (Some said)) (sym is.0)
    (record { acts_none = refl; same = outside_same here after read.files; ends = refl }))
    (none_done tells here after old.input (record { files = read.files; writes = read.writes }))

-- a fact of edits that did not end since something failed
pub own_so : (ended : Result (Unit {0}) Refusal) (fact : Type 0)
    → IfErr ended (λ (refusal : Refusal). status_of refusal.cause < 4) → IfOwn ended fact → fact
own_so (Ok passed) fact own is = is
own_so (Err refusal) fact own is = is own

-- the record of an identifier of 32 bits ends early in a flat file, whatever the size of its records
pub record_end_small : (format : Format) (id : ℕ) → id < 2 ^ 32 → record_size format * (id + 1) < 2 ^ 40
record_end_small V1 id low = omega (arith, low)
record_end_small V1R32 id low = omega (arith, low)
record_end_small V2R0 id low = omega (arith, low)
record_end_small V2R1 id low = omega (arith, low)
