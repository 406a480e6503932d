-- A file for which an edit was refused since it is full is so at the end.
use Rattle.std.proofs.Common.{◌≡◌, inl, inr, ℕ, Bool, true, false, List, ◌∷◌, Option, None, Some, Ok, Err, Result, refl}
use Rattle.std.proofs.Common.{sym, ap, subst}
use Rattle.std.proofs.lemmas.Option.{none-some}
use Rattle.id_names.specs.NamesFile.{NameLine}
use Rattle.quota_types.specs.declared.field.Field.{Field}
use Rattle.quota_types.specs.declared.file_kind.Kind.{Kind}
use Rattle.quota_value.specs.QuotaValue.{QuotaValue}
use Rattle.input_text.specs.declared.line_reader.LineFault.TheVariants.{Source}
use Rattle.quota_map.specs.Asked.{Asked, asked_of}
use Rattle.quota_map.specs.View.{IsView}
use Rattle.set_edit.specs.Editing.{Edit}
use Rattle.set_edit.specs.FormReading.{form_read}
use Rattle.set_edit.specs.declared.form_reading.FormFault.{FormFault}
use Rattle.set_edit.specs.declared.form_reading.FormFault.TheVariants.{Lines}
use Rattle.set_edit.specs.declared.limits.Limits.{Limits as FourLimits}
use Rattle.report_text.specs.Report.{shown_name}
use Rattle.id_names.specs.FirstMatch.{first_name}
use Rattle.command_words.specs.declared.command.Common.{Common}
use Rattle.refusals.specs.declared.cause.Cause.TheVariants.{Full}
use Rattle.refusals.specs.declared.reason.Refusal.{Refusal}
use Rattle.refusals.specs.Outcome.{Outcome, Passed, Refused}
use Rattle.run_steps.specs.Act.{Act, Change, InPlace}
use Rattle.run_steps.specs.Changing.{written}
use Rattle.quota_map.specs.Size.{blocks_after}
use Rattle.run_steps.specs.Done.{Outside}
use Rattle.run_steps.specs.Meaning.{EndsBy}
use Rattle.run_steps.specs.Naming.{names_seen}
use Rattle.run_steps.specs.Numbers.{identifier_of}
use Rattle.run_steps.specs.Steps.{Then}
use Rattle.run_steps.specs.Carrying.{AreDoneThen}
use Rattle.run_steps.specs.Taking.{input_name}
use Rattle.run_steps.specs.declared.invocation.Invocation.{Invocation}
use Rattle.run_steps.proofs.DoingLemmas.{doing_ends}
use Rattle.edit_commands.specs.Apply.{ApplySteps, FormSteps, form_outcome, form_step, IsFullForForm}
use Rattle.edit_commands.specs.Edits.{EditSteps, FileEditSteps, said_acts, warnings, IsFullForWords}
use Rattle.edit_steps.specs.EditStep.{changed, is_too_large}
use Rattle.edit_commands.specs.EditWords.{edit_meant, edit_read, names_wanted, skipped_by}
use Rattle.edit_steps.specs.Fits.{IsFullFor}
use Rattle.edit_commands.specs.declared.edit.EditWords.{EditWords}
use Rattle.edit_commands.specs.declared.edit.FileEdit.{FileEdit}
use Rattle.edit_commands.specs.declared.edit.FileEdit.TheVariants.{Limits}
use Rattle.edit_commands.proofs.EditLemmas.{Saying}
use Rattle.edit_commands.proofs.WordLemmas.{IsOfWord, edit_refusal, identifier_refusal}
use Rattle.edit_steps.proofs.FullLemmas.{is_full, NeverFull, other_refusal, never_names, never_opened, then_passed}
use Rattle.edit_steps.proofs.FullLemmas.{taking_passed, full_for}

never_word : {V : Type 0} (outcome : Outcome V) → ((refusal : Refusal) → outcome ≡ Refused refusal → IsOfWord refusal)
    → NeverFull outcome
never_word (Passed value) word = tt
never_word (Refused refusal) word = of_word refusal (word refusal refl)
  where
    of_word : (said : Refusal) → IsOfWord said → is_full said.cause ≡ false
    of_word said (inl unknown, place) = ap is_full unknown
    of_word said (inr bad, place) = ap is_full bad

never_form : (name : List ℕ) (read : Result FourLimits FormFault) → NeverFull (form_outcome name read)
never_form name (Ok limits) = tt
never_form name (Err (Lines Source)) = refl
never_form name (Err _) = refl

-- acts that were done end with no refusal
never_done : {R : Type 0} (acts : List Act) (old : Outside) (done : List Act) (new : Outside) (refusal : Refusal)
    → EndsBy (AreDoneThen acts None) old done new (Some refusal) → R
never_done acts old done new refusal ends =
    absurd (none-some refusal (sym (doing_ends acts None old done new (Some refusal) ends)))

written_full : (kind : Kind) (asked : Asked) (file : List ℕ) (edit : Edit) (value new : QuotaValue)
    (lines : List (List ℕ)) (old : Outside) (acts : List Act) (to : Outside) (refusal : Refusal) (blocks limit : ℕ)
    → refusal.cause ≡ Full blocks limit → IsView (old.files file) kind asked (Ok value) → edit.edited value ≡ Ok new
    → (idle : Bool) → edit.is_idle value ≡ idle → (large : Bool) → is_too_large edit (old.files file) new ≡ large
    → EndsBy (Saying (written InPlace file (blocks_after (old.files file) new) new idle large) lines) old acts
    to (Some refusal)
    → (refusal.name ≡ file) × IsFullFor kind asked edit (to.files file) blocks limit
written_full kind asked file edit value new lines old acts to refusal blocks limit is view set true idle large more
    ends = never_done (said_acts lines) old acts to refusal ends
written_full kind asked file edit value new lines old acts to refusal blocks limit is view set false idle
    true more ends =
    subst
    (λ (o : Outside). (refusal.name ≡ file) × IsFullFor kind asked edit (o.files file) blocks limit) (sym ends.same)
    (full_for kind asked file edit value new old.files refusal _ blocks limit view set idle more is ends.ends refl refl)
written_full kind asked file edit value new lines old acts to refusal blocks limit is view set false idle false more
    ends = never_done (Change InPlace file new ∷ said_acts lines) old acts to refusal ends

step_full : (kind : Kind) (asked : Asked) (file : List ℕ) (edit : Edit) (value : QuotaValue) (lines : List (List ℕ))
    (old : Outside) (acts : List Act) (to : Outside) (refusal : Refusal) (blocks limit : ℕ)
    → refusal.cause ≡ Full blocks limit → IsView (old.files file) kind asked (Ok value)
    → (edited : Result QuotaValue (Field × ℕ)) → edit.edited value ≡ edited
    → EndsBy (Saying (changed InPlace file edit (old.files file) value edited) lines) old acts to (Some refusal)
    → (refusal.name ≡ file) × IsFullFor kind asked edit (to.files file) blocks limit
step_full kind asked file edit value lines old acts to refusal blocks limit is view (Ok new) set ends =
    written_full kind asked file edit value new lines old acts to refusal blocks limit is view set (edit.is_idle value)
    refl (is_too_large edit (old.files file) new) refl ends
step_full kind asked file edit value lines old acts to refusal blocks limit is view (Err out) set ends =
    other_refusal refusal _ blocks limit is ends.ends refl

file_full : (kind : Kind) (asked : Asked) (edit : FileEdit) (file : List ℕ) (invocation : Invocation) (old : Outside)
    (acts : List Act) (new : Outside) (refusal : Refusal) (blocks limit : ℕ)
    → refusal.cause ≡ Full blocks limit
    → EndsBy (FileEditSteps kind asked edit file invocation) old acts new (Some refusal)
    → (refusal.name ≡ file) × IsFullFor kind asked (edit_meant edit invocation.now) (new.files file) blocks limit
file_full kind asked edit file invocation old acts new refusal blocks limit is (inl seen) =
    let meant = edit_meant edit invocation.now in
    step_full kind asked file meant seen.0 (warnings invocation.line (skipped_by edit seen.0)) old acts new refusal
    blocks limit is seen.1 (meant.edited seen.0) refl seen.2
file_full kind asked edit file invocation old acts new refusal blocks limit is (inr bad) =
    other_refusal refusal _ blocks limit is bad.2.ends (never_opened bad.0)

-- Edits by words, and by a form.

pub words_full : (common : Common) (words : EditWords) (file : List ℕ) (invocation : Invocation) (old : Outside)
    (acts : List Act) (new : Outside) (refusal : Refusal) (blocks limit : ℕ)
    → EndsBy (EditSteps common words file invocation) old acts new (Some refusal) → refusal.cause ≡ Full blocks limit
    → (refusal.name ≡ file) × IsFullForWords common words file invocation.now old new.files blocks limit
words_full common words file invocation old acts new refusal blocks limit ends is =
    let edits = λ (edit : FileEdit). FileEditSteps common.kind (asked_of common.format) edit file invocation in
    let wanted = names_wanted words common.names in
    let named = then_passed (names_seen common.kind wanted old.files)
    (λ (n : List NameLine). Then (edit_read n words) edits) old acts new refusal blocks limit is
    (never_names common.kind wanted old.files) ends in
    let read = then_passed (edit_read named.0 words) edits old acts new refusal blocks limit is
    (never_word (edit_read named.0 words) (λ r so. edit_refusal named.0 words r so)) named.2 in
    let full =
    file_full common.kind (asked_of common.format) read.0 file invocation old acts new refusal blocks limit is read.2 in
    (full.0, record { names = named.0; edit = read.0; known = named.1; read = read.1; full = full.1 })

pub form_full : (common : Common) (from : Option (List ℕ)) (word file : List ℕ) (invocation : Invocation)
    (old : Outside) (acts : List Act) (new : Outside) (refusal : Refusal) (blocks limit : ℕ)
    → EndsBy (ApplySteps common from word file invocation) old acts new (Some refusal)
    → refusal.cause ≡ Full blocks limit
    → (refusal.name ≡ file) × IsFullForForm common from word file invocation.now old new.files blocks limit
form_full common from word file invocation old acts new refusal blocks limit ends is =
    let edits = λ (id : ℕ) (limits : FourLimits).
    FileEditSteps common.kind (asked_of common.format) (Limits id limits) file invocation in
    let forms =
    λ (n : List NameLine) (id : ℕ). FormSteps common.kind (asked_of common.format) n from id file invocation in
    let named = then_passed (names_seen common.kind common.names old.files)
    (λ (n : List NameLine). Then (identifier_of n word) (forms n)) old acts new refusal blocks limit is
    (never_names common.kind common.names old.files) ends in
    let read = then_passed (identifier_of named.0 word) (forms named.0) old acts new refusal blocks limit is
    (never_word (identifier_of named.0 word) (λ r so. identifier_refusal named.0 word r so)) named.2 in
    let said = taking_passed from (λ (limits : FourLimits). true) (form_step common.kind named.0 file read.0 from)
    (edits read.0) old acts new refusal blocks limit is
    (λ bytes. never_form (input_name from)
    (form_read common.kind (shown_name (first_name named.0) read.0) read.0 file bytes)) read.2 in
    let full = file_full common.kind (asked_of common.format) (Limits read.0 said.0) file invocation
    (record old { input = said.1 }) acts new refusal blocks limit is said.3 in (
      full.0,
      record {
        names = named.0;
        id = read.0;
        limits = said.0;
        known = named.1;
        read = read.1;
        said = said.2;
        full = full.1;
      },
    )
