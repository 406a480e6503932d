-- `edquota --apply`. Source: the manual page of edquota; that the limits are read from a form is this project's own.
use Rattle.std.specs.Prelude.{◌≡◌, ◌⊎◌, ℕ, true, false, List, Option, Result, Ok, Err, Some}
use Rattle.id_names.specs.FirstMatch.{first_name}
use Rattle.id_names.specs.NamesFile.{NameLine}
use Rattle.input_text.specs.declared.line_reader.LineFault.TheVariants.{Source, Long, TooLarge as PastTotal}
use Rattle.quota_types.specs.declared.file_kind.Kind.{Kind}
use Rattle.report_text.specs.Report.{shown_name}
use Rattle.set_edit.specs.FormReading.{form_read}
use Rattle.set_edit.specs.declared.form_reading.FormFault.{FormFault}
use Rattle.set_edit.specs.declared.form_reading.FormFault.TheVariants.{Lines, BadForm as WrongLine}
use Rattle.set_edit.specs.declared.limits.Limits.{Limits as FourLimits}
use Rattle.refusals.specs.declared.cause.Cause.{Cause}
use Rattle.refusals.specs.declared.cause.Cause.TheVariants.{SourceFault, LongLine, TooLarge, BadForm}
use Rattle.command_words.specs.declared.command.Common.{Common}
use Rattle.edit_commands.specs.declared.edit.FileEdit.TheVariants.{Limits}
use Rattle.run_steps.specs.Naming.{MayBeNames, NamesMayRefuse, names_seen}
use Rattle.refusals.specs.Outcome.{Outcome, Passed, Refused}
use Rattle.run_steps.specs.Run.{Uses}
use Rattle.run_steps.specs.Steps.{Naming, Steps, Then}
use Rattle.run_steps.specs.Taking.{AForm, InputMayRefuse, Taking, input_name, reading, input_said}
use Rattle.refusals.specs.Refusals.{refusal_of}
use Rattle.run_steps.specs.declared.invocation.Invocation.{Invocation}
use Rattle.edit_commands.specs.Edits.{FileEditMayRefuse, FileEditSteps}
use Rattle.run_steps.specs.Changing.{edit_uses}
use Rattle.run_steps.specs.Numbers.{identifier_of}
use Rattle.quota_map.specs.Asked.{Asked, asked_of}
use Rattle.quota_value.specs.QuotaValue.{QuotaValue}
use Rattle.outside.specs.World.{World}
use Rattle.quota_map.specs.View.{IsView}
use Rattle.set_edit.specs.Edits.{limits_edit}
use Rattle.refusals.specs.declared.reason.Refusal.{Refusal}
use Rattle.run_steps.specs.Done.{Outside}
use Rattle.edit_steps.specs.Fits.{Fits, IsFullFor}
use Rattle.descriptions.specs.Description.{Description, file_given, looks_at, row}
use Rattle.edit_commands.specs.Print.{faulty_print}

-- what is said of a form that gives no limits, where this is said of what it is read from
abbrev pub form_cause : Cause → FormFault → Cause
form_cause failed (Lines Source) = failed
form_cause failed (Lines (Long line)) = LongLine line
form_cause failed (Lines PastTotal) = TooLarge
form_cause failed (WrongLine line) = BadForm line

-- the step that a form is which was read so
abbrev pub form_outcome : List ℕ → Result FourLimits FormFault → Outcome FourLimits
form_outcome name (Ok limits) = Passed limits
form_outcome name (Err fault) = Refused (refusal_of (form_cause SourceFault fault) name)

-- the step that reads the form of an identifier in a file of this name
abbrev pub form_step : Kind → List NameLine → List ℕ → ℕ → Option (List ℕ) → List ℕ → Outcome FourLimits
form_step kind names file id from bytes =
    form_outcome (input_name from) (form_read kind (shown_name (first_name names) id) id file bytes)

-- the form of an identifier is read, the file is opened, and the limits are set
abbrev pub FormSteps : Kind → Asked → List NameLine → Option (List ℕ) → ℕ → List ℕ → Invocation → Steps
FormSteps kind asked names from id file invocation =
    Taking from (λ limits. true) (form_step kind names file id from) (λ (limits : FourLimits).
    FileEditSteps kind asked (Limits id limits) file invocation)

-- the names are read, then the word for the identifier, and then the form, which has to be the one that is printed for
-- it
abbrev pub ApplySteps : Common → Option (List ℕ) → List ℕ → List ℕ → Invocation → Steps
ApplySteps common from word file invocation =
    Naming common.kind common.names (λ (names : List NameLine).
    Then (identifier_of names word) (λ (id : ℕ).
    FormSteps common.kind (asked_of common.format) names from id file invocation))

-- a form is read from an input, and changes the store as other edits do
abbrev pub apply_uses : Option (List ℕ) → Uses
apply_uses from = reading from (edit_uses false)

-- the causes for which a form may not be read, whatever is told
abbrev pub FormMayRefuse : Option (List ℕ) → Cause → List ℕ → Type 0
FormMayRefuse = InputMayRefuse AForm

-- the causes for which the form of an identifier may not be applied, whatever is told
abbrev pub FormEditMayRefuse : Asked → Option (List ℕ) → ℕ → List ℕ → Cause → List ℕ → Type 0
FormEditMayRefuse asked from id file cause name =
    FormMayRefuse from cause name
    ⊎ ((limits : FourLimits) × FileEditMayRefuse asked (Limits id limits) file cause name)

-- the causes for which a form of the word for an identifier may not be applied, where these are the names
abbrev pub NamedApplyMayRefuse : Asked → Option (List ℕ) → List ℕ → List ℕ → List NameLine → Cause → List ℕ → Type 0
NamedApplyMayRefuse asked from word file names cause name =
    (identifier_of names word ≡ Refused (refusal_of cause name))
    ⊎ ((id : ℕ) × (identifier_of names word ≡ Passed id) × FormEditMayRefuse asked from id file cause name)

-- the causes for which a form may not be applied, whatever is told
abbrev pub ApplyMayRefuse : Common → Option (List ℕ) → List ℕ → List ℕ → Cause → List ℕ → Type 0
ApplyMayRefuse common from word file cause name =
    NamesMayRefuse common.names cause name
    ⊎ ((names : List NameLine) × MayBeNames common.names names
    × NamedApplyMayRefuse (asked_of common.format) from word file names cause name)

-- The files have no room for the limits of a form: its word and its input were read with the names that the files had
-- at the start.
pub record IsFullForForm (common : Common) (from : Option (List ℕ)) (word file : List ℕ) (now : ℕ) (old : Outside)
    (files : World) (blocks limit : ℕ) : Type 0 where
  pub names : List NameLine
  pub id : ℕ
  pub limits : FourLimits
  pub known : names_seen common.kind common.names old.files ≡ Passed names
  pub read : identifier_of names word ≡ Passed id
  pub said : input_said from (form_step common.kind names file id from) old.files old.input ≡ Passed limits
  pub full : IsFullFor common.kind (asked_of common.format) (limits_edit id limits now) (files file) blocks limit

-- The description.

-- a form that is applied: the word is known, the form is that of the identifier, the file is accepted, and its limits
-- fit
abbrev pub CanApply : Common → Option (List ℕ) → (word file : List ℕ) → Invocation → Outside → Type 0
CanApply common from word file invocation old =
    (names : List NameLine) × (id : ℕ) × (limits : FourLimits) × (value : QuotaValue) × (new : QuotaValue)
    × (names_seen common.kind common.names old.files ≡ Passed names) × (identifier_of names word ≡ Passed id)
    × (input_said from (form_step common.kind names file id from) old.files old.input ≡ Passed limits)
    × IsView (old.files file) common.kind (asked_of common.format) (Ok value)
    × Fits (limits_edit id limits invocation.now) (old.files file) value new

-- a form becomes the limits of an identifier
abbrev pub applying : Common → Option (List ℕ) → (name file : List ℕ) → Description
applying common input name file =
    record (row (ApplySteps common input name file) (apply_uses input) (ApplyMayRefuse common input name file)) {
      faulty = faulty_print common name;
      edits = Some file;
      alone = Some file;
      most_writes = Some 12;
      looks = looks_at (file_given common file) common.names input;
      needs_room = true;
      full = λ (invocation : Invocation) (old : Outside) (files : World) (refusal : Refusal) (blocks limit : ℕ).
          (refusal.name ≡ file) × IsFullForForm common input name file invocation.now old files blocks limit;
      suffices = CanApply common input name file;
    }
