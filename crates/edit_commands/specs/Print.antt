-- `edquota --print`. Source: the manual page of edquota; that the limits are shown as a form is this project's own.
use Rattle.std.specs.Prelude.{◌≡◌, ◌⊎◌, ℕ, List, [], Option, None, is_none, if◌then◌else◌, Ok}
use Rattle.id_names.specs.FirstMatch.{first_name}
use Rattle.id_names.specs.NamesFile.{NameLine}
use Rattle.quota_types.specs.declared.file_kind.Kind.{Kind}
use Rattle.quota_value.specs.QuotaValue.{QuotaValue}
use Rattle.report_text.specs.Report.{shown_name}
use Rattle.set_edit.specs.Form.{form_of}
use Rattle.set_edit.specs.Times.{record_in}
use Rattle.refusals.specs.declared.cause.Cause.{Cause}
use Rattle.refusals.specs.declared.reason.Refusal.{Refusal}
use Rattle.command_words.specs.declared.command.Common.{Common}
use Rattle.run_steps.specs.Naming.{MayBeNames, NamesMayRefuse, names_seen}
use Rattle.refusals.specs.Outcome.{Passed, Refused, refusal_in}
use Rattle.refusals.specs.Refusals.{refusal_of}
use Rattle.run_steps.specs.Steps.{Naming, Steps, Then}
use Rattle.run_steps.specs.declared.invocation.Invocation.{Invocation}
use Rattle.run_steps.specs.Showing.{ShowingMayRefuse, ShowingSteps, showing_uses}
use Rattle.run_steps.specs.Numbers.{identifier_of}
use Rattle.quota_map.specs.Asked.{Asked, asked_of}
use Rattle.quota_map.specs.View.{IsView}
use Rattle.run_steps.specs.Done.{Outside}
use Rattle.descriptions.specs.Description.{Description, file_given, looks_at, row}

-- the form of an identifier in a file of this name: of its record, or of one of zeros
abbrev pub form_on : Kind → List NameLine → List ℕ → ℕ → QuotaValue → List ℕ
form_on kind names file id value = form_of kind (shown_name (first_name names) id) id file (record_in value id)

-- the names are read, and then the word for the identifier; the file is opened, and the form goes to the output
abbrev pub PrintSteps : Common → List ℕ → List ℕ → Invocation → Steps
PrintSteps common word file invocation =
    Naming common.kind common.names (λ (names : List NameLine).
    Then (identifier_of names word) (λ (id : ℕ).
    ShowingSteps common.kind (asked_of common.format) file (form_on common.kind names file id)))

-- the refusal of the word for the identifier, where it rests on no file of names
abbrev pub faulty_print : Common → List ℕ → Option Refusal
faulty_print common word = if is_none common.names then refusal_in (identifier_of [] word) else None

-- the causes for which a form may not be shown, whatever is told, where these are the names
abbrev pub NamedPrintMayRefuse : Asked → List ℕ → List ℕ → List NameLine → Cause → List ℕ → Type 0
NamedPrintMayRefuse asked word file names cause name =
    (identifier_of names word ≡ Refused (refusal_of cause name))
    ⊎ ((id : ℕ) × (identifier_of names word ≡ Passed id) × ShowingMayRefuse asked file cause name)

-- the causes for which a form may not be shown, whatever is told
abbrev pub PrintMayRefuse : Common → List ℕ → List ℕ → Cause → List ℕ → Type 0
PrintMayRefuse common word file cause name =
    NamesMayRefuse common.names cause name
    ⊎ ((names : List NameLine) × MayBeNames common.names names
    × NamedPrintMayRefuse (asked_of common.format) word file names cause name)

-- The description.

-- a form that is printed: the names and its word are known, and the file is accepted
abbrev pub CanPrint : Common → (word file : List ℕ) → Outside → Type 0
CanPrint common word file old =
    (names : List NameLine) × (id : ℕ) × (value : QuotaValue)
    × (names_seen common.kind common.names old.files ≡ Passed names)
    × (identifier_of names word ≡ Passed id) × IsView (old.files file) common.kind (asked_of common.format) (Ok value)

-- the limits of an identifier as a form
abbrev pub printing : Common → (name file : List ℕ) → Description
printing common name file = record (row (PrintSteps common name file) showing_uses (PrintMayRefuse common name file)) {
  faulty = faulty_print common name;
  looks = looks_at (file_given common file) common.names None;
  suffices = λ (invocation : Invocation). CanPrint common name file;
}
