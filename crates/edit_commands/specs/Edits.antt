-- Commands that edit a file: new limits, those of another identifier, new grace periods, and new times. Source: the
-- manual page of setquota; that the words are read from left to right, all before the file is opened, is this project's
-- own.
use Rattle.std.specs.Prelude.{◌≡◌, ◌⊎◌, ℕ, IsTrue, Bool, if◌then◌else◌, List, [], ◌∷◌, ◌++◌, map, codes, Option, None}
use Rattle.std.specs.Prelude.{is_none, Some, Ok}
use Rattle.id_names.specs.NamesFile.{NameLine}
use Rattle.quota_value.specs.QuotaValue.{QuotaValue}
use Rattle.outside.specs.World.{World}
use Rattle.set_edit.specs.declared.skipped.Skipped.{Skipped}
use Rattle.quota_types.specs.declared.file_kind.Kind.{Kind}
use Rattle.refusals.specs.declared.cause.Cause.{Cause}
use Rattle.refusals.specs.declared.cause.Cause.TheVariants.{SinkFault}
use Rattle.refusals.specs.declared.reason.Refusal.{Refusal}
use Rattle.command_words.specs.declared.command.Common.{Common}
use Rattle.edit_commands.specs.declared.edit.EditWords.{EditWords}
use Rattle.edit_commands.specs.declared.edit.FileEdit.{FileEdit}
use Rattle.run_steps.specs.Act.{Act, InPlace, ToErr}
use Rattle.run_steps.specs.Naming.{MayBeNames, NamesMayRefuse, names_seen}
use Rattle.run_steps.specs.Opening.{MayRefuseOpening}
use Rattle.refusals.specs.Outcome.{Passed, Refused, refusal_in}
use Rattle.refusals.specs.Line.{front_of}
use Rattle.refusals.specs.Refusals.{refusal_of}
use Rattle.run_steps.specs.Steps.{DoingAll, Finish, Looking, Naming, Opening, Steps, Then}
use Rattle.run_steps.specs.declared.invocation.Invocation.{Invocation}
use Rattle.edit_commands.specs.EditWords.{edit_meant, edit_read, edit_warns, names_wanted, skipped_by, words_need_room}
use Rattle.edit_commands.specs.EditWords.{words_warn}
use Rattle.edit_steps.specs.EditStep.{edit_step, ChangeMayRefuse}
use Rattle.quota_map.specs.Asked.{Asked, asked_of}
use Rattle.quota_map.specs.View.{IsView}
use Rattle.run_steps.specs.Changing.{edit_uses}
use Rattle.run_steps.specs.Done.{Outside}
use Rattle.edit_steps.specs.Fits.{Fits, IsFullFor}
use Rattle.descriptions.specs.Description.{Description, file_given, looks_at, row}
use Rattle.edit_commands.specs.Made.{MakesWords}

-- The warnings.

-- a warning, in a line of a script or outside of one
unfoldable pub warning_line : Option ℕ → List ℕ → List ℕ
warning_line line text = codes "quota: " ++ front_of (record { line = line; input_line = None }) ++ text ++ codes "\n"

-- a warning where something was skipped
abbrev pub warning_if : Bool → List ℕ → List (List ℕ)
warning_if skipped line = if skipped then line ∷ [] else []

-- the warnings of times that were skipped, that of blocks first
abbrev pub warnings : Option ℕ → Skipped → List (List ℕ)
warnings line skipped =
    warning_if skipped.block (warning_line line (codes "block time not set, soft limit not exceeded"))
    ++ warning_if skipped.inode (warning_line line (codes "inode time not set, soft limit not exceeded"))

-- lines are said
abbrev pub said_acts : List (List ℕ) → List Act
said_acts lines = map ToErr lines

-- The steps.

-- the file is opened and edited as it is then, and what was skipped is warned of
abbrev pub FileEditSteps : Kind → Asked → FileEdit → List ℕ → Invocation → Steps
FileEditSteps kind asked edit file invocation =
    Opening kind asked file (λ (value : QuotaValue).
    Looking (λ (files : World).
    Then (edit_step InPlace file (edit_meant edit invocation.now) (files file) value) (λ (acts : List Act).
    DoingAll (acts ++ said_acts (warnings invocation.line (skipped_by edit value))) Finish)))

-- the names are read, and then the words, and then the file is edited
abbrev pub EditSteps : Common → EditWords → List ℕ → Invocation → Steps
EditSteps common words file invocation =
    Naming common.kind (names_wanted words common.names) (λ (names : List NameLine).
    Then (edit_read names words) (λ (edit : FileEdit).
    FileEditSteps common.kind (asked_of common.format) edit file invocation))

-- the refusal of the first faulty word, where it rests on no file of names
abbrev pub faulty_edit : Common → EditWords → Option Refusal
faulty_edit common words = if is_none (names_wanted words common.names) then refusal_in (edit_read [] words) else None

-- the causes for which the edit of a file may be refused, whatever is told
abbrev pub FileEditMayRefuse : Asked → FileEdit → List ℕ → Cause → List ℕ → Type 0
FileEditMayRefuse asked edit file cause name =
    ((now : ℕ) × ChangeMayRefuse asked (edit_meant edit now) file cause name)
    ⊎ (MayRefuseOpening asked file cause name
    ⊎ (IsTrue (edit_warns edit) × (cause ≡ SinkFault)))

-- the causes for which what words ask for may be refused, where these are the names
abbrev pub NamedEditMayRefuse : Asked → EditWords → List ℕ → List NameLine → Cause → List ℕ → Type 0
NamedEditMayRefuse asked words file names cause name =
    (edit_read names words ≡ Refused (refusal_of cause name))
    ⊎ ((edit : FileEdit) × (edit_read names words ≡ Passed edit) × FileEditMayRefuse asked edit file cause name)

-- the causes for which words that ask for an edit may be refused, whatever is told
abbrev pub EditMayRefuse : Common → EditWords → List ℕ → Cause → List ℕ → Type 0
EditMayRefuse common words file cause name =
    NamesMayRefuse (names_wanted words common.names) cause name
    ⊎ ((names : List NameLine) × MayBeNames (names_wanted words common.names) names
    × NamedEditMayRefuse (asked_of common.format) words file names cause name)

-- The files have no room for the edit that words ask for: its words were read with the names that the files had at the
-- start.
pub record IsFullForWords (common : Common) (words : EditWords) (file : List ℕ) (now : ℕ) (old : Outside)
    (files : World) (blocks limit : ℕ) : Type 0 where
  pub names : List NameLine
  pub edit : FileEdit
  pub known : names_seen common.kind (names_wanted words common.names) old.files ≡ Passed names
  pub read : edit_read names words ≡ Passed edit
  pub full : IsFullFor common.kind (asked_of common.format) (edit_meant edit now) (files file) blocks limit

-- The description.

-- an edit: the words are known and well formed, the file is accepted, and the edit fits in it
abbrev pub CanEdit : Common → EditWords → List ℕ → Invocation → Outside → Type 0
CanEdit common words file invocation old =
    (names : List NameLine) × (edit : FileEdit) × (value : QuotaValue) × (new : QuotaValue)
    × (names_seen common.kind (names_wanted words common.names) old.files ≡ Passed names)
    × (edit_read names words ≡ Passed edit)
    × IsView (old.files file) common.kind (asked_of common.format) (Ok value)
    × Fits (edit_meant edit invocation.now) (old.files file) value new

-- An edit of a file. New times may be refused once they were set, where the error output fails in a warning.
abbrev pub editing : Common → EditWords → List ℕ → Description
editing common words file =
    record (row (EditSteps common words file) (edit_uses (words_warn words)) (EditMayRefuse common words file)) {
      faulty = faulty_edit common words;
      edits = if words_warn words then None else Some file;
      alone = Some file;
      most_writes = Some 12;
      made = λ (invocation : Invocation) (old : Outside) (files : World).
          MakesWords common words file invocation.now old.files files;
      looks = looks_at (file_given common file) (names_wanted words common.names) None;
      needs_room = words_need_room words;
      full = λ (invocation : Invocation) (old : Outside) (files : World) (refusal : Refusal) (blocks limit : ℕ).
          (refusal.name ≡ file) × IsFullForWords common words file invocation.now old files blocks limit;
      suffices = CanEdit common words file;
    }
