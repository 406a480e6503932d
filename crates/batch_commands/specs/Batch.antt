-- `setquota -b`: new limits of many identifiers, a line of an input each. Source: the manual page of setquota; what
-- stands in a line, and that the edits of the lines before a refused one stay, is this project's own.
use Rattle.std.specs.Prelude.{◌≡◌, ◌⊎◌, ⊤, ℕ, ◌+◌, ◌*◌, ◌<◌, ◌≤◌, All, IsTrue, length, Bool, true, false, if◌then◌else◌}
use Rattle.std.specs.Prelude.{List, [], ◌∷◌, Option, Some, None, is_none}
use Rattle.std.specs.List.{list_all}
use Rattle.std.specs.Str.{is_utf8}
use Rattle.id_names.specs.NamesFile.{NameLine}
use Rattle.quota_types.specs.Format.{record_size}
use Rattle.quota_types.specs.declared.file_kind.Format.{Format}
use Rattle.input_text.specs.InputLines.{InputLines, NoLine, LineThen, LongNext, PastNext, input_lines}
use Rattle.quota_value.specs.QuotaValue.{QuotaValue}
use Rattle.input_text.specs.Words.{words_of}
use Rattle.file_blocks.specs.Block.{file_of}
use Rattle.outside.specs.World.{World}
use Rattle.quota_map.specs.Asked.{AnyTree, Asked, InFormat, asked_of}
use Rattle.quota_map.specs.View.{most_blocks, opening_reads, asks_tree}
use Rattle.set_edit.specs.Editing.{Edit}
use Rattle.set_edit.specs.Edits.{limits_edit}
use Rattle.set_edit.specs.declared.limits.Limits.{Limits as FourLimits}
use Rattle.batch_commands.specs.declared.batch_line.FiveWords.{FiveWords}
use Rattle.batch_commands.specs.declared.batch_line.LineEdit.{LineEdit}
use Rattle.refusals.specs.declared.cause.Cause.{Cause}
use Rattle.refusals.specs.declared.cause.Cause.TheVariants.{LongLine, TooLarge, BadLine, UnknownName, BadNumber}
use Rattle.refusals.specs.declared.reason.Refusal.{Refusal}
use Rattle.command_words.specs.declared.command.Common.{Common}
use Rattle.run_steps.specs.declared.invocation.Invocation.{Invocation}
use Rattle.run_steps.specs.Act.{Act, Behind, InPlace, Together, Way}
use Rattle.run_steps.specs.InputLine.{says_nothing}
use Rattle.run_steps.specs.Naming.{MayBeNames, NamesMayRefuse}
use Rattle.run_steps.specs.Opening.{MayRefuseOpening}
use Rattle.refusals.specs.Outcome.{Outcome, Passed, Refused, and_then}
use Rattle.run_steps.specs.Run.{Uses}
use Rattle.run_steps.specs.Steps.{DoingAll, Ending, Looking, Naming, Opening, Steps, Then}
use Rattle.run_steps.specs.Taking.{InputMayRefuse, Lines, Taking, input_name, reading}
use Rattle.edit_steps.specs.EditStep.{ChangeMayRefuse, edit_step, value_left}
use Rattle.refusals.specs.Refusals.{refusal_of, stands_in_line}
use Rattle.run_steps.specs.Numbers.{identifier_of, limit_read, limits_read}

-- Where a refusal stands.

-- a refusal that is met at a line of the input, and may stand in it, is told with its number
abbrev pub line_named : ℕ → Cause → Option ℕ
line_named number cause = if stands_in_line cause then Some number else None

-- a refusal that is met at a line of the input
abbrev pub at_line : ℕ → Refusal → Refusal
at_line number refusal =
    record {
      cause = refusal.cause;
      name = refusal.name;
      place = record { line = None; input_line = line_named number refusal.cause };
    }

-- the outcome of an edit that is met at a line of the input
abbrev pub met_at : {V : Type 0} → ℕ → Outcome V → Outcome V
met_at number (Passed value) = Passed value
met_at number (Refused refusal) = Refused (at_line number refusal)

-- What a line says.

-- The five words of a line, that for an identifier and those for its four limits. Each has to be UTF-8, and so is the
-- line then, since a blank is no part of a longer character.
abbrev pub five_of : List (List ℕ) → Option FiveWords
five_of (name ∷ bsoft ∷ bhard ∷ isoft ∷ ihard ∷ []) =
    if list_all is_utf8 (name ∷ bsoft ∷ bhard ∷ isoft ∷ ihard ∷ [])
    then Some (record { name = name; limits = bsoft ∷ bhard ∷ isoft ∷ ihard ∷ [] })
    else None
five_of words = None

-- what five words in the line of this number ask for
abbrev pub limits_asked : List NameLine → ℕ → FiveWords → Outcome LineEdit
limits_asked names number words =
    and_then (identifier_of names words.name) (λ (id : ℕ).
    and_then (limits_read words.limits) (λ (limits : FourLimits).
    Passed (record { number = number; id = id; limits = limits })))

-- the edit of a line, or its refusal, which is met at the line of this number
abbrev pub read_at : ℕ → Outcome LineEdit → Outcome (Option LineEdit)
read_at number (Passed edit) = Passed (Some edit)
read_at number (Refused refusal) = Refused (at_line number refusal)

-- what the line of this number asks for, by its five words, if it has them
abbrev pub words_ask : List NameLine → List ℕ → ℕ → Option FiveWords → Outcome (Option LineEdit)
words_ask names place number (Some words) = read_at number (limits_asked names number words)
words_ask names place number None = Refused (refusal_of (BadLine number) place)

-- the edit that a line asks for, if it says something
abbrev pub line_asks : List NameLine → List ℕ → ℕ → List ℕ → Outcome (Option LineEdit)
line_asks names place number line =
    if says_nothing line then Passed None else words_ask names place number (five_of (words_of line))

-- What an input says.

-- the edits that an input asks for, in order, up to the first line that is refused, and its refusal
pub record AskedEdits : Type 0 where
  pub edits : List LineEdit
  pub refusal : Option Refusal

-- nothing more is asked for
abbrev pub ends_with : Option Refusal → AskedEdits
ends_with refusal = record { edits = []; refusal = refusal }

-- what a line asks for, and the lines behind it
abbrev pub asks_then : Outcome (Option LineEdit) → AskedEdits → AskedEdits
asks_then (Passed None) more = more
asks_then (Passed (Some edit)) more = record { edits = edit ∷ more.edits; refusal = more.refusal }
asks_then (Refused refusal) more = ends_with (Some refusal)

-- what lines ask for, of which the first has this number, in an input of this name
abbrev pub lines_ask : List NameLine → List ℕ → ℕ → InputLines → AskedEdits
lines_ask names place number NoLine = ends_with None
lines_ask names place number (LineThen line more) =
    asks_then (line_asks names place number line) (lines_ask names place (number + 1) more)
lines_ask names place number LongNext = ends_with (Some (refusal_of (LongLine number) place))
lines_ask names place number PastNext = ends_with (Some (refusal_of TooLarge place))

-- what an input of this name asks for: a line has 1,024 bytes at most, and the input 16,777,216
abbrev pub input_asks : List NameLine → List ℕ → List ℕ → AskedEdits
input_asks names place bytes = lines_ask names place 1 (input_lines 1024 16777216 bytes)

-- the step that reads the lines
abbrev pub batch_step : List NameLine → Option (List ℕ) → List ℕ → Outcome AskedEdits
batch_step names from bytes = Passed (input_asks names (input_name from) bytes)

-- an input is read to its end where no line is refused
abbrev pub is_to_end : AskedEdits → Bool
is_to_end asked = is_none asked.refusal

-- What edits do.

-- the edit that a line asks for, at a moment
abbrev pub edit_of : LineEdit → ℕ → Edit
edit_of line now = limits_edit line.id line.limits now

-- how the edits of lines are done: that of one line in its place, and those of more lines together
abbrev pub way_of : List LineEdit → Way
way_of [] = InPlace
way_of (line ∷ []) = InPlace
way_of (line ∷ next ∷ lines) = Together (length (next ∷ lines))

-- how the edits behind one are done, which had nothing to do, or changed the file
abbrev pub way_behind : Way → (idle : Bool) → Way
way_behind (Together others) false = Behind
way_behind way idle = way

-- Edits are done, the first one in this way, each in the file as the ones before it left it, up to one that is refused;
-- and behind the last one comes this refusal, if there is one.
abbrev pub EditsThen : Way → List ℕ → ℕ → List LineEdit → QuotaValue → Option Refusal → Steps
EditsThen way name now [] value behind = Ending behind
EditsThen way name now (line ∷ lines) value behind =
    Looking (λ (files : World).
    Then (met_at line.number (edit_step way name (edit_of line now) (files name) value)) (λ (acts : List Act).
    DoingAll acts (EditsThen (way_behind way ((edit_of line now).is_idle value)) name now lines
    (value_left ((edit_of line now).edited value) value) behind)))

-- edits are done, up to one that is refused, and then comes the refusal of the line behind them
abbrev pub Applying : List ℕ → ℕ → QuotaValue → AskedEdits → Steps
Applying file now value asked = EditsThen (way_of asked.edits) file now asked.edits value asked.refusal

-- the lines are read, and their edits done
abbrev pub ReadSteps : List NameLine → Option (List ℕ) → List ℕ → ℕ → QuotaValue → Steps
ReadSteps names from file now value = Taking from is_to_end (batch_step names from) (Applying file now value)

-- the names are read, the file is opened, and then the lines are read, and their edits done
abbrev pub BatchSteps : Common → Option (List ℕ) → List ℕ → Invocation → Steps
BatchSteps common from file invocation =
    Naming common.kind common.names (λ (names : List NameLine).
    Opening common.kind (asked_of common.format) file (ReadSteps names from file invocation.now))

-- the edits that an input asks for
abbrev pub input_edits : List NameLine → (bytes : List ℕ) → List LineEdit
input_edits names bytes = (input_asks names [] bytes).edits

-- where the record of an identifier ends in a flat file of the format
unfoldable pub record_end : Format → ℕ → ℕ
record_end format id = record_size format * (id + 1)

-- A flat file that is asked for has room for the record of each of these lines, where it has so many bytes.
abbrev pub AreWithin : Asked → List LineEdit → (room : ℕ) → Type 0
AreWithin AnyTree lines room = ⊤
AreWithin (InFormat format) lines room = All (λ (line : LineEdit). record_end format line.id ≤ room) lines

-- So many lines leave room in a file of this length, which is no tree file, or with 4,096 bytes for each of them, and
-- for two more, has fewer bytes than the most blocks that it may have. (What a line needs that is refused counts as one
-- more, and as another one what a file may lack of its header and its root.)
abbrev pub LeaveRoom : Asked → (count length : ℕ) → Type 0
LeaveRoom asked count length = IsTrue (asks_tree asked) → length + 4096 * (2 + count) < 1024 * most_blocks

-- how many calls of `read` edits of lines make at most, where all are made: seventeen each
abbrev pub line_reads : List LineEdit → ℕ
line_reads edits = 17 * length edits

-- that many, where there is neither a file of names nor one of lines, which are read besides
abbrev pub if_neither : (names from : Option (List ℕ)) → ℕ → Option ℕ
if_neither None None reads = Some reads
if_neither names from reads = None

-- how many calls of `read` lines of the standard input make at most, the opening of the file with them, where there are
-- no names
abbrev pub batch_reads : Common → Option (List ℕ) → List ℕ → World → (bytes : List ℕ) → Option ℕ
batch_reads common from file files bytes =
    if_neither common.names from
    (opening_reads (asked_of common.format) (file_of files file) + line_reads (input_edits [] bytes))

-- edits of lines change the store, and those before a refused one stay
abbrev pub line_uses : Uses
line_uses = record {
  input = false;
  out = false;
  link = false;
  changes = true;
  all_or_nothing = false;
  warns = false;
  reads_commands = false;
  reads_edits = true;
}

-- lines that are read from an input use it, and change the store by their edits
abbrev pub batch_uses : Option (List ℕ) → Uses
batch_uses from = reading from line_uses

-- the causes for which a line may be refused, whatever is told, with the name that is said
abbrev pub LineMayRefuse : List NameLine → (place : List ℕ) → Cause → List ℕ → Type 0
LineMayRefuse names place (BadLine line) name = name ≡ place
LineMayRefuse names place (LongLine line) name = name ≡ place
LineMayRefuse names place TooLarge name = name ≡ place
LineMayRefuse names place UnknownName name = identifier_of names name ≡ Refused (refusal_of UnknownName name)
LineMayRefuse names place BadNumber name =
    (identifier_of names name ≡ Refused (refusal_of BadNumber name))
    ⊎ ((blocks : Bool) × (limit_read blocks name ≡ Refused (refusal_of BadNumber name)))
LineMayRefuse names place _ name = ⊥

-- the causes for which an edit of a line may be refused, whatever is told
abbrev pub LineEditMayRefuse : Asked → List ℕ → Cause → List ℕ → Type 0
LineEditMayRefuse asked file cause name =
    ((id : ℕ) × (limits : FourLimits) × (now : ℕ) × ChangeMayRefuse asked (limits_edit id limits now) file cause name)
    ⊎ MayRefuseOpening asked file cause name

-- the causes for which lines may not be applied, whatever is told, where these are the names
abbrev pub NamedBatchMayRefuse : Asked → Option (List ℕ) → List ℕ → List NameLine → Cause → List ℕ → Type 0
NamedBatchMayRefuse asked from file names cause name =
    LineEditMayRefuse asked file cause name
    ⊎ (InputMayRefuse Lines from cause name
    ⊎ LineMayRefuse names (input_name from) cause name)

-- the causes for which lines may not be applied, whatever is told
abbrev pub BatchMayRefuse : Common → Option (List ℕ) → List ℕ → Cause → List ℕ → Type 0
BatchMayRefuse common from file cause name =
    NamesMayRefuse common.names cause name
    ⊎ ((names : List NameLine) × MayBeNames common.names names
    × NamedBatchMayRefuse (asked_of common.format) from file names cause name)
