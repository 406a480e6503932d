-- What a form says that an editor gives back. Source: edquota(8), whose usage columns are shown and never set; the
-- words that are needed, and the bounds, are this project's own.
use Rattle.std.specs.Prelude.{ℕ, ◌+◌, Bool, true, false, ◌&&◌, is_some, if◌then◌else◌, List, [], ◌∷◌, Option, Some}
use Rattle.std.specs.Prelude.{None, Result, Ok, Err}
use Rattle.std.specs.Str.{bytes_eq}
use Rattle.quota_types.specs.declared.file_kind.Kind.{Kind}
use Rattle.input_text.specs.InputLines.{InputLines, NoLine, LineThen, LongNext, PastNext, input_lines}
use Rattle.input_text.specs.Numeral.{number_of}
use Rattle.input_text.specs.Words.{words_eq, words_of}
use Rattle.input_text.specs.declared.line_reader.LineFault.TheVariants.{Long, TooLarge}
use Rattle.set_edit.specs.declared.form_reading.FormFault.{FormFault}
use Rattle.set_edit.specs.declared.form_reading.FormFault.TheVariants.{Lines, BadForm}
use Rattle.set_edit.specs.declared.limits.Limits.{Limits}
use Rattle.set_edit.specs.Form.{form_heading, form_title}
use Rattle.set_edit.specs.Number.{limit_of}

-- goes on with a value, unless a fault came before
abbrev pub then_read : {A B : Type 0} → Result A FormFault → (A → Result B FormFault) → Result B FormFault
then_read (Ok value) next = next value
then_read (Err fault) next = Err fault

-- the value, where the line of this number is as it has to be
abbrev pub if_good : {A : Type 0} → Bool → (number : ℕ) → A → Result A FormFault
if_good true number value = Ok value
if_good false number value = Err (BadForm number)

-- the next line, which has to be there, and the lines behind it
abbrev pub line_at : (number : ℕ) → InputLines → Result (List ℕ × InputLines) FormFault
line_at number NoLine = Err (BadForm number)
line_at number (LineThen line more) = Ok (line, more)
line_at number LongNext = Err (Lines (Long number))
line_at number PastNext = Err (Lines TooLarge)

-- the lines behind the next one, which has the words of a text and no others
abbrev pub behind_text : (number : ℕ) → (text : List ℕ) → InputLines → Result InputLines FormFault
behind_text number text lines =
    then_read (line_at number lines) (λ next. if_good (words_eq (words_of next.0) (words_of text)) number next.1)

-- four limits, where all are there
abbrev pub all_limits : (bsoft bhard isoft ihard : Option ℕ) → Option Limits
all_limits (Some bsoft) (Some bhard) (Some isoft) (Some ihard) =
    Some (record { bsoft = bsoft; bhard = bhard; isoft = isoft; ihard = ihard })
all_limits bsoft bhard isoft ihard = None

-- The limits in the words of the third line: the file's name, a number, the soft and the hard limit of blocks, a
-- number, and the soft and the hard limit of inodes. The two numbers tell the usage, and set nothing.
unfoldable pub limits_in : (file : List ℕ) → List (List ℕ) → Option Limits
limits_in file (name ∷ used ∷ bsoft ∷ bhard ∷ inodes ∷ isoft ∷ ihard ∷ []) =
    if bytes_eq name file && is_some (number_of used) && is_some (number_of inodes)
    then all_limits (limit_of true bsoft) (limit_of true bhard) (limit_of false isoft) (limit_of false ihard)
    else None
limits_in file words = None

-- the value, where there is one
abbrev pub or_bad : {A B : Type 0} → Option A → (number : ℕ) → B → Result (A × B) FormFault
or_bad (Some value) number more = Ok (value, more)
or_bad None number more = Err (BadForm number)

-- the limits in the third line, and the lines behind it
abbrev pub limits_at : (file : List ℕ) → InputLines → Result (Limits × InputLines) FormFault
limits_at file lines = then_read (line_at 3 lines) (λ next. or_bad (limits_in file (words_of next.0)) 3 next.1)

-- the lines from this number on have no words
abbrev pub no_more_words : (number : ℕ) → InputLines → Result (Unit {0}) FormFault
no_more_words number NoLine = Ok tt
no_more_words number (LineThen line more) =
    if words_eq (words_of line) [] then no_more_words (number + 1) more else Err (BadForm number)
no_more_words number LongNext = Err (Lines (Long number))
no_more_words number PastNext = Err (Lines TooLarge)

-- the limits in the third line, behind which stands no word
abbrev pub limits_then_end : (file : List ℕ) → InputLines → Result Limits FormFault
limits_then_end file lines =
    then_read (limits_at file lines) (λ read. then_read (no_more_words 4 read.1) (λ _. Ok read.0))

-- what the lines of a form say: its title, the line above the limits, and the limits
abbrev pub form_in : Kind → (name : List ℕ) → (id : ℕ) → (file : List ℕ) → InputLines → Result Limits FormFault
form_in kind name id file lines =
    then_read (behind_text 1 (form_title kind name id) lines)
    (λ behind_title. then_read (behind_text 2 form_heading behind_title) (limits_then_end file))

-- What a form says: lines of at most 1,024 bytes, and 16,777,216 bytes in all.
unfoldable pub form_read : Kind → (name : List ℕ) → (id : ℕ) → (file : List ℕ) → List ℕ → Result Limits FormFault
form_read kind name id file bytes = form_in kind name id file (input_lines 1024 16777216 bytes)
