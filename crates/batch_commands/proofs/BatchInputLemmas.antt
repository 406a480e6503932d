-- The lines of an input and the edits that they ask for.
use Rattle.std.proofs.Common.{◌≡◌, ℕ, ◌+◌, Bool, true, false, cond, if◌then◌else◌, nat_lt, ◌^◌, List, [], ◌∷◌, ◌++◌}
use Rattle.std.proofs.Common.{length, Option, None, Some, Ok, Err, Result, ◌⊎◌, inl, inr, refl, sym, ap, subst, ◌∙◌}
use Rattle.std.specs.Prelude.{⊤, ◌&&◌, IfOk, IfSome, MatchResult}
use Rattle.std.specs.Str.{all_ascii_digits}
use Rattle.id_names.specs.FirstMatch.{first_id}
use Rattle.id_names.specs.NamesFile.{NameLine}
use Rattle.input_text.specs.InputLines.{InputLines, NoLine, LineThen, LongNext, PastNext}
use Rattle.input_text.specs.LineReading.{lines_left, LinesSeen}
use Rattle.input_text.specs.Numeral.{value_of}
use Rattle.input_text.specs.Words.{words_of}
use Rattle.set_edit.specs.Number.{limit_of}
use Rattle.batch_commands.specs.declared.batch_input.InputFault.{InputFault}
use Rattle.batch_commands.specs.declared.batch_input.InputFault.TheVariants.{Memory as NoMemory}
use Rattle.batch_commands.specs.declared.batch_line.FiveWords.{FiveWords}
use Rattle.batch_commands.specs.declared.batch_line.LineEdit.{LineEdit}
use Rattle.batch_commands.specs.declared.batch_line.BatchLineRead.{BatchLineRead}
use Rattle.batch_commands.specs.declared.batch_line.BatchLineRead.TheVariants.{Nothing, Edit as Found}
use Rattle.batch_commands.specs.declared.batch_line.BatchLineRead.TheVariants.{Refused as Faulty}
use Rattle.refusals.specs.declared.cause.Cause.{Cause}
use Rattle.refusals.specs.declared.cause.Cause.TheVariants.{TooLarge, LongLine, UnknownName, BadNumber}
use Rattle.refusals.specs.declared.reason.Refusal.{Refusal}
use Rattle.refusals.specs.Outcome.{Outcome, Passed, Refused}
use Rattle.batch_commands.specs.Batch.{AskedEdits, LineMayRefuse, asks_then, ends_with, five_of, limits_asked}
use Rattle.batch_commands.specs.Batch.{line_asks, line_named, lines_ask, read_at, words_ask}
use Rattle.batch_commands.specs.BatchReading.{IsOfInputLine, line_outcome, read_then, refusal_read}
use Rattle.refusals.specs.Refusals.{refusal_of, stands_in_line}
use Rattle.run_steps.specs.InputLine.{says_nothing}
use Rattle.run_steps.specs.Numbers.{identifier_of, known, limit_read, limits_read, number_or_refused}
use Rattle.edit_steps.proofs.OutcomeLemmas.{OnlyRefused, only_if, only_then}

-- What was read so far.

-- edits, and then what else is asked for
abbrev pub asked_with : List LineEdit → AskedEdits → AskedEdits
asked_with edits more = record { edits = edits ++ more.edits; refusal = more.refusal }

-- What comes next.

-- the lines that are left to a reader
abbrev pub left_lines : LinesSeen → List ℕ → InputLines
left_lines seen left = lines_left 1024 16777216 seen left

-- a line was read
pub line_taken : (names : List NameLine) (place : List ℕ) (old new : LinesSeen) (left left_now line : List ℕ)
    (number : ℕ) (read : BatchLineRead)
    → left_lines old left ≡ LineThen line (left_lines new left_now) → new.number ≡ old.number + 1 → number ≡ old.number
    → line_asks names place number line ≡ line_outcome read
    → lines_ask names place old.number (left_lines old left)
    ≡ read_then (Some read) (lines_ask names place new.number (left_lines new left_now))
line_taken names place old new left left_now line number read is next same asks =
    ap (λ (l : InputLines). lines_ask names place old.number l) is
    ∙ ap (λ (n : ℕ). asks_then (line_asks names place n line)
    (lines_ask names place (old.number + 1) (left_lines new left_now))) (sym same)
    ∙ ap (λ (o : Outcome (Option LineEdit)).
    asks_then o (lines_ask names place (old.number + 1) (left_lines new left_now))) asks
    ∙ ap (λ (n : ℕ). asks_then (line_outcome read) (lines_ask names place n (left_lines new left_now))) (sym next)

-- there was none
pub end_taken : (names : List NameLine) (place : List ℕ) (old : LinesSeen) (left : List ℕ) (more : AskedEdits)
    → left_lines old left ≡ NoLine
    → lines_ask names place old.number (left_lines old left) ≡ read_then None more
end_taken names place old left more is = ap (λ (l : InputLines). lines_ask names place old.number l) is

-- it was too long
pub long_taken : (names : List NameLine) (place : List ℕ) (old : LinesSeen) (left : List ℕ) (number : ℕ)
    (more : AskedEdits) → left_lines old left ≡ LongNext → number ≡ old.number
    → lines_ask names place old.number (left_lines old left)
    ≡ read_then (Some (Faulty (refusal_of (LongLine number) place))) more
long_taken names place old left number more is same =
    ap (λ (l : InputLines). lines_ask names place old.number l) is
    ∙ ap (λ (n : ℕ). ends_with (Some (refusal_of (LongLine n) place))) (sym same)

-- it passes the bytes that are read
pub past_taken : (names : List NameLine) (place : List ℕ) (old : LinesSeen) (left : List ℕ) (more : AskedEdits)
    → left_lines old left ≡ PastNext
    → lines_ask names place old.number (left_lines old left)
    ≡ read_then (Some (Faulty (refusal_of TooLarge place))) more
past_taken names place old left more is = ap (λ (l : InputLines). lines_ask names place old.number l) is

-- a refusal that was made for what comes next
pub refused_taken : (result : Result (Option BatchLineRead) InputFault) (read : Option BatchLineRead) (told : Type 0)
    (asks more : AskedEdits)
    → MatchResult result (λ (r : Option BatchLineRead). r ≡ read) (λ (fault : InputFault). fault ≡ NoMemory)
    → (told → asks ≡ read_then read more) → IfOk result (λ (r : Option BatchLineRead). told → asks ≡ read_then r more)
refused_taken (Ok found) read told asks more is taken =
    λ known. taken known ∙ ap (λ (r : Option BatchLineRead). read_then r more) (sym is)
refused_taken (Err fault) read told asks more is taken = tt

-- What a line may be refused for.

-- a refusal for what a line may be refused for
abbrev ForLine : List NameLine → List ℕ → Refusal → Type 0
ForLine names place refusal = LineMayRefuse names place refusal.cause refusal.name

-- a refusal of this word, which names nothing or is no number
abbrev IsOfThis : List ℕ → Refusal → Type 0
IsOfThis word refusal = (refusal ≡ refusal_of UnknownName word) ⊎ (refusal ≡ refusal_of BadNumber word)

known_this : (found : Option ℕ) (word : List ℕ) → OnlyRefused (IsOfThis word) (known found word)
known_this (Some id) word = tt
known_this None word = inl refl

identifier_this : (names : List NameLine) (word : List ℕ) → OnlyRefused (IsOfThis word) (identifier_of names word)
identifier_this names word =
    let named : Outcome ℕ =
    if nat_lt (value_of word) (2 ^ 32) then Passed (value_of word) else Refused (refusal_of BadNumber word) in
    only_if (IsOfThis word) (nat_lt 0 (length word) && all_ascii_digits word) named (known (first_id names word) word)
    (only_if (IsOfThis word) (nat_lt (value_of word) (2 ^ 32)) (Passed (value_of word))
    (Refused (refusal_of BadNumber word)) tt (inr refl)) (known_this (first_id names word) word)

identifier_line : (names : List NameLine) (place word : List ℕ) (outcome : Outcome ℕ)
    → identifier_of names word ≡ outcome → OnlyRefused (IsOfThis word) outcome
    → OnlyRefused (ForLine names place) outcome
identifier_line names place word (Passed id) is this = tt
identifier_line names place word (Refused refusal) is (inl same) =
    subst (λ (r : Refusal). LineMayRefuse names place r.cause r.name) (sym same)
    (is ∙ ap (λ (r : Refusal). Refused r) same)
identifier_line names place word (Refused refusal) is (inr same) =
    subst (λ (r : Refusal). LineMayRefuse names place r.cause r.name) (sym same)
    (inl (is ∙ ap (λ (r : Refusal). Refused r) same))

limit_line : (names : List NameLine) (place : List ℕ) (blocks : Bool) (word : List ℕ) (found : Option ℕ)
    → limit_of blocks word ≡ found → OnlyRefused (ForLine names place) (number_or_refused word found)
limit_line names place blocks word (Some number) is = tt
limit_line names place blocks word None is = inr (blocks, ap (number_or_refused word) is)

limits_line : (names : List NameLine) (place bsoft bhard isoft ihard : List ℕ)
    → OnlyRefused (ForLine names place) (limits_read (bsoft ∷ bhard ∷ isoft ∷ ihard ∷ []))
limits_line names place bsoft bhard isoft ihard =
    only_then (ForLine names place) (limit_read true bsoft) _
    (limit_line names place true bsoft (limit_of true bsoft) refl) (λ bs.
    only_then (ForLine names place) (limit_read true bhard) _
    (limit_line names place true bhard (limit_of true bhard) refl) (λ bh.
    only_then (ForLine names place) (limit_read false isoft) _
    (limit_line names place false isoft (limit_of false isoft) refl) (λ is.
    only_then (ForLine names place) (limit_read false ihard) _
    (limit_line names place false ihard (limit_of false ihard) refl) (λ ih. tt))))

-- words of a line
abbrev ForFive : List NameLine → List ℕ → ℕ → Option FiveWords → Type 0
ForFive names place number None = ⊤
ForFive names place number (Some words) = OnlyRefused (ForLine names place) (limits_asked names number words)

five_if : (names : List NameLine) (place : List ℕ) (number : ℕ) (test : Bool) (words : FiveWords)
    → OnlyRefused (ForLine names place) (limits_asked names number words)
    → ForFive names place number (cond test (Some words) None)
five_if names place number true words may = may
five_if names place number false words may = tt

five_line : (names : List NameLine) (place : List ℕ) (number : ℕ) (words : List (List ℕ))
    → ForFive names place number (five_of words)
five_line names place number (name ∷ bsoft ∷ bhard ∷ isoft ∷ ihard ∷ []) =
    five_if names place number _ (record { name = name; limits = bsoft ∷ bhard ∷ isoft ∷ ihard ∷ [] })
    (only_then (ForLine names place) (identifier_of names name) _
    (identifier_line names place name (identifier_of names name) refl (identifier_this names name)) (λ id.
    only_then (ForLine names place) (limits_read (bsoft ∷ bhard ∷ isoft ∷ ihard ∷ [])) _
    (limits_line names place bsoft bhard isoft ihard) (λ limits. tt)))
five_line names place number _ = tt

-- a refusal whose cause stands in no line is told with none
named_if : (stands : Bool) (number : ℕ) → stands ≡ false → (if stands then Some number else None) ≡ None
named_if true number untrue = absurd (cc)
named_if false number untrue = refl

pub unnamed : (number : ℕ) (cause : Cause) → stands_in_line cause ≡ false → line_named number cause ≡ None
unnamed number cause untrue = named_if (stands_in_line cause) number untrue

read_line_at : (names : List NameLine) (place : List ℕ) (number : ℕ) (outcome : Outcome LineEdit)
    → OnlyRefused (ForLine names place) outcome → OnlyRefused (IsOfInputLine names place) (read_at number outcome)
read_line_at names place number (Passed edit) may = tt
read_line_at names place number (Refused refusal) may =
    record { may = may; line = refl; input_line = λ untrue. unnamed number refusal.cause untrue }

words_line : (names : List NameLine) (place : List ℕ) (number : ℕ) (five : Option FiveWords)
    → ForFive names place number five → OnlyRefused (IsOfInputLine names place) (words_ask names place number five)
words_line names place number (Some words) may = read_line_at names place number (limits_asked names number words) may
words_line names place number None may = record { may = refl; line = refl; input_line = λ untrue. refl }

-- a line is refused only by a refusal that a line may have
pub asks_line : (names : List NameLine) (place : List ℕ) (number : ℕ) (line : List ℕ)
    → OnlyRefused (IsOfInputLine names place) (line_asks names place number line)
asks_line names place number line =
    only_if (IsOfInputLine names place) (says_nothing line) (Passed None)
    (words_ask names place number (five_of (words_of line))) tt
    (words_line names place number (five_of (words_of line)) (five_line names place number (words_of line)))

outcome_may : (names : List NameLine) (place : List ℕ) (read : BatchLineRead)
    → OnlyRefused (IsOfInputLine names place) (line_outcome read)
    → IfSome (refusal_read (Some read)) (IsOfInputLine names place)
outcome_may names place Nothing may = tt
outcome_may names place (Found edit) may = tt
outcome_may names place (Faulty refusal) may = may

pub line_may : (names : List NameLine) (place : List ℕ) (number : ℕ) (line : List ℕ) (read : BatchLineRead)
    → line_asks names place number line ≡ line_outcome read
    → IfSome (refusal_read (Some read)) (IsOfInputLine names place)
line_may names place number line read asks =
    outcome_may names place read
    (subst (λ (o : Outcome (Option LineEdit)). OnlyRefused (IsOfInputLine names place) o) asks
    (asks_line names place number line))
