-- The lines of a script that were read, and those that are left.
use Rattle.std.proofs.Common.{◌≡◌, ℕ, ◌+◌, Bool, true, false, cond, List, ◌++◌, map, Option, None, Some, Ok, Err}
use Rattle.std.proofs.Common.{Result, refl, sym, ap, subst, ◌∙◌}
use Rattle.std.specs.Prelude.{⊤, IfOk, IfSome, MatchResult}
use Rattle.std.specs.Str.{is_utf8}
use Rattle.input_text.specs.InputLines.{InputLines, NoLine, LineThen, LongNext, PastNext}
use Rattle.input_text.specs.LineReading.{lines_left, LinesSeen}
use Rattle.refusals.specs.declared.cause.Cause.TheVariants.{TooLarge, LongLine, BadLine}
use Rattle.refusals.specs.Outcome.{Outcome, Passed, Refused}
use Rattle.run_steps.specs.InputLine.{says_nothing}
use Rattle.script_lines.specs.declared.line.ScriptLineRead.{ScriptLineRead}
use Rattle.script_lines.specs.declared.line.ScriptLineRead.TheVariants.{Nothing, Line as Found, Refused as Faulty}
use Rattle.script_lines.specs.declared.script.ScriptFault.{ScriptFault}
use Rattle.script_lines.specs.declared.script.ScriptFault.TheVariants.{Memory as NoMemory}
use Rattle.script_lines.specs.declared.script.ScriptLine.{ScriptLine}
use Rattle.script_lines.specs.Script.{LineSaid, ScriptSaid, ends_with, line_says, lines_say, says_then, script_refusal}
use Rattle.script_lines.specs.ScriptReading.{IsOfScript, line_outcome, line_read, read_then, refusal_read}

-- a line is no text where it cannot be
pub none_if : (text : Bool) → (text ≡ true → ⊥) → text ≡ false
none_if true never = absurd (never refl)
none_if false never = refl

-- What was read so far.

-- lines that were read, and then what else is said
abbrev pub said_with : List ScriptLine → ScriptSaid → ScriptSaid
said_with lines more = record { lines = map line_read lines ++ more.lines; refusal = more.refusal }

-- What comes next.

-- the lines that are left to a reader
abbrev pub left_lines : LinesSeen → List ℕ → InputLines
left_lines seen left = lines_left 4096 16777216 seen left

-- a line was read
pub line_taken : (old new : LinesSeen) (left left_now line : List ℕ) (number : ℕ) (read : ScriptLineRead)
    → left_lines old left ≡ LineThen line (left_lines new left_now) → new.number ≡ old.number + 1 → number ≡ old.number
    → line_says number line ≡ line_outcome read
    → lines_say old.number (left_lines old left)
    ≡ read_then (Some read) (lines_say new.number (left_lines new left_now))
line_taken old new left left_now line number read is next same says =
    ap (λ (l : InputLines). lines_say old.number l) is
    ∙ ap (λ (n : ℕ). says_then (line_says n line) (lines_say (old.number + 1) (left_lines new left_now))) (sym same)
    ∙ ap (λ (o : Outcome (Option LineSaid)). says_then o (lines_say (old.number + 1) (left_lines new left_now))) says
    ∙ ap (λ (n : ℕ). says_then (line_outcome read) (lines_say n (left_lines new left_now))) (sym next)

-- there was none
pub end_taken : (old : LinesSeen) (left : List ℕ) (more : ScriptSaid) → left_lines old left ≡ NoLine
    → lines_say old.number (left_lines old left) ≡ read_then None more
end_taken old left more is = ap (λ (l : InputLines). lines_say old.number l) is

-- it was too long
pub long_taken : (old : LinesSeen) (left : List ℕ) (number : ℕ) (more : ScriptSaid) → left_lines old left ≡ LongNext
    → number ≡ old.number
    → lines_say old.number (left_lines old left) ≡ read_then (Some (Faulty (script_refusal (LongLine number)))) more
long_taken old left number more is same =
    ap (λ (l : InputLines). lines_say old.number l) is
    ∙ ap (λ (n : ℕ). ends_with (Some (script_refusal (LongLine n)))) (sym same)

-- it passes the bytes that are read
pub past_taken : (old : LinesSeen) (left : List ℕ) (more : ScriptSaid) → left_lines old left ≡ PastNext
    → lines_say old.number (left_lines old left) ≡ read_then (Some (Faulty (script_refusal TooLarge))) more
past_taken old left more is = ap (λ (l : InputLines). lines_say old.number l) is

-- a refusal that was made for what comes next
pub refused_taken : (result : Result (Option ScriptLineRead) ScriptFault) (read : Option ScriptLineRead) (told : Type 0)
    (says more : ScriptSaid)
    → MatchResult result (λ (r : Option ScriptLineRead). r ≡ read) (λ (fault : ScriptFault). fault ≡ NoMemory)
    → (told → says ≡ read_then read more) → IfOk result (λ (r : Option ScriptLineRead). told → says ≡ read_then r more)
refused_taken (Ok found) read told says more is taken =
    λ known. taken known ∙ ap (λ (r : Option ScriptLineRead). read_then r more) (sym is)
refused_taken (Err fault) read told says more is taken = tt

-- For what a line may be refused.

-- an outcome that is refused only by a refusal that a script itself may have
abbrev OnlyOfScript : {V : Type 0} → Outcome V → Type 0
OnlyOfScript (Passed value) = ⊤
OnlyOfScript (Refused refusal) = IsOfScript refusal

says_if : {V : Type 0} (test : Bool) (one other : Outcome V) → OnlyOfScript one → OnlyOfScript other
    → OnlyOfScript (cond test one other)
says_if true one other a b = a
says_if false one other a b = b

-- a line is refused only by a refusal that a script itself may have
says_line : (number : ℕ) (line : List ℕ) → OnlyOfScript (line_says number line)
says_line number line =
    let text : Outcome (Option LineSaid) = Passed (Some (record { number = number; text = line })) in
    let bad : Outcome (Option LineSaid) = Refused (script_refusal (BadLine number)) in
    says_if (says_nothing line) (Passed None) (cond (is_utf8 line) text bad) tt
    (says_if (is_utf8 line) text bad tt (record { may = refl; place = refl }))

outcome_may : (read : ScriptLineRead) → OnlyOfScript (line_outcome read) → IfSome (refusal_read (Some read)) IsOfScript
outcome_may Nothing may = tt
outcome_may (Found line) may = tt
outcome_may (Faulty refusal) may = may

pub line_may : (number : ℕ) (line : List ℕ) (read : ScriptLineRead) → line_says number line ≡ line_outcome read
    → IfSome (refusal_read (Some read)) IsOfScript
line_may number line read says =
    outcome_may read (subst (λ (o : Outcome (Option LineSaid)). OnlyOfScript o) says (says_line number line))
