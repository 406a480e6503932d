-- The lines of an input, one after another.
use Rattle.std.proofs.Common.{◌≡◌, ℕ, zero, suc, ◌+◌, ◌-◌, ◌<◌, Bool, true, false, List, ◌++◌, length, refl, ap, subst}
use Rattle.std.proofs.Common.{◌∙◌, arith, length-drop}
use Rattle.std.specs.Prelude.{if◌then◌else◌, ◌==◌}
use Rattle.std.specs.List.{position_or_len}
use Rattle.std.proofs.lemmas.Bool.Decides.{nat_tests}
use Rattle.input_text.specs.Lines.{NextLine, AtEnd, Line, LongLine, PastTotal, behind_line, is_newline, line_front}
use Rattle.input_text.specs.Lines.{next_line_of}
use Rattle.input_text.specs.LineReading.{LinesSeen, line_given, line_then, lines_left}
use Rattle.input_text.specs.InputLines.{InputLines, LineThen, LongNext, PastNext, input_lines, lines_from, lines_within}

-- a line leaves fewer bytes
Leaves : ℕ → NextLine → Type 0
Leaves before AtEnd = Unit {0}
Leaves before (Line line behind) = length behind < before
Leaves before LongLine = Unit {0}
Leaves before PastTotal = Unit {0}

leaves_by : (long past none : Bool) (before : ℕ) (line behind : List ℕ) → (none ≡ false → length behind < before)
    → Leaves before (if long then LongLine else if past then PastTotal else if none then AtEnd else Line line behind)
unfolding Leaves
leaves_by true past none before line behind h = tt
leaves_by false true none before line behind h = tt
leaves_by false false true before line behind h = tt
leaves_by false false false before line behind h = h refl

leaves : (most room : ℕ) (rest : List ℕ) → Leaves (length rest) (next_line_of most room rest)
unfolding next_line_of
leaves most room rest =
    leaves_by _ _ (length rest == 0) (length rest) (line_front rest) (behind_line rest)
    (λ none. let some : 0 < length rest = grind (arith, nat_tests) in omega (
      arith,
      length-drop (position_or_len is_newline rest + 1) rest,
    ))

-- the same lines behind give the same lines
lines_from-same : (before : ℕ) (next : NextLine) (one other : List ℕ → InputLines) → Leaves before next
    → ((behind : List ℕ) → length behind < before → one behind ≡ other behind)
    → lines_from next one ≡ lines_from next other
unfolding Leaves
lines_from-same before AtEnd one other leaves same = refl
lines_from-same before (Line line behind) one other leaves same =
    ap (λ (more : InputLines). LineThen line more) (same behind leaves)
lines_from-same before LongLine one other leaves same = refl
lines_from-same before PastTotal one other leaves same = refl

-- any steps that are enough give the same lines
same_lines : (steps more most room : ℕ) (rest : List ℕ) → length rest < steps → length rest < more
    → lines_within steps most room rest ≡ lines_within more most room rest
same_lines zero more most room rest few few_too = absurd (omega arith)
same_lines (suc steps) zero most room rest few few_too = absurd (omega arith)
same_lines (suc steps) (suc more) most room rest few few_too =
    lines_from-same (length rest) (next_line_of most room rest) _ _ (leaves most room rest)
    (λ behind fewer.
    same_lines steps more most (room - (length rest - length behind)) behind (omega arith) (omega arith))

-- The lines of an input are the next one and those of what stands behind it.
pub input_lines-step : (most room : ℕ) (rest : List ℕ)
    → input_lines most room rest
    ≡ lines_from (next_line_of most room rest)
    (λ behind. input_lines most (room - (length rest - length behind)) behind)
unfolding input_lines
input_lines-step most room rest =
    lines_from-same (length rest) (next_line_of most room rest) _ _ (leaves most room rest)
    (λ behind fewer. same_lines (length rest) (suc (length behind)) most (room - (length rest - length behind)) behind
    fewer (omega arith))

leaves-is : (before : ℕ) (next : NextLine) (line behind : List ℕ) → Leaves before next → next ≡ Line line behind
    → length behind < before
unfolding Leaves
leaves-is before next line behind leaves is = subst (Leaves before) is leaves

line_left : (most room room_now : ℕ) (rest line behind : List ℕ) → next_line_of most room rest ≡ Line line behind
    → room - (length rest - length behind) ≡ room_now
    → input_lines most room rest ≡ LineThen line (input_lines most room_now behind)
line_left most room room_now rest line behind is taken =
    input_lines-step most room rest
    ∙ ap
    (λ (next : NextLine). lines_from next (λ behind. input_lines most (room - (length rest - length behind)) behind)) is
    ∙ ap (λ (room : ℕ). LineThen line (input_lines most room behind)) taken

-- a line that a reader gives, or the end, is the next of the lines that it has still to give
pub lines_left-next : (most total : ℕ) (old new : LinesSeen) (left left_now : List ℕ) (more : Bool) (line : List ℕ)
    → next_line_of most (total - old.given) (old.held ++ left) ≡ line_given more line (new.held ++ left_now)
    → new.given + length (new.held ++ left_now) ≡ old.given + length (old.held ++ left)
    → lines_left most total old left ≡ line_then more line (lines_left most total new left_now)
lines_left-next most total old new left left_now true line is taken =
    let fewer = leaves-is _ _ line (new.held ++ left_now) (leaves most (total - old.given) (old.held ++ left)) is in
    line_left most (total - old.given) (total - new.given) (old.held ++ left) line (new.held ++ left_now)
    is (omega arith)
lines_left-next most total old new left left_now false line is taken =
    input_lines-step most (total - old.given) (old.held ++ left)
    ∙ ap (λ (next : NextLine). lines_from next
    (λ behind. input_lines most (total - old.given - (length (old.held ++ left) - length behind)) behind)) is

-- a line that is too long
pub input_lines-long : (most room : ℕ) (rest : List ℕ) → next_line_of most room rest ≡ LongLine
    → input_lines most room rest ≡ LongNext
input_lines-long most room rest is =
    input_lines-step most room rest
    ∙ ap
    (λ (next : NextLine). lines_from next (λ behind. input_lines most (room - (length rest - length behind)) behind)) is

-- a line that does not end within the bytes that may be read
pub input_lines-past : (most room : ℕ) (rest : List ℕ) → next_line_of most room rest ≡ PastTotal
    → input_lines most room rest ≡ PastNext
input_lines-past most room rest is =
    input_lines-step most room rest
    ∙ ap
    (λ (next : NextLine). lines_from next (λ behind. input_lines most (room - (length rest - length behind)) behind)) is
