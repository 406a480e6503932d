-- All lines of an input, as they are read one by one under a bound for each and one for all.
use Rattle.std.specs.Prelude.{ℕ, zero, suc, ◌-◌, List, length}
use Rattle.input_text.specs.Lines.{NextLine, AtEnd, Line, LongLine, PastTotal, next_line_of}

-- The lines of an input, each with those behind it, up to its end, or up to a line that is too long, or to one that
-- does not end within the bytes that may be read.
pub data InputLines : Type 0 where
  NoLine : InputLines
  LineThen : (line : List ℕ) (more : InputLines) → InputLines
  LongNext : InputLines
  PastNext : InputLines

-- what comes next, and where that is a line, the lines of what stands behind it
abbrev pub lines_from : NextLine → (List ℕ → InputLines) → InputLines
lines_from AtEnd behind = NoLine
lines_from (Line line rest) behind = LineThen line (behind rest)
lines_from LongLine behind = LongNext
lines_from PastTotal behind = PastNext

-- the lines in this many steps, where a line may have `most` bytes, and `room` bytes of the rest of the input may be
-- read
abbrev pub lines_within : (steps most room : ℕ) → List ℕ → InputLines
lines_within zero most room rest = NoLine
lines_within (suc steps) most room rest =
    lines_from (next_line_of most room rest)
    (λ behind. lines_within steps most (room - (length rest - length behind)) behind)

-- The lines of an input of which `room` bytes may be read. Since each line takes a byte, one step more than there are
-- bytes is enough.
unfoldable pub input_lines : (most room : ℕ) → List ℕ → InputLines
input_lines most room bytes = lines_within (suc (length bytes)) most room bytes
