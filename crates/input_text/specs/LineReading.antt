-- What is seen of a reader of lines, which lines it has still to give, and why a line is refused.
use Rattle.std.specs.Prelude.{◌≡◌, ℕ, ◌+◌, ◌<◌, ◌≤◌, min, Bool, true, false, IsTrue, List, ⊤, if◌then◌else◌, ◌-◌, ◌++◌}
use Rattle.outside.specs.Count.{Rose}
use Rattle.input_text.specs.declared.line_reader.LineFault.{LineFault}
use Rattle.input_text.specs.declared.line_reader.LineFault.TheVariants.{Source, Long, TooLarge}
use Rattle.input_text.specs.Lines.{NextLine, AtEnd, Line, LongLine, PastTotal}
use Rattle.input_text.specs.InputLines.{InputLines, NoLine, LineThen, input_lines}

-- What is seen of a reader of lines: the bytes that it took from its source and that stand in no line yet, the number
-- of the line at hand, from 1 on, and how many bytes of the input the lines have that were given, newlines and all.
pub record LinesSeen : Type 0 where
  pub held : List ℕ
  pub number : ℕ
  pub given : ℕ

-- what came next where a line was given or, at the end, none
abbrev pub line_given : Bool → (bytes behind : List ℕ) → NextLine
line_given true bytes behind = Line bytes behind
line_given false bytes behind = AtEnd

-- The source's count of faults rose; or, of a source that tells what is left in it, the next line is too long, or does
-- not end within the bytes that may be read.
abbrev pub IsLineFault : (before now : ℕ) → Bool → NextLine → LineFault → Type 0
IsLineFault before now tells next Source = Rose before now
IsLineFault before now tells next (Long _) = IsTrue tells → next ≡ LongLine
IsLineFault before now tells next TooLarge = IsTrue tells → next ≡ PastTotal

-- a line that is too long is named by its number
abbrev pub NamesLine : ℕ → LineFault → Type 0
NamesLine number Source = ⊤
NamesLine number (Long named) = named ≡ number
NamesLine number TooLarge = ⊤

-- a fault that is no fault of the source says what comes next
abbrev pub RefusesLine : NextLine → LineFault → Type 0
RefusesLine next Source = ⊥
RefusesLine next (Long _) = next ≡ LongLine
RefusesLine next TooLarge = next ≡ PastTotal

-- Why a line with `len` bytes in front of its newline, or at least that many where no newline was met, is refused: more
-- than `most` of them stand within the room; or they do not, and the room is less than them and the newline.
abbrev pub IsOver : (len : ℕ) → (ended : Bool) → (most room : ℕ) → LineFault → Type 0
IsOver len ended most room Source = ⊥
IsOver len ended most room (Long _) = most < min room len
IsOver len ended most room TooLarge = (min room len ≤ most) × (room < len + (if ended then 1 else 0))

-- the line that is given, where there is one, and the lines behind it
abbrev pub line_then : Bool → List ℕ → InputLines → InputLines
line_then true line more = LineThen line more
line_then false line more = NoLine

-- the lines that a reader has still to give, where its source has these bytes left
abbrev pub lines_left : (most total : ℕ) → LinesSeen → List ℕ → InputLines
lines_left most total seen left = input_lines most (total - seen.given) (seen.held ++ left)
