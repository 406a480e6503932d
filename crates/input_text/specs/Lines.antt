-- The lines of an input, one by one, with a bound for each and for all. A line is what stands before its newline, byte
-- 10; what stands behind the last newline is a line too, unless it is empty. Source: POSIX, definition of a line; that
-- a last line needs no newline, and the bounds, are this project's own.
use Rattle.std.specs.Prelude.{ℕ, ◌==◌, ◌&&◌, Bool, not, nat_lt, List, length, take, if◌then◌else◌}
use Rattle.std.specs.List.{after_first, before_first, list_any}

-- a byte is a newline
abbrev pub is_newline : ℕ → Bool
is_newline byte = byte == 10

-- the bytes in front of the first newline, or all where there is none
abbrev pub line_front : List ℕ → List ℕ
line_front bytes = before_first is_newline bytes

-- the bytes behind the first newline, or none where there is none
abbrev pub behind_line : List ℕ → List ℕ
behind_line bytes = after_first is_newline bytes

-- What comes next of an input: its end; a line, with the bytes that stand behind it; a line that is too long; or a line
-- that does not end within the bytes that may be read.
pub data NextLine : Type 0 where
  AtEnd : NextLine
  Line : (bytes behind : List ℕ) → NextLine
  LongLine : NextLine
  PastTotal : NextLine

-- What comes next where `most` bytes may stand in a line, and `room` bytes of the rest of the input may be read. The
-- line is too long where more than `most` of its bytes stand among those that may be read. Otherwise it does not end
-- within them where they have no newline, and the rest has more bytes than they are. Otherwise the input is at its end
-- where nothing is left, and the line is what stands in front of the first newline, or all that is left.
unfoldable pub next_line_of : (most room : ℕ) → List ℕ → NextLine
next_line_of most room rest =
    let readable : List ℕ = take room rest in
    if nat_lt most (length (line_front readable)) then LongLine
    else if not (list_any is_newline readable) && nat_lt room (length rest) then PastTotal
    else if length rest == 0 then AtEnd
    else Line (line_front rest) (behind_line rest)
