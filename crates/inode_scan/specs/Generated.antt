-- A listing that is made, of as many lines as are asked for. Source: the recurrence is D. E. Knuth's linear
-- congruential generator of 64 bits, as in MMIX; what the lines have is this project's own.
use Rattle.std.specs.Prelude.{ℕ, zero, suc, ◌+◌, ◌-◌, ◌*◌, ◌/◌, ◌%◌, ◌^◌, ◌==◌, Bool, if◌then◌else◌, List, [], ◌∷◌}
use Rattle.std.specs.Prelude.{◌++◌, codes, decimal}
use Rattle.std.specs.List.{flat_map}
use Rattle.inode_scan.specs.declared.row.Row.{Row}

-- the number behind another one
unfoldable pub next_number : ℕ → ℕ
next_number x = (6364136223846793005 * x + 1442695040888963407) % 2 ^ 64

-- a line repeats the one before: every tenth does
abbrev pub repeats : (line : ℕ) → Bool
repeats line = line % 10 == 0

-- the number that a line is made of, where the line before was made of this one
abbrev pub number_behind : (x line : ℕ) → ℕ
number_behind x line = if repeats line then x else next_number x

-- the number that a line is made of; that of no line is the seed
abbrev pub number_of_line : (seed line : ℕ) → ℕ
number_of_line seed zero = seed
number_of_line seed (suc before) = number_behind (number_of_line seed before) (suc before)

-- the first of the lines that say the same: the line itself, or the one that it repeats
abbrev pub first_alike : (line : ℕ) → ℕ
first_alike line = if repeats line then line - 1 else line

-- what a line says that repeats none and is made of this number
abbrev pub row_made : (x line : ℕ) → Row
row_made x line =
    record {
      owner = 1000 + x / 2 ^ 33 % 5000;
      group = 100;
      device = 2049;
      inode = 1000 + line;
      blocks = 8 * (x / 2 ^ 20 % 64);
    }

-- a row as a line: five numbers with a space between them
unfoldable pub row_text : Row → List ℕ
row_text row =
    decimal row.owner ++ codes " " ++ decimal row.group ++ codes " " ++ decimal row.device ++ codes " "
    ++ decimal row.inode
    ++ codes " " ++ decimal row.blocks

-- a line
abbrev pub generated_line : (seed line : ℕ) → List ℕ
generated_line seed line = row_text (row_made (number_of_line seed line) (first_alike line))

-- this many lines behind the first ones
abbrev pub generated_lines : (seed before count : ℕ) → List (List ℕ)
generated_lines seed before zero = []
generated_lines seed before (suc count) = generated_line seed (suc before) ∷ generated_lines seed (suc before) count

-- lines as text: a newline ends each
abbrev pub lines_text : List (List ℕ) → List ℕ
lines_text lines = flat_map (λ line. line ++ codes "\n") lines

-- the listing of a seed with this many lines
unfoldable pub generated : (seed count : ℕ) → List ℕ
generated seed count = lines_text (generated_lines seed 0 count)
