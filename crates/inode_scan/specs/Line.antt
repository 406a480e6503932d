-- What a line of a listing says: an owner, a group, a device, an inode and a number of 512-byte blocks, as find(1)
-- prints them with `-printf '%U %G %D %i %b\n'`. That words may be blank-separated otherwise, the bounds, and that a
-- listing of projects has the project in the place of the group, are this project's own.
use Rattle.std.specs.Prelude.{ℕ, ◌^◌, Bool, ◌&&◌, not, nat_lt, is_none, if◌then◌else◌, List, [], ◌∷◌, Option, Some}
use Rattle.std.specs.Prelude.{None}
use Rattle.std.specs.Option.{option_and_then}
use Rattle.input_text.specs.Numeral.{number_of}
use Rattle.input_text.specs.Words.{words_eq, words_of}
use Rattle.inode_scan.specs.declared.row.Row.{Row}

-- the number, where it is below the bound
abbrev pub below : (bound : ℕ) → ℕ → Option ℕ
below bound number = if nat_lt number bound then Some number else None

-- the number that a word spells, where it is below the bound
unfoldable pub number_below : (bound : ℕ) → List ℕ → Option ℕ
number_below bound word = option_and_then (below bound) (number_of word)

-- five numbers, where all are there
abbrev pub row_from : (owner group device inode blocks : Option ℕ) → Option Row
row_from (Some owner) (Some group) (Some device) (Some inode) (Some blocks) =
    Some (record { owner = owner; group = group; device = device; inode = inode; blocks = blocks })
row_from owner group device inode blocks = None

-- What five words say. The owner and the group or project are identifiers of 32 bits, the other three are numbers of 64
-- bits.
abbrev pub row_of : List (List ℕ) → Option Row
row_of (owner ∷ group ∷ device ∷ inode ∷ blocks ∷ []) =
    row_from (number_below (2 ^ 32) owner) (number_below (2 ^ 32) group) (number_of device) (number_of inode)
    (number_of blocks)
row_of words = None

-- what a line says, where it says something
unfoldable pub row_in : List ℕ → Option Row
row_in line = row_of (words_of line)

-- a line is bad: it has words, and is not five numbers in their ranges
abbrev pub is_bad : List ℕ → Bool
is_bad line = not (words_eq (words_of line) []) && is_none (row_in line)
