-- The words of a line. Blanks are the space and the tab, as sscanf(3) takes them inside a line.
use Rattle.std.specs.Prelude.{ℕ, Bool, true, false, ◌&&◌, ◌||◌, ◌==◌, nat_lt, if◌then◌else◌, List, [], ◌∷◌, length}
use Rattle.std.specs.Prelude.{filter, Option, Some, None}
use Rattle.std.specs.List.{slice_split}
use Rattle.std.specs.Str.{bytes_eq}

-- a space or a tab
abbrev pub is_blank : ℕ → Bool
is_blank byte = byte == 32 || byte == 9

-- a part of a line that has a byte
abbrev pub is_word : List ℕ → Bool
is_word part = nat_lt 0 (length part)

-- the words of a line: its longest parts without a blank
unfoldable pub words_of : List ℕ → List (List ℕ)
words_of line = filter is_word (slice_split is_blank line)

-- two lists have the same words in the same order
abbrev pub words_eq : List (List ℕ) → List (List ℕ) → Bool
words_eq [] [] = true
words_eq [] (other ∷ others) = false
words_eq (word ∷ words) [] = false
words_eq (word ∷ words) (other ∷ others) = bytes_eq word other && words_eq words others

-- what is behind the words of the first list in the second one, where that begins with them
abbrev pub words_behind : List (List ℕ) → List (List ℕ) → Option (List (List ℕ))
words_behind [] words = Some words
words_behind (front ∷ more) [] = None
words_behind (front ∷ more) (word ∷ words) = if bytes_eq word front then words_behind more words else None
