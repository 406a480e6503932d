-- Lines of an input that say nothing. Source: this project's own.
use Rattle.std.specs.Prelude.{ℕ, ◌==◌, Bool, false, ◌||◌, List, [], ◌∷◌}
use Rattle.input_text.specs.Words.{words_eq, words_of}

-- the first byte of a comment is `#`
abbrev pub is_comment : List ℕ → Bool
is_comment [] = false
is_comment (byte ∷ line) = byte == 35

-- a line that is passed over is a comment, or has no words
abbrev pub says_nothing : List ℕ → Bool
says_nothing line = is_comment line || words_eq (words_of line) []
