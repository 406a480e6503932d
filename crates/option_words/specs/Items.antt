-- How words fall into options with their values and operands. Source: the utility syntax guidelines of POSIX, as far as
-- letters in one word, values and `--` go; long options are as getopt_long(3) has them, but for their abbreviation.
use Rattle.std.specs.Prelude.{ℕ, ◌+◌, Bool, ◌&&◌, ◌==◌, nat_lt, if◌then◌else◌, List, [], ◌∷◌, ◌++◌, length, map}
use Rattle.std.specs.Prelude.{slice_index, drop, Option, Some, None, String, codes}
use Rattle.std.specs.String.{string_bytes}
use Rattle.std.specs.declared.alloc.Global.{Global}
use Rattle.std.specs.Str.{bytes_eq}
use Rattle.option_words.specs.declared.switch.Flag.{Flag}
use Rattle.option_words.specs.declared.switch.Setting.{Setting as SettingName}
use Rattle.option_words.specs.declared.switch.Switch.{Switch}
use Rattle.option_words.specs.declared.switch.Switch.TheVariants.{Flagged, Setting, Export}
use Rattle.option_words.specs.declared.tool.Tool.{Tool}
use Rattle.option_words.specs.Parts.{parted}
use Rattle.option_words.specs.Switches.{letter_switch, long_switch}

-- One thing that is said on a command line, with the number of the word in which it began.
pub data Item : Type 0 where
  -- a flag
  Raised : Flag → Item
  -- a setting with its value
  Set : SettingName → List ℕ → ℕ → Item
  -- an export with its path, kind and file
  Exported : List ℕ → List ℕ → List ℕ → ℕ → Item
  -- an option that the command does not have
  Unknown : ℕ → Item
  -- an option behind which the words end before its value
  Unfinished : ℕ → Item
  -- an operand
  Plain : List ℕ → ℕ → Item

-- What the next word is: any word, or one behind `--`, or the value of a setting, or the path, the kind or the file of
-- an export, with the number of the word in which the option began.
pub data Next : Type 0 where
  AnyWord : Next
  Operands : Next
  ValueOf : SettingName → ℕ → Next
  PathOf : ℕ → Next
  KindOf : List ℕ → ℕ → Next
  FileOf : List ℕ → List ℕ → ℕ → Next

-- what a word says, and what the next word is
pub record Said : Type 0 where
  pub items : List Item
  pub next : Next

-- a word that says only this
abbrev pub says : Item → Said
says item = record { items = item ∷ []; next = AnyWord }

-- a word behind which another one is wanted
abbrev pub wants : Next → Said
wants next = record { items = []; next = next }

-- The letter of an option in a word, with the letters behind it and what they would say. A flag leaves them to say it,
-- and they are the value of a setting, which is the next word where there are none.
abbrev pub letter_says : Option Switch → (word : ℕ) (behind : List ℕ) → Said → Said
letter_says (Some (Flagged flag)) word behind more = record { items = Raised flag ∷ more.items; next = more.next }
letter_says (Some (Setting setting)) word [] more = wants (ValueOf setting word)
letter_says (Some (Setting setting)) word (x ∷ behind) more = says (Set setting (x ∷ behind) word)
letter_says (Some Export) word behind more = says (Unknown word)
letter_says None word behind more = says (Unknown word)

-- a word with one hyphen in front holds letters
abbrev pub letters_say : Tool → (word : ℕ) → List ℕ → Said
letters_say tool word [] = wants AnyWord
letters_say tool word (letter ∷ behind) =
    letter_says (letter_switch tool letter) word behind (letters_say tool word behind)

-- A long option, and its value where an equals sign stands before one. A flag has none, and an export takes the next
-- words.
abbrev pub long_says : Option Switch → (word : ℕ) → Option (List ℕ) → Said
long_says (Some (Flagged flag)) word None = says (Raised flag)
long_says (Some (Setting setting)) word None = wants (ValueOf setting word)
long_says (Some (Setting setting)) word (Some value) = says (Set setting value word)
long_says (Some Export) word None = wants (PathOf word)
long_says _ word _ = says (Unknown word)

-- a word with two hyphens in front, which may have an equals sign with a name before it and a value behind
abbrev pub long_word_says : Tool → (word : ℕ) → List ℕ → Option (List ℕ × List ℕ) → Said
long_word_says tool word text (Some parts) = long_says (long_switch tool parts.0) word (Some parts.1)
long_word_says tool word text None = long_says (long_switch tool text) word None

-- a word that holds options begins with a hyphen, and has more than that
abbrev pub holds_options : List ℕ → Bool
holds_options text = nat_lt 1 (length text) && (slice_index text 0 == 45)

-- a word that holds options, the letters of some or a long one
abbrev pub options_say : Tool → (word : ℕ) → List ℕ → Said
options_say tool word text =
    if slice_index text 1 == 45
    then long_word_says tool word text (parted 61 text)
    else letters_say tool word (drop 1 text)

-- a word that is not the value of an option before it, and not behind `--`
abbrev pub any_word_says : Tool → (word : ℕ) → List ℕ → Said
any_word_says tool word text =
    if bytes_eq text (codes "--") then wants Operands
    else if holds_options text then options_say tool word text
    else says (Plain text word)

-- a word in its place
abbrev pub word_says : Tool → Next → (word : ℕ) → List ℕ → Said
word_says tool AnyWord word text = any_word_says tool word text
word_says tool Operands word text = record { items = Plain text word ∷ []; next = Operands }
word_says tool (ValueOf setting began) word text = says (Set setting text began)
word_says tool (PathOf began) word text = wants (KindOf text began)
word_says tool (KindOf path began) word text = wants (FileOf path text began)
word_says tool (FileOf path kind began) word text = says (Exported path kind text began)

-- what the end of the words says
abbrev pub end_says : Next → List Item
end_says AnyWord = []
end_says Operands = []
end_says (ValueOf setting began) = Unfinished began ∷ []
end_says (PathOf began) = Unfinished began ∷ []
end_says (KindOf path began) = Unfinished began ∷ []
end_says (FileOf path kind began) = Unfinished began ∷ []

-- what words say from left to right, of which the first has this number
abbrev pub items_of : Tool → Next → (word : ℕ) → List (List ℕ) → List Item
items_of tool next word [] = end_says next
items_of tool next word (text ∷ texts) =
    (word_says tool next word text).items ++ items_of tool (word_says tool next word text).next (word + 1) texts

-- an operand, and the number of its word
pub record Operand : Type 0 where
  pub text : List ℕ
  pub word : ℕ

-- the operands among items, from left to right
abbrev pub operands_in : List Item → List Operand
operands_in [] = []
operands_in (Plain text word ∷ items) = record { text = text; word = word } ∷ operands_in items
operands_in (_ ∷ items) = operands_in items

-- words as a program is given them
abbrev pub texts_of : List (String Global) → List (List ℕ)
texts_of words = map (λ (word : String Global). string_bytes word) words
