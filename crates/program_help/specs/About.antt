-- What a program says about itself, and which words ask for it. Source: the GNU coding standards, on `--help` and
-- `--version`; that such a word stands alone, or behind the name of a command alone, is this project's own.
use Rattle.std.specs.Prelude.{◌≡◌, ◌⊎◌, ℕ, if◌then◌else◌, List, [], ◌∷◌, ◌++◌, Option, Some, None, codes}
use Rattle.std.specs.Str.{bytes_eq}
use Rattle.outside.specs.Text.{AppendsPrefix}
use Rattle.program_help.specs.declared.about.About.{About}
use Rattle.program_help.specs.declared.about.About.TheVariants.{Help, Version, Command}

-- What a program is asked about itself: its help, its version, or how the command of a name is used.
pub data Question : Type 0 where
  OfHelp : Question
  OfVersion : Question
  OfCommand : List ℕ → Question

-- the question that is answered by this
abbrev pub question_of : About → Question
question_of Help = OfHelp
question_of Version = OfVersion
question_of (Command name) = OfCommand name.now

-- what a word asks for that stands alone
abbrev pub asked_alone : List ℕ → Option Question
asked_alone word =
    if bytes_eq word (codes "--help") then Some OfHelp
    else if bytes_eq word (codes "--version") then Some OfVersion
    else None

-- what a word asks for that stands alone behind the name of a command
abbrev pub asked_of : (name word : List ℕ) → Option Question
asked_of name word = if bytes_eq word (codes "--help") then Some (OfCommand name) else None

-- a text with the line of a commit behind it
abbrev pub with_commit : (text commit : List ℕ) → List ℕ
with_commit text commit = text ++ (codes "commit " ++ (commit ++ codes "\n"))

-- what words ask for: one alone, or one alone behind a name; and other words ask for nothing
abbrev pub asked : List (List ℕ) → Option Question
asked (word ∷ []) = asked_alone word
asked (name ∷ word ∷ []) = asked_of name word
asked _ = None

-- A text has the line of a commit behind it.
pub record HasCommit (text told : List ℕ) : Type 0 where
  pub commit : List ℕ
  pub behind : told ≡ with_commit text commit

-- What is told where a program has a text for a question: that text, or, of its version, that text with the line of a
-- commit behind it.
abbrev pub Answers : Option Question → (text told : List ℕ) → Type 0
Answers (Some OfVersion) text told = (told ≡ text) ⊎ HasCommit text told
Answers _ text told = told ≡ text

-- an answer is appended to what was written
pub record IsAnswered (question : Option Question) (text old new : List ℕ) : Type 0 where
  pub told : List ℕ
  pub answers : Answers question text told
  pub appended : new ≡ old ++ told

-- a first part of an answer is
pub record IsAnsweredInPart (question : Option Question) (text old new : List ℕ) : Type 0 where
  pub told : List ℕ
  pub answers : Answers question text told
  pub begun : AppendsPrefix old new told
