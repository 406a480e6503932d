-- What a command takes from an input: the file of `--input`, or the standard input where there is none. Source: this
-- project's own.
use Rattle.std.specs.Prelude.{◌≡◌, ℕ, Bool, true, false, ◌||◌, IsTrue, List, [], Option, Some, None, IsSome, is_none}
use Rattle.input_text.specs.InputLeft.{left_from}
use Rattle.outside.specs.World.{World}
use Rattle.refusals.specs.declared.cause.Cause.{Cause}
use Rattle.refusals.specs.declared.cause.Cause.TheVariants.{NoFile, StoreFault, SourceFault, Memory, TooLarge, LongLine}
use Rattle.refusals.specs.declared.cause.Cause.TheVariants.{BadForm, BadLine, Conflict}
use Rattle.refusals.specs.Refusals.{refusal_of}
use Rattle.refusals.specs.Outcome.{Outcome, Passed, Refused}
use Rattle.run_steps.specs.Run.{Uses}
use Rattle.run_steps.specs.Steps.{Steps, Looking, Reading, Then}

-- what refusals call an input: its file, or nothing where it is the standard input
abbrev pub input_name : Option (List ℕ) → List ℕ
input_name None = []
input_name (Some name) = name

-- what a file of an input says, where it is there
abbrev pub file_said : {V : Type 0} → List ℕ → (List ℕ → Outcome V) → Option (List ℕ) → Outcome V
file_said name read None = Refused (refusal_of NoFile name)
file_said name read (Some bytes) = read (left_from (Some bytes) 0)

-- what an input says, as it is seen
abbrev pub input_said : {V : Type 0} → Option (List ℕ) → (List ℕ → Outcome V) → World → List ℕ → Outcome V
input_said None read files left = read left
input_said (Some name) read files left = file_said name read (files name)

-- the whole input is read where the step passes with a value that asks for that
abbrev pub reads_whole : {V : Type 0} → (V → Bool) → Outcome V → Bool
reads_whole is_whole (Passed value) = is_whole value
reads_whole is_whole (Refused refusal) = false

-- an input is read, the whole of it where the value says so, and then comes what the next steps say of it
abbrev pub Taking : {V : Type 0} → Option (List ℕ) → (V → Bool) → (List ℕ → Outcome V) → (V → Steps) → Steps
Taking None is_whole read next =
    Reading (λ (bytes : List ℕ). reads_whole is_whole (read bytes)) (λ (bytes : List ℕ). Then (read bytes) next)
Taking (Some name) is_whole read next = Looking (λ (files : World). Then (file_said name read (files name)) next)

-- the same command, which reads the standard input where its input is no file
abbrev pub reading : Option (List ℕ) → Uses → Uses
reading from uses = record uses { input = is_none from }

-- What an input is to a command: a form, which takes no memory and is refused as a whole; lines that are read one by
-- one, each of which may be refused; or a listing, which is refused as a whole.
pub data InputKind : Type 0 where
  AForm : InputKind
  Lines : InputKind
  AListing : InputKind

-- an input is a form
abbrev pub is_form : InputKind → Bool
is_form AForm = true
is_form Lines = false
is_form AListing = false

-- an input is a listing
abbrev pub is_listing : InputKind → Bool
is_listing AForm = false
is_listing Lines = false
is_listing AListing = true

-- an input is refused as a whole
abbrev pub is_whole_refused : InputKind → Bool
is_whole_refused kind = is_form kind || is_listing kind

-- The causes for which an input may not be read, whatever is told, with the name that is said.
abbrev pub InputMayRefuse : InputKind → Option (List ℕ) → Cause → List ℕ → Type 0
InputMayRefuse kind from StoreFault name = IsSome from
InputMayRefuse kind from SourceFault name = from ≡ None
InputMayRefuse kind from Memory name = is_form kind ≡ false
InputMayRefuse kind from NoFile name = from ≡ Some name
InputMayRefuse kind from (LongLine line) name = IsTrue (is_whole_refused kind) × (name ≡ input_name from)
InputMayRefuse kind from TooLarge name = IsTrue (is_whole_refused kind) × (name ≡ input_name from)
InputMayRefuse kind from (BadForm line) name = IsTrue (is_form kind) × (name ≡ input_name from)
InputMayRefuse kind from (BadLine line) name = IsTrue (is_listing kind) × (name ≡ input_name from)
InputMayRefuse kind from (Conflict line first) name = IsTrue (is_listing kind) × (name ≡ input_name from)
InputMayRefuse kind from _ name = ⊥
