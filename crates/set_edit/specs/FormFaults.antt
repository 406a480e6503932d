-- Why a form was not read.
use Rattle.std.specs.Prelude.{◌≡◌, ℕ, Bool, IsTrue, List, Result, Err}
use Rattle.outside.specs.Count.{Rose}
use Rattle.input_text.specs.InputLines.{InputLines, LongNext, PastNext}
use Rattle.input_text.specs.LineReading.{lines_left, LinesSeen}
use Rattle.input_text.specs.declared.line_reader.LineFault.{LineFault}
use Rattle.input_text.specs.declared.line_reader.LineFault.TheVariants.{Source, Long, TooLarge}
use Rattle.set_edit.specs.declared.form_reading.FormFault.{FormFault}
use Rattle.set_edit.specs.declared.form_reading.FormFault.TheVariants.{Lines, BadForm}

-- The source's count of faults rose; or, of a source that tells what is left in it, reading leads to this fault.
abbrev pub IsFormFault : {A : Type 0} → (before now : ℕ) → Bool → Result A FormFault → FormFault → Type 0
IsFormFault before now tells read (Lines Source) = Rose before now
IsFormFault before now tells read (Lines (Long number)) = IsTrue tells → read ≡ Err (Lines (Long number))
IsFormFault before now tells read (Lines TooLarge) = IsTrue tells → read ≡ Err (Lines TooLarge)
IsFormFault before now tells read (BadForm number) = IsTrue tells → read ≡ Err (BadForm number)

-- The source's count of faults rose; or, of a source that tells what is left in it, the next line is too long and has
-- this number, or it does not end within the bytes that may be read.
abbrev pub IsLinesFault : (before now : ℕ) → Bool → (number : ℕ) → InputLines → LineFault → Type 0
IsLinesFault before now tells number lines Source = Rose before now
IsLinesFault before now tells number lines (Long named) = (named ≡ number) × (IsTrue tells → lines ≡ LongNext)
IsLinesFault before now tells number lines TooLarge = IsTrue tells → lines ≡ PastNext

-- the lines of a form that a reader has still to give, where its source has these bytes left
abbrev pub form_lines : LinesSeen → List ℕ → InputLines
form_lines seen left = lines_left 1024 16777216 seen left
