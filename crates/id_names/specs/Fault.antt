-- When a file of names is refused.
use Rattle.std.specs.Prelude.{◌≡◌, ℕ, Bool, IsTrue, Option, Some}
use Rattle.id_names.specs.declared.names_fault.NamesFault.{NamesFault}
use Rattle.id_names.specs.declared.names_fault.NamesFault.TheVariants.{BadLine, Memory}

-- a fault that reading a file may answer: a line that breaks the rules is the first such; when memory runs out is left
-- open
abbrev pub IsFaultOf : Option ℕ → NamesFault → Type 0
IsFaultOf bad (BadLine number) = bad ≡ Some number
IsFaultOf bad Memory = Unit {0}

-- a fault that taking the line of this number may answer: it breaks the rules, if it is named
abbrev pub IsBadLine : ℕ → Bool → NamesFault → Type 0
IsBadLine number is_bad (BadLine named) = (named ≡ number) × IsTrue is_bad
IsBadLine number is_bad Memory = Unit {0}
