-- The names that a command is given. Source: passwd(5), group(5) and projid(5); that the file of names is named on the
-- command line, and how large it may be, is this project's own.
use Rattle.std.specs.Prelude.{◌≡◌, ℕ, nat_lt, if◌then◌else◌, List, [], length, Option, Some, None, ⊤}
use Rattle.quota_types.specs.declared.file_kind.Kind.{Kind}
use Rattle.outside.specs.World.{World}
use Rattle.id_names.specs.NamesFile.{NameLine, bad_line, names_in}
use Rattle.refusals.specs.declared.cause.Cause.{Cause}
use Rattle.refusals.specs.declared.cause.Cause.TheVariants.{StoreFault, NoFile, TooLarge, Memory, BadLine}
use Rattle.refusals.specs.Refusals.{refusal_of}
use Rattle.refusals.specs.Outcome.{Outcome, Passed, Refused}

-- the most bytes of a file of names
abbrev pub most_names : ℕ
most_names = 16777216

-- the lines of a file of names, unless one of them breaks the rules
abbrev pub unless_bad : List ℕ → Option ℕ → List NameLine → Outcome (List NameLine)
unless_bad name None lines = Passed lines
unless_bad name (Some line) lines = Refused (refusal_of (BadLine line) name)

-- what the file of names of this name tells, where it is there
abbrev pub names_of_file : Kind → List ℕ → Option (List ℕ) → Outcome (List NameLine)
names_of_file kind name None = Refused (refusal_of NoFile name)
names_of_file kind name (Some bytes) =
    if nat_lt most_names (length bytes) then Refused (refusal_of TooLarge name)
    else unless_bad name (bad_line kind bytes) (names_in kind bytes)

-- the names that a command is given: those of its file of names, or none
abbrev pub names_seen : Kind → Option (List ℕ) → World → Outcome (List NameLine)
names_seen kind None files = Passed []
names_seen kind (Some name) files = names_of_file kind name (files name)

-- names that a command may be given, whatever is told: none where it is given no file of names
abbrev pub MayBeNames : Option (List ℕ) → List NameLine → Type 0
MayBeNames None lines = lines ≡ []
MayBeNames (Some name) lines = ⊤

-- the causes for which a file of names may be refused, whatever is told, with the name that is said
abbrev pub FileOfNamesMayRefuse : List ℕ → Cause → List ℕ → Type 0
FileOfNamesMayRefuse file StoreFault name = ⊤
FileOfNamesMayRefuse file Memory name = ⊤
FileOfNamesMayRefuse file NoFile name = name ≡ file
FileOfNamesMayRefuse file TooLarge name = name ≡ file
FileOfNamesMayRefuse file (BadLine line) name = name ≡ file
FileOfNamesMayRefuse file _ name = ⊥

-- the causes for which a command may be refused by its file of names, where it is given one
abbrev pub NamesMayRefuse : Option (List ℕ) → Cause → List ℕ → Type 0
NamesMayRefuse None cause name = ⊥
NamesMayRefuse (Some file) cause name = FileOfNamesMayRefuse file cause name
