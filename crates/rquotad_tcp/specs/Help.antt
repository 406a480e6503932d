-- What the program tells of itself. Source: the GNU coding standards, on `--help` and `--version`.
use Rattle.std.specs.Prelude.{◌≡◌, ℕ, IsSomeAnd, IsTrue, List, Option, Some, None, codes, nat_eq}
use Rattle.std.specs.List.{starts_with}
use Rattle.program_help.specs.About.{Question, OfHelp, OfVersion, OfCommand}

-- The text that is told where this is asked: the help, which begins with the form of the program, or the version; of a
-- command none, since there are no commands, and none where nothing is asked.
abbrev pub IsTold : Option Question → Option (List ℕ) → Type 0
IsTold (Some OfHelp) text = IsSomeAnd text (λ text. IsTrue (starts_with nat_eq text (codes "Usage: rquotad_tcp PORT ")))
IsTold (Some OfVersion) text = text ≡ Some (codes "rquotad_tcp 0.1.0\n")
IsTold (Some (OfCommand _)) text = text ≡ None
IsTold None text = text ≡ None
