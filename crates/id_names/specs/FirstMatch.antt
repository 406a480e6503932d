-- Look-ups among lines of names. Source: getpwnam(3), getpwuid(3), getgrnam(3) and getgrgid(3), which give the first
-- line of the file that matches.
use Rattle.std.specs.Prelude.{ℕ, ◌==◌, List, find, Option}
use Rattle.std.specs.Option.{option_map}
use Rattle.std.specs.Str.{bytes_eq}
use Rattle.id_names.specs.NamesFile.{NameLine}

-- the identifier of the first line with this name
abbrev pub first_id : List NameLine → List ℕ → Option ℕ
first_id lines name = option_map (λ line. line.id) (find (λ line. bytes_eq name line.name) lines)

-- the name of the first line with this identifier
abbrev pub first_name : List NameLine → ℕ → Option (List ℕ)
first_name lines id = option_map (λ line. line.name) (find (λ line. line.id == id) lines)
