-- Files in memory, as pairs of a name and its bytes.
use Rattle.std.specs.Prelude.{◌≢◌, ℕ, List, find, AllPairs, String, Vec}
use Rattle.std.specs.Option.{option_map}
use Rattle.std.specs.Str.{bytes_eq}
use Rattle.std.specs.String.{string_bytes}
use Rattle.std.specs.declared.alloc.Global.{Global}
use Rattle.outside.specs.World.{World}

-- a name and the bytes of the file
abbrev pub NamedFile : Type 0
NamedFile = String Global × Vec ℕ Global

-- the first file of this name
abbrev pub file_named : List NamedFile → World
file_named files name =
    option_map (λ (file : NamedFile). file.1.items)
    (find (λ (file : NamedFile). bytes_eq (string_bytes file.0) name) files)

-- no two files have one name
abbrev pub HaveDistinctNames : List NamedFile → Type 0
HaveDistinctNames files = AllPairs (λ (one other : NamedFile). string_bytes one.0 ≢ string_bytes other.0) files
