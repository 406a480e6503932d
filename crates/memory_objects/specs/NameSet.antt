-- A set of names in memory, as a list of texts.
use Rattle.std.specs.Prelude.{List, String}
use Rattle.std.specs.List.{list_any}
use Rattle.std.specs.Str.{bytes_eq}
use Rattle.std.specs.String.{string_bytes}
use Rattle.std.specs.declared.alloc.Global.{Global}
use Rattle.outside.specs.Unsynced.{UnsyncedNames}

-- the names that stand in the list
abbrev pub names_in : List (String Global) → UnsyncedNames
names_in texts name = list_any (λ (text : String Global). bytes_eq (string_bytes text) name) texts
