-- What an index keeps. It is the code's own, and no contract of a public call speaks of it.
use Rattle.std.specs.Prelude.{◌≡◌, ℕ, ◌==◌, IsTrue, nat_eq, unwrap_or, IsSome, List, [], map, position, slice_get, All}
use Rattle.std.specs.HashMap.{get}
use Rattle.std.specs.Map.{lookup}
use Rattle.std.specs.Str.{bytes_eq}
use Rattle.std.specs.declared.vec.Vec.{Vec}
use Rattle.std.specs.declared.alloc.Global.{Global}
use Rattle.id_names.specs.declared.index.Index.{Index}
use Rattle.id_names.specs.declared.index.Row.{Row}
use Rattle.id_names.specs.FirstMatch.{first_id}
use Rattle.id_names.specs.NamesFile.{NameLine, is_name}

-- the names of a list of names with their identifiers
abbrev pub name_list : List (Vec ℕ Global × ℕ) → List (List ℕ)
name_list entries = map (λ e. e.0.items) entries

-- the line of a row, whose name stands among these
abbrev pub line_at : List (List ℕ) → Row → NameLine
line_at names row = record { name = unwrap_or (slice_get names row.name) []; id = row.id }

-- the lines that are kept
abbrev pub kept_lines : Index → List NameLine
kept_lines index = map (line_at (name_list index.names.entries)) index.rows.items

-- the index finds the first line of each name and of each identifier, and what it keeps are names
pub record IsIndex (index : Index) : Type 0 where
  pub ids : (name : List ℕ)
      → lookup (λ key. bytes_eq name key.items) index.names.entries ≡ first_id (kept_lines index) name
  pub first_rows : (id : ℕ) → get nat_eq index.first_rows id ≡ position (λ line. line.id == id) (kept_lines index)
  pub within : All (λ row. IsSome (slice_get (name_list index.names.entries) row.name)) index.rows.items
  pub are_names : All (λ line. IsTrue (is_name line.name)) (kept_lines index)
