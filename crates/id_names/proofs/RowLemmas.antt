-- The lines that an index keeps.
use Rattle.std.proofs.Common.{◌≡◌, ℕ, ◌<◌, ◌==◌, IsTrue, IsSome, unwrap_or, List, [], ◌∷◌, ◌++◌, length, map, position}
use Rattle.std.proofs.Common.{slice_get, get_or, All, nat_eq, if◌then◌else◌, Option, Some, None, Vec, Global, refl, sym}
use Rattle.std.proofs.Common.{ap, subst, ◌∙◌}
use Rattle.std.specs.HashMap.{get}
use Rattle.std.specs.Map.{lookup}
use Rattle.std.specs.Option.{option_map, option_or}
use Rattle.std.specs.Str.{bytes_eq}
use Rattle.std.proofs.lemmas.List.{length-map}
use Rattle.std.proofs.lemmas.List.Elements.{All-head, All-tail, All-push, All-weaker}
use Rattle.std.proofs.lemmas.Option.{slice_get_within, slice_get-map, slice_get_read, get_or_from_slice_get}
use Rattle.id_names.specs.declared.index.Index.{Index}
use Rattle.id_names.specs.declared.index.Row.{Row}
use Rattle.id_names.specs.FirstMatch.{first_id, first_name}
use Rattle.id_names.specs.Index.{IsIndex, kept_lines, line_at, name_list}
use Rattle.id_names.specs.NamesFile.{NameLine, is_name}
use Rattle.id_names.proofs.FirstLemmas.{find_from_position, find-none, first_id_push, position_push}
use Rattle.id_names.proofs.NameListLemmas.{Entries, has_name}

-- each name that stands in the first list stands at its place in the second, too
abbrev pub AreKept : List (List ℕ) → List (List ℕ) → Type 0
AreKept names new = (place : ℕ) (other : List ℕ) → slice_get names place ≡ Some other → slice_get new place ≡ Some other

same_name : (names new : List (List ℕ)) (place : ℕ) → AreKept names new → (o : Option (List ℕ))
    → slice_get names place ≡ o → IsSome o → slice_get new place ≡ slice_get names place
same_name names new place kept None at some = cc
same_name names new place kept (Some name) at some = kept place name at ∙ sym at

-- a row whose name stands among the names keeps its line
same_line : (names new : List (List ℕ)) (row : Row) → AreKept names new → IsSome (slice_get names row.name)
    → line_at new row ≡ line_at names row
same_line names new row kept some =
    let same = same_name names new row.name kept (slice_get names row.name) refl some in
    ap (λ (o : Option (List ℕ)). let line : NameLine = record { name = unwrap_or o []; id = row.id } in line) same

new_line : (names : List (List ℕ)) (row : Row) (line : NameLine) → slice_get names row.name ≡ Some line.name
    → row.id ≡ line.id → line_at names row ≡ line
new_line names row line at id =
    rw (at, id) refl

-- one more row is one more line
pub lines_push : (names new : List (List ℕ)) (rows : List Row) (row : Row) (line : NameLine) → AreKept names new
    → All (λ r. IsSome (slice_get names r.name)) rows → slice_get new row.name ≡ Some line.name → row.id ≡ line.id
    → map (line_at new) (rows ++ row ∷ []) ≡ map (line_at names) rows ++ line ∷ []
lines_push names new [] row line kept within at id = ap (λ (l : NameLine). l ∷ []) (new_line new row line at id)
lines_push names new (r ∷ rows) row line kept within at id =
    let P : Row → Type 0 = λ r. IsSome (slice_get names r.name) in
    let first = same_line names new r kept (All-head P r rows within) in
    let rest = lines_push names new rows row line kept (All-tail P r rows within) at id in
    ap (λ (l : NameLine). l ∷ map (line_at new) (rows ++ row ∷ [])) first
    ∙ ap (λ (ls : List NameLine). line_at names r ∷ ls) rest

-- the first line with an identifier has the name
pub first_name-at : (lines : List NameLine) (id at : ℕ) (line : NameLine) → position (λ l. l.id == id) lines ≡ Some at
    → slice_get lines at ≡ Some line → first_name lines id ≡ Some line.name
first_name-at lines id at line first here =
    ap (option_map (λ (l : NameLine). l.name)) (find_from_position (λ (l : NameLine). l.id == id) lines at first ∙ here)

-- with no first line there is no name
pub first_name-none : (lines : List NameLine) (id : ℕ) → position (λ l. l.id == id) lines ≡ None
    → first_name lines id ≡ None
first_name-none lines id none =
    ap (option_map (λ (l : NameLine). l.name)) (find-none (λ (l : NameLine). l.id == id) lines none)

-- what holds of all lines holds of the one at a place
pub All-slice_get : {X : Type 0} (P : X → Type 0) (xs : List X) (at : ℕ) (x : X) → All P xs
    → slice_get xs at ≡ Some x → P x
All-slice_get P xs at x all here =
    subst P (get_or_from_slice_get xs at x x here) (all at x (slice_get_within xs at x here))

-- the new index is the old one with a row of this line
pub record Adds (old new : Index) (row : Row) (line : NameLine) : Type 0 where
  pub kept : AreKept (name_list old.names.entries) (name_list new.names.entries)
  pub name : slice_get (name_list new.names.entries) row.name ≡ Some line.name
  pub id : row.id ≡ line.id
  pub rows : new.rows.items ≡ old.rows.items ++ row ∷ []
  pub ids : (other : List ℕ)
      → lookup (has_name other) new.names.entries
      ≡ option_or (lookup (has_name other) old.names.entries) (if bytes_eq other line.name then Some line.id else None)
  pub first_rows : (other : ℕ)
      → get nat_eq new.first_rows other
      ≡ option_or (get nat_eq old.first_rows other) (if line.id == other then Some (length old.rows.items) else None)

-- it keeps one line more
pub kept_lines-added : (old new : Index) (row : Row) (line : NameLine) → IsIndex old → Adds old new row line
    → kept_lines new ≡ kept_lines old ++ line ∷ []
kept_lines-added old new row line index adds =
    ap (map (line_at (name_list new.names.entries))) adds.rows
    ∙ lines_push (name_list old.names.entries) (name_list new.names.entries) old.rows.items row line adds.kept
    index.within adds.name adds.id

-- a name that stood among the names still does
still_some : (names new : List (List ℕ)) (place : ℕ) → AreKept names new → IsSome (slice_get names place)
    → IsSome (slice_get new place)
still_some names new place kept some =
    subst (λ (o : Option (List ℕ)). IsSome o)
    (sym (same_name names new place kept (slice_get names place) refl some)) some

-- and it is an index again
pub IsIndex-added : (old new : Index) (row : Row) (line : NameLine) → IsIndex old → IsTrue (is_name line.name)
    → Adds old new row line → IsIndex new
IsIndex-added old new row line index named adds =
    let lines = kept_lines-added old new row line index adds in
    let names = name_list old.names.entries in
    let more = name_list new.names.entries in
    let Within : Row → Type 0 = λ r. IsSome (slice_get more r.name) in
    let Named : NameLine → Type 0 = λ l. IsTrue (is_name l.name) in
    let here : Within row = subst (λ (o : Option (List ℕ)). IsSome o) (sym adds.name) refl in
    let rows : All Within old.rows.items = All-weaker (λ (r : Row). IsSome (slice_get names r.name)) Within
    (λ r some. still_some names more r.name adds.kept some) old.rows.items index.within in
    record {
      ids = λ name. adds.ids name
          ∙ ap (λ (o : Option ℕ). option_or o (if bytes_eq name line.name then Some line.id else None)) (index.ids name)
          ∙ sym (first_id_push (kept_lines old) line name) ∙ ap (λ (ls : List NameLine). first_id ls name) (sym lines);
      first_rows = λ id. adds.first_rows id
          ∙ ap (λ (o : Option ℕ). option_or o (if line.id == id then Some (length old.rows.items) else None))
          (index.first_rows id)
          ∙ ap (λ (n : ℕ). option_or (position (λ l. l.id == id) (kept_lines old))
          (if line.id == id then Some n else None)) (sym (length-map old.rows.items (line_at names)))
          ∙ sym (position_push (λ (l : NameLine). l.id == id) (kept_lines old) line)
          ∙ ap (λ (ls : List NameLine). position (λ l. l.id == id) ls) (sym lines);
      within = subst (λ (rs : List Row). All Within rs) (sym adds.rows) (All-push Within old.rows.items row rows here);
      are_names = subst (λ (ls : List NameLine). All Named ls) (sym lines)
          (All-push Named (kept_lines old) line index.are_names named);
    }

-- the line at a place, by its row and the row's name
pub line_of_row : (index : Index) (at : ℕ) (row : Row) (name : List ℕ) → slice_get index.rows.items at ≡ Some row
    → slice_get (name_list index.names.entries) row.name ≡ Some name
    → slice_get (kept_lines index) at ≡ Some (record { name = name; id = row.id })
line_of_row index at row name here named =
    let line : NameLine = record { name = name; id = row.id } in
    slice_get-map (line_at (name_list index.names.entries)) index.rows.items at
    ∙ ap (option_map (line_at (name_list index.names.entries))) here
    ∙ ap Some (new_line (name_list index.names.entries) row line named refl)

-- a row that was read stands at its place
pub row_read : (rows items : List Row) (at : ℕ) (row : Row) → items ≡ rows → at < length items
    → row ≡ get_or items at row → slice_get rows at ≡ Some row
row_read rows items at row same within is =
    ap (λ (rs : List Row). slice_get rs at) (sym same) ∙ slice_get_read items (length items) at row refl within is

-- and so does a name that was read
pub name_read : (es : Entries) (place : ℕ) (key : Vec ℕ Global) (id : ℕ) → Some (key, id) ≡ slice_get es place
    → slice_get (name_list es) place ≡ Some key.items
name_read es place key id is =
    slice_get-map (λ (e : Vec ℕ Global × ℕ). e.0.items) es place
    ∙ ap (option_map (λ (e : Vec ℕ Global × ℕ). e.0.items)) (sym is)

-- a name that stands among the names can be read
pub name_is_there : (es : Entries) (place : ℕ) → None ≡ slice_get es place → IsSome (slice_get (name_list es) place) → ⊥
name_is_there es place none some =
    let gone = slice_get-map (λ (e : Vec ℕ Global × ℕ). e.0.items) es place
    ∙ ap (option_map (λ (e : Vec ℕ Global × ℕ). e.0.items)) (sym none) in
    let nothing : IsSome {T = List ℕ} None = subst (λ (o : Option (List ℕ)). IsSome o) gone some in
    cc
