-- The kinds of names that a journal store tells apart.
use Rattle.std.specs.Prelude.{ℕ, ◌-◌, Bool, ◌||◌, List, length, drop, nat_le, codes, if◌then◌else◌}
use Rattle.std.specs.Str.{bytes_eq}
use Rattle.journal_store.specs.declared.kinds.NameKind.{NameKind}
use Rattle.journal_store.specs.declared.kinds.NameKind.TheVariants.{Barred, New, Plain}

-- whether a name ends so
abbrev pub ends_so : List ℕ → List ℕ → Bool
ends_so name ending = bytes_eq (drop (length name - length ending) name) ending

-- whether a name is kept for undo files: it ends in `.undo` or `.und`
unfoldable pub is_undo : List ℕ → Bool
is_undo name = ends_so name (codes ".undo") || ends_so name (codes ".und")

-- whether a name is one under which a whole new file is written before it takes the place of the old one: it ends in
-- `.new`
unfoldable pub is_new : List ℕ → Bool
is_new name = ends_so name (codes ".new")

-- A name is barred where it is kept for undo files, or has more than 250 bytes, not counting the ending `.new`. Of the
-- others those that end in `.new` are new, and the rest are plain.
abbrev pub kind_of : List ℕ → NameKind
kind_of name =
    if is_undo name then Barred
    else (if is_new name then (if nat_le (length name) 254 then New else Barred)
    else (if nat_le (length name) 250 then Plain else Barred))
