-- The identifiers of a list and of a listing, one after another. It is the code's own, and no contract of a public call
-- speaks of it.
use Rattle.std.specs.Prelude.{ℕ, ◌==◌, min, if◌then◌else◌, List, [], ◌∷◌, Option, Some, None}
use Rattle.quota_types.specs.declared.record.Entry.{Entry}
use Rattle.quota_types.specs.declared.record.Rec.{Rec}

-- the identifier at the front of a list
abbrev pub first_id : List Entry → Option ℕ
first_id [] = None
first_id (entry ∷ entries) = Some entry.id

-- the lesser of two identifiers, where there are both
abbrev pub least_id : Option ℕ → Option ℕ → Option ℕ
least_id None other = other
least_id (Some id) None = Some id
least_id (Some id) (Some other) = Some (min other id)

-- the record of an identifier, where that stands at the front of a list
abbrev pub record_at : ℕ → List Entry → Option Rec
record_at id [] = None
record_at id (entry ∷ entries) = if entry.id == id then Some entry.rec else None

-- the list behind an identifier, where that stands at its front
abbrev pub records_behind : ℕ → List Entry → List Entry
records_behind id [] = []
records_behind id (entry ∷ entries) = if entry.id == id then entries else entry ∷ entries
