-- Names of a store that are unsynced: written or made since they were last synced. Source: fsync(2).
use Rattle.std.specs.Prelude.{ℕ, Bool, false, IsTrue, List, if◌then◌else◌}
use Rattle.std.specs.Str.{bytes_eq}

-- which names are unsynced
abbrev pub UnsyncedNames : Type 0
UnsyncedNames = List ℕ → Bool

-- the names once this one is among them, or is not
abbrev pub with_name : UnsyncedNames → List ℕ → Bool → UnsyncedNames
with_name names name is other = if bytes_eq name other then is else names other

-- the names once a file of one name was given another one, which is among them where the old one was
abbrev pub with_handed : UnsyncedNames → (from to : List ℕ) → UnsyncedNames
with_handed names from to = with_name (with_name names from false) to (names from)

-- no name is unsynced that was not
abbrev pub AddsNone : UnsyncedNames → UnsyncedNames → Type 0
AddsNone old new = (name : List ℕ) → IsTrue (new name) → IsTrue (old name)
