-- The changes of an opened quota file, as edits of the value that it holds, and what is left where one of them failed.
use Rattle.std.specs.Prelude.{ℕ, Bool, true, false, List, Option, is_none, IsSomeAnd, Result, Ok}
use Rattle.std.specs.FinMap.{get}
use Rattle.quota_types.specs.declared.field.Field.{Field}
use Rattle.quota_value.specs.QuotaValue.{QuotaValue}
use Rattle.outside.specs.World.{World}
use Rattle.opened_file.specs.FileChange.{FileChange, Put, Remove, SetGrace, changed_value}

-- at this value the change has nothing to do: it takes a record away that is not there
abbrev pub has_nothing_to_do : FileChange → QuotaValue → Bool
has_nothing_to_do (Put id rec) value = false
has_nothing_to_do (Remove id) value = is_none (get value.records id)
has_nothing_to_do (SetGrace grace) value = false

-- the file may lack room for the changed value; it never does for grace periods, which are as large in every file
abbrev pub may_lack_room : FileChange → Bool
may_lack_room (Put id rec) = true
may_lack_room (Remove id) = true
may_lack_room (SetGrace grace) = false

-- An edit of a value: what it makes of the value, or the first field for which the format has no room, with that
-- field's value; by which change of the file; at which values nothing is to be done; and whether the file may lack room
-- for what it makes.
pub record ValueEdit : Type 0 where
  pub edited : QuotaValue → Result QuotaValue (Field × ℕ)
  pub change : QuotaValue → FileChange
  pub is_idle : QuotaValue → Bool
  pub needs_room : Bool

-- a change of the file, as an edit of its value
abbrev pub edit_by : FileChange → ValueEdit
edit_by change = record {
  edited = λ value. Ok (changed_value change value);
  change = λ _. change;
  is_idle = λ value. has_nothing_to_do change value;
  needs_room = may_lack_room change;
}

-- What a change that failed left of the named file: there are files that it would have made of the old ones, of which
-- the named one stands for the changed value, and what is left lies between the two.
pub record IsLeft (made_so : World → World → Type 0) (stands_so : List ℕ → Type 0)
    (between : (old after left : Option (List ℕ)) → Type 0) (name : List ℕ) (old new : World) : Type 0 where
  pub after : World
  pub made : made_so old after
  pub stands : IsSomeAnd (after name) stands_so
  pub left : between (old name) (after name) (new name)
