-- What is said of every edit of an opened quota file, whatever it sets and whatever the format.
use Rattle.std.specs.Prelude.{◌≡◌, ◌≤◌, ◌+◌, ℕ, false, IfErr, IsOkAnd, IsSomeAnd, List, Option, Result, Err}
use Rattle.std.specs.Prelude.{if◌then◌else◌}
use Rattle.quota_types.specs.declared.field.NoRoom.{NoRoom}
use Rattle.quota_types.specs.Rec.{is_null_of}
use Rattle.quota_types.specs.declared.record.Rec.{Rec}
use Rattle.quota_value.specs.QuotaValue.{QuotaValue}
use Rattle.outside.specs.Frame.{OnlyReads}
use Rattle.opened_file.specs.Changes.{EditsValue, FileAt, FileLaws}
use Rattle.opened_file.specs.FileChange.{FileChange, Put, Remove, changed_value}
use Rattle.opened_file.specs.ValueEdits.{ValueEdit}
use Rattle.set_edit.specs.declared.edit_fault.EditFault.{EditFault}
use Rattle.set_edit.specs.EditFault.{IfNoRoom, file_fault}
use Rattle.set_edit.specs.Editing.{Edit}

-- what an edit makes of the value that the file holds
abbrev pub value_edit : Edit → ValueEdit
value_edit edit = record {
  edited = edit.edited;
  change = edit.change;
  is_idle = edit.is_idle;
  needs_room = edit.needs_room;
}

-- There were no more calls of `read` than one look-up makes, and some change after it.
pub record ReadsOnce (look : ℕ) (most : FileChange → ℕ) (before now : ℕ) : Type 0 where
  pub change : FileChange
  pub few : now ≤ before + (look + most change)

-- An edit was refused since the format has no room for a field: the edit of each value that the file holds is refused
-- so; whatever the store tells, the format may have no room for that field; and the edit's identifier is named. The
-- file holds what it held, nothing was written, and it is seen as before.
pub record LacksField (edit : Edit) (old new : FileAt) (out : NoRoom) : Type 0 where
  pub refused : (value : QuotaValue) → old.holds value → edit.edited value ≡ Err (out.field, out.value)
  pub may : edit.may_lack old.seen.format (out.field, out.value)
  pub id : out.id ≡ edit.id
  pub stays : (value : QuotaValue) → old.holds value → new.holds value
  pub unwritten : OnlyReads false old.seen.name old.store new.store
  pub same : new.seen ≡ old.seen

-- An edit of an opened file was made: it edits the value that the file holds, or the format has no room for a field.
pub record Edits {T : Type 0} (edit : Edit) (laws : FileLaws) (old new : FileAt)
    (result : Result T EditFault) : Type 0 where
  pub value : EditsValue file_fault (value_edit edit) laws old new result
  pub no_room : IfErr result (λ fault. IfNoRoom fault (LacksField edit old new))

-- the change that gives an identifier this record, or takes the one that it has away where this one is null
abbrev pub change_to : ℕ → Rec → FileChange
change_to id rec = if is_null_of rec then Remove id else Put id rec

-- the value with this record of the identifier, and with none where this one is null
abbrev pub with_or_without : QuotaValue → ℕ → Rec → QuotaValue
with_or_without value id rec = changed_value (change_to id rec) value

-- a file stands for what an edit makes of each value that was held before
abbrev pub StandsEdited : Edit → (held : QuotaValue → Type 0) → (stands : List ℕ → QuotaValue → Type 0)
    → Option (List ℕ) → Type 0
StandsEdited edit held stands file =
    (value : QuotaValue) → held value → IsSomeAnd file (λ bytes. IsOkAnd (edit.edited value) (stands bytes))
