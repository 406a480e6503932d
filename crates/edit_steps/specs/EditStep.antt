-- What an edit of an opened file makes of it: its step, by the value and the file as it is, and the causes for which it
-- may be refused. Source: this project's own.
use Rattle.std.specs.Prelude.{◌≡◌, ◌<◌, ℕ, IsTrue, Bool, nat_lt, ◌&&◌, List, Option, Result, Ok, Err}
use Rattle.quota_types.specs.declared.field.Field.{Field}
use Rattle.quota_value.specs.QuotaValue.{QuotaValue}
use Rattle.quota_map.specs.Asked.{Asked}
use Rattle.quota_map.specs.View.{IsOpenedAs, most_blocks, asks_tree}
use Rattle.set_edit.specs.Editing.{Edit}
use Rattle.set_edit.specs.declared.edit_fault.EditFault.{EditFault}
use Rattle.set_edit.specs.declared.edit_fault.EditFault.TheVariants.{File, NoRoom as Unfit}
use Rattle.quota_types.specs.declared.file_kind.Format.{Format}
use Rattle.refusals.specs.declared.cause.Cause.{Cause}
use Rattle.refusals.specs.declared.cause.Cause.TheVariants.{NoRoom, Full}
use Rattle.run_steps.specs.Act.{Act, Way}
use Rattle.run_steps.specs.Opening.{file_cause}
use Rattle.refusals.specs.Outcome.{Outcome, Refused}
use Rattle.refusals.specs.Refusals.{refusal_of}
use Rattle.run_steps.specs.Changing.{written}
use Rattle.quota_map.specs.Size.{blocks_after}

-- There is no room for the value in this file, as it is: with its records it would have more blocks than a file may
-- have.
abbrev pub is_too_large : Edit → Option (List ℕ) → QuotaValue → Bool
is_too_large edit file new = edit.needs_room && nat_lt most_blocks (blocks_after file new)

-- the value of this file was edited, or the format has no room for a field
abbrev pub changed : Way → List ℕ → Edit → Option (List ℕ) → QuotaValue → Result QuotaValue (Field × ℕ)
    → Outcome (List Act)
changed way name edit file value (Ok new) =
    written way name (blocks_after file new) new (edit.is_idle value) (is_too_large edit file new)
changed way name edit file value (Err out) =
    Refused (refusal_of (NoRoom (record { id = edit.id; field = out.0; value = out.1 })) name)

-- the value is edited, in this way, that the file of this name, whose bytes are these, stands for
abbrev pub edit_step : Way → List ℕ → Edit → Option (List ℕ) → QuotaValue → Outcome (List Act)
edit_step way name edit file value = changed way name edit file value (edit.edited value)

-- the value that an edit leaves
abbrev pub value_left : Result QuotaValue (Field × ℕ) → QuotaValue → QuotaValue
value_left (Ok new) old = new
value_left (Err out) old = old

-- what is said where an edit of an opened file was refused
abbrev pub edit_cause : EditFault → Cause
edit_cause (File fault) = file_cause fault
edit_cause (Unfit out) = NoRoom out

-- the causes for which the change of an opened file may be refused, whatever is told: a field of its format for which
-- there may be no room, or blocks, of which a tree file may have at most as many as the program allows
abbrev pub ChangeMayRefuse : Asked → Edit → List ℕ → Cause → List ℕ → Type 0
ChangeMayRefuse asked edit file (NoRoom out) name =
    (name ≡ file) × (out.id ≡ edit.id)
    × ((format : Format) × IsOpenedAs asked format × edit.may_lack format (out.field, out.value))
ChangeMayRefuse asked edit file (Full blocks limit) name =
    IsTrue edit.needs_room × IsTrue (asks_tree asked) × (limit ≡ most_blocks) × (limit < blocks) × (name ≡ file)
ChangeMayRefuse asked edit file _ name = ⊥
