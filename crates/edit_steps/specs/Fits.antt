-- Whether there is room for an edit of a file: that it fits, and what is seen of a file that is too full for it.
-- Source: this project's own.
use Rattle.std.specs.Prelude.{◌≡◌, ◌<◌, ℕ, false, IsTrue, List, Option, Ok}
use Rattle.quota_types.specs.declared.file_kind.Kind.{Kind}
use Rattle.quota_value.specs.QuotaValue.{QuotaValue}
use Rattle.quota_map.specs.Asked.{Asked}
use Rattle.quota_map.specs.View.{IsView, most_blocks}
use Rattle.set_edit.specs.Editing.{Edit}
use Rattle.quota_map.specs.Size.{blocks_after}
use Rattle.edit_steps.specs.EditStep.{is_too_large}

-- an edit of the value of this file fits, and leaves another value: the format has room for its fields, and, where
-- something is to be done, the file has room for it
abbrev pub Fits : Edit → Option (List ℕ) → (value new : QuotaValue) → Type 0
Fits edit file value new =
    (edit.edited value ≡ Ok new) × (edit.is_idle value ≡ false → is_too_large edit file new ≡ false)

-- A file has no room for an edit: whoever opens it as one of the kind and the format that was asked for sees a value,
-- of which the edit makes another one; something is to be done, and the file, as it is, would have `blocks` blocks
-- then, more than it may have.
pub record IsFullFor (kind : Kind) (asked : Asked) (edit : Edit) (file : Option (List ℕ))
    (blocks limit : ℕ) : Type 0 where
  pub value : QuotaValue
  pub new : QuotaValue
  pub seen : IsView file kind asked (Ok value)
  pub edited : edit.edited value ≡ Ok new
  pub wanted : edit.is_idle value ≡ false
  pub changes : IsTrue edit.needs_room
  pub needs : blocks ≡ blocks_after file new
  pub allowed : limit ≡ most_blocks
  pub passes : limit < blocks
