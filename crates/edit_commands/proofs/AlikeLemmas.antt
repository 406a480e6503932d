-- The step of an edit of one value in two files: it is the same, unless one of the files is full.
use Rattle.std.proofs.Common.{◌≡◌, ℕ, Bool, true, false, List, Option, Ok, Err, Result, refl, sym, ap, ◌∙◌}
use Rattle.std.specs.Prelude.{◌&&◌, nat_lt}
use Rattle.quota_types.specs.declared.field.Field.{Field}
use Rattle.quota_value.specs.QuotaValue.{QuotaValue}
use Rattle.quota_map.specs.View.{most_blocks}
use Rattle.set_edit.specs.Editing.{Edit}
use Rattle.run_steps.specs.Act.{Act, InPlace}
use Rattle.run_steps.specs.Changing.{written}
use Rattle.quota_map.specs.Size.{blocks_after}
use Rattle.run_steps.specs.OneCommand.{AreSameSteps}
use Rattle.run_steps.specs.Steps.{Steps, Then}
use Rattle.edit_steps.specs.EditStep.{changed, edit_step, is_too_large}
use Rattle.edit_steps.proofs.AlikeLemmas.{changed_alike, then_alike}

-- the steps that come of an edit in the one and in the other file
pub edit_steps_alike : (name : List ℕ) (edit : Edit) (one other : Option (List ℕ)) (value : QuotaValue)
    (next : List Act → Steps)
    → AreSameSteps true (Then (edit_step InPlace name edit one value) next)
    (Then (edit_step InPlace name edit other value) next)
edit_steps_alike name edit one other value next =
    then_alike (edit_step InPlace name edit one value) (edit_step InPlace name edit other value) next
    (changed_alike InPlace name edit one other value (edit.edited value))

-- An edit that needs no room.

-- for such an edit no file is too small
never_large : (edit : Edit) (file : Option (List ℕ)) (new : QuotaValue) → edit.needs_room ≡ false
    → is_too_large edit file new ≡ false
never_large edit file new none = ap (λ (needs : Bool). needs && nat_lt most_blocks (blocks_after file new)) none

never_written : (name : List ℕ) (blocks more : ℕ) (new : QuotaValue) (idle : Bool)
    → written InPlace name blocks new idle false ≡ written InPlace name more new idle false
never_written name blocks more new true = refl
never_written name blocks more new false = refl

changed_same : (name : List ℕ) (edit : Edit) (one other : Option (List ℕ)) (value : QuotaValue)
    (edited : Result QuotaValue (Field × ℕ)) → edit.needs_room ≡ false
    → changed InPlace name edit one value edited ≡ changed InPlace name edit other value edited
changed_same name edit one other value (Ok new) none =
    ap (λ (large : Bool). written InPlace name (blocks_after one new) new (edit.is_idle value) large)
    (never_large edit one new none)
    ∙ never_written name (blocks_after one new) (blocks_after other new) new (edit.is_idle value)
    ∙ ap (λ (large : Bool). written InPlace name (blocks_after other new) new (edit.is_idle value) large)
    (sym (never_large edit other new none))
changed_same name edit one other value (Err out) none = refl

-- its step is the same in each file
pub step_same : (name : List ℕ) (edit : Edit) (one other : Option (List ℕ)) (value : QuotaValue)
    → edit.needs_room ≡ false → edit_step InPlace name edit one value ≡ edit_step InPlace name edit other value
step_same name edit one other value none = changed_same name edit one other value (edit.edited value) none
