-- From an edit of an opened file that was made to its acts.
use Rattle.std.proofs.Common.{◌≡◌, ℕ, ◌+◌, ◌≤◌, Bool, true, false, IsTrue, List, [], ◌∷◌, Option, Ok, Err, Result}
use Rattle.std.proofs.Common.{if◌then◌else◌, refl, ap, ◌∙◌}
use Rattle.std.specs.Prelude.{IsOkAnd}
use Rattle.quota_types.specs.declared.field.Field.{Field}
use Rattle.opened_file.specs.EditsOne.{EditsOne}
use Rattle.outside.specs.Frame.{OnlyReads}
use Rattle.quota_value.specs.QuotaValue.{QuotaValue}
use Rattle.outside.specs.Seen.{StoreSeen}
use Rattle.quota_map.specs.Asked.{InFormat}
use Rattle.quota_map.specs.View.{IsView}
use Rattle.set_edit.specs.Editing.{Edit}
use Rattle.refusals.specs.Outcome.{Passed}
use Rattle.run_steps.specs.Act.{Act, Behind, Change, Idle, InPlace, Together, Way}
use Rattle.run_steps.specs.Changing.{idle_acts, written}
use Rattle.quota_map.specs.Size.{blocks_after}
use Rattle.edit_steps.specs.EditStep.{value_left, changed, edit_step, is_too_large}
use Rattle.run_steps.proofs.DoingLemmas.{AreWritten, written_none}
use Rattle.run_steps.proofs.WritesLemmas.{writes_for-edit, writes_for-same}
use Rattle.edit_steps.specs.Fits.{Fits}

-- the acts of an edit: the change, unless nothing is to be done
abbrev pub change_acts : Way → List ℕ → QuotaValue → Bool → List Act
change_acts way name new idle = if idle then idle_acts way else Change way name new ∷ []

-- an edited value is seen of the file, in which, as it was, there was room for it where something was to be done
abbrev pub EditedSeen : List ℕ → Option (List ℕ) → StoreSeen → Edit → QuotaValue
    → Result QuotaValue (Field × ℕ) → Type 0
EditedSeen name file store edit value edited =
    IsOkAnd edited (λ (new : QuotaValue). IsView (store.files name) new.kind (InFormat new.format) (Ok new)
    × (edit.is_idle value ≡ false → is_too_large edit file new ≡ false))

-- What an edit of a value leaves that was made: where this much is told nothing is written where nothing is to be done,
-- and the file is seen as the edited value; and all other files stay, with twelve calls of `write` at most.
pub record IsMade (name : List ℕ) (edit : Edit) (value : QuotaValue) (told : Type 0)
    (old new : StoreSeen) : Type 0 where
  pub idle : told → IsTrue (edit.is_idle value) → OnlyReads true name old new
  pub set : told → EditedSeen name (old.files name) new edit value (edit.edited value)
  pub leaves : EditsOne name old new
  pub few : new.writes ≤ old.writes + 12

-- where there is room, a change passes with its acts
pub written_passes : (way : Way) (name : List ℕ) (blocks : ℕ) (new : QuotaValue) (idle large : Bool)
    → (idle ≡ false → large ≡ false) → written way name blocks new idle large ≡ Passed (change_acts way name new idle)
written_passes way name blocks new true large room = refl
written_passes way name blocks new false true room = let no = room refl in absurd (cc)
written_passes way name blocks new false false room = refl

-- the step of an edit that was made passes with its acts
step_passes : (way : Way) (name : List ℕ) (edit : Edit) (file : Option (List ℕ)) (value : QuotaValue)
    (edited : Result QuotaValue (Field × ℕ)) (store : StoreSeen) → EditedSeen name file store edit value edited
    → changed way name edit file value edited
    ≡ Passed (change_acts way name (value_left edited value) (edit.is_idle value))
step_passes way name edit file value (Ok new) store seen =
    written_passes way name (blocks_after file new) new (edit.is_idle value) (is_too_large edit file new) seen.1
step_passes way name edit file value (Err out) store seen = absurd seen

-- an edit that has nothing to do, together with others
idle_written : {done : Bool} (name : List ℕ) (old store : StoreSeen) → OnlyReads done name old store
    → AreWritten (Idle ∷ []) old store
idle_written name old store reads = record {
  files = (old.files, refl, reads.files);
  writes = writes_for-same (Idle ∷ []) old.writes store.writes reads.writes;
  out = refl;
  err = refl;
  answered = refl;
  started = λ before. refl;
}

change_written : {done : Bool} (way : Way) (name : List ℕ) (new : QuotaValue) (idle : Bool) (old store : StoreSeen)
    → (IsTrue idle → OnlyReads done name old store)
    → IsView (store.files name) new.kind (InFormat new.format) (Ok new) → EditsOne name old store
    → store.writes ≤ old.writes + 12 → AreWritten (change_acts way name new idle) old store
change_written InPlace name new true old store same view leaves few = written_none name old store (same refl)
change_written (Together others) name new true old store same view leaves few = idle_written name old store (same refl)
change_written Behind name new true old store same view leaves few = idle_written name old store (same refl)
change_written way name new false old store same view leaves few = record {
  files = (store.files, (view, leaves.files), refl);
  writes = writes_for-edit way name new old.writes store.writes few;
  out = refl;
  err = refl;
  answered = refl;
  started = λ before. refl;
}

edited_written : {done : Bool} (way : Way) (name : List ℕ) (edit : Edit) (value : QuotaValue)
    (edited : Result QuotaValue (Field × ℕ)) (old store : StoreSeen)
    → (IsTrue (edit.is_idle value) → OnlyReads done name old store)
    → EditedSeen name (old.files name) store edit value edited → EditsOne name old store
    → store.writes ≤ old.writes + 12
    → AreWritten (change_acts way name (value_left edited value) (edit.is_idle value)) old store
edited_written way name edit value (Ok new) old store same seen leaves few =
    change_written way name new (edit.is_idle value) old store same seen.0 leaves few
edited_written way name edit value (Err out) old store same seen leaves few = absurd seen

-- the acts of an edit of a value
abbrev pub acts_of : Way → List ℕ → Edit → QuotaValue → List Act
acts_of way name edit value = change_acts way name (value_left (edit.edited value) value) (edit.is_idle value)

pub step_made : (way : Way) (name : List ℕ) (edit : Edit) (value : QuotaValue) (told : Type 0) (old store : StoreSeen)
    → IsMade name edit value told old store → told
    → edit_step way name edit (old.files name) value ≡ Passed (acts_of way name edit value)
step_made way name edit value told old store made is =
    step_passes way name edit (old.files name) value (edit.edited value) store (made.set is)

-- its acts were done
pub acts_written : (way : Way) (name : List ℕ) (edit : Edit) (value : QuotaValue) (told : Type 0)
    (old store : StoreSeen) → IsMade name edit value told old store → told
    → AreWritten (acts_of way name edit value) old store
acts_written way name edit value told old store made is =
    edited_written way name edit value (edit.edited value) old store (made.idle is) (made.set is) made.leaves made.few

-- the step of an edit that fits passes
pub step_fits : (way : Way) (name : List ℕ) (edit : Edit) (file : Option (List ℕ)) (value new : QuotaValue)
    → Fits edit file value new
    → edit_step way name edit file value ≡ Passed (change_acts way name new (edit.is_idle value))
step_fits way name edit file value new fits =
    ap (λ (r : Result QuotaValue (Field × ℕ)). changed way name edit file value r) fits.0
    ∙ written_passes way name (blocks_after file new) new (edit.is_idle value) (is_too_large edit file new) fits.1
