-- What lines do rests on the file that they edit alone: as they end in one world, they end in any other that has the
-- same file.
use Rattle.std.proofs.Common.{◌≡◌, ℕ, Bool, true, false, List, [], ◌∷◌, Option, None, Ok, Err, Result, refl, sym, ap}
use Rattle.std.proofs.Common.{subst, ◌∙◌}
use Rattle.quota_types.specs.declared.field.Field.{Field}
use Rattle.quota_value.specs.QuotaValue.{QuotaValue}
use Rattle.outside.specs.World.{World, with_file}
use Rattle.outside.proofs.WorldLemmas.{KeepsOthers-with_file, with_file-again, with_file-at, with_file-same}
use Rattle.quota_map.specs.Asked.{InFormat}
use Rattle.quota_map.specs.View.{IsView}
use Rattle.set_edit.specs.Editing.{Edit}
use Rattle.refusals.specs.declared.reason.Refusal.{Refusal}
use Rattle.run_steps.specs.Act.{Act, Behind, Change, Idle, InPlace, Together, Way}
use Rattle.run_steps.specs.Changing.{written}
use Rattle.quota_map.specs.Size.{blocks_after}
use Rattle.run_steps.specs.Done.{Outside}
use Rattle.run_steps.specs.Meaning.{EndsBy}
use Rattle.run_steps.specs.Steps.{Doing, DoingAll, Ending, Steps, Then}
use Rattle.edit_steps.specs.EditStep.{changed, edit_step, is_too_large, value_left}
use Rattle.batch_commands.specs.Batch.{edit_of, met_at, way_behind}
use Rattle.batch_commands.specs.BatchReading.{LineSteps}
use Rattle.batch_commands.specs.declared.batch_line.LineEdit.{LineEdit}

-- what is outside once the file of this name is as it is there
abbrev pub over : Outside → List ℕ → Outside → Outside
over other file new = record other { files = with_file other.files file (new.files file) }

-- as steps end in one world, so they end in any other that has the same file of this name
abbrev pub CarriesOver : List ℕ → Steps → Type 0
CarriesOver file steps =
    (one other new : Outside) (acts : List Act) (refusal : Option Refusal) → other.files file ≡ one.files file
    → EndsBy steps one acts new refusal → EndsBy steps other acts (over other file new) refusal

end_over : (file : List ℕ) (stated : Option Refusal) → CarriesOver file (Ending stated)
end_over file stated one other new acts refusal same is = record {
  acts_none = is.acts_none;
  same = ap (λ (w : World). record other { files = w })
      (with_file-same other.files file (new.files file) (same ∙ sym (ap (λ (o : Outside). o.files file) is.same)));
  ends = is.ends;
}

idle_over : (file : List ℕ) (next : Steps) → CarriesOver file next → CarriesOver file (Doing Idle next)
idle_over file next more one other new acts refusal same by = (
  by.0,
  other.files,
  by.2,
  refl,
  more (record one { files = by.1 }) other new by.0 refusal (same ∙ sym (ap (λ (w : World). w file) by.3)) by.4,
)

change_over : (way : Way) (file : List ℕ) (value : QuotaValue) (next : Steps) → CarriesOver file next
    → CarriesOver file (Doing (Change way file value) next)
change_over way file value next more one other new acts refusal same by =
    let at = with_file-at other.files file (by.1 file) in
    let middle = with_file other.files file (by.1 file) in
    let rest = more (record one { files = by.1 }) (record other { files = middle }) new by.0 refusal at by.4 in (
      by.0,
      middle,
      by.2,
      (
        subst (λ (b : Option (List ℕ)). IsView b value.kind (InFormat value.format) (Ok value)) (sym at) by.3.0,
        KeepsOthers-with_file other.files file (by.1 file),
      ),
      subst (λ (w : World). EndsBy next (record other { files = middle }) by.0 (record other { files = w }) refusal)
          (with_file-again other.files file (by.1 file) (new.files file)) rest,
    )

written_over : (way : Way) (file : List ℕ) (number blocks : ℕ) (new : QuotaValue) (idle large : Bool) (next : Steps)
    → CarriesOver file next
    → CarriesOver file
    (Then (met_at number (written way file blocks new idle large)) (λ (acts : List Act). DoingAll acts next))
written_over InPlace file number blocks new true large next more = more
written_over (Together others) file number blocks new true large next more = idle_over file next more
written_over Behind file number blocks new true large next more = idle_over file next more
written_over way file number blocks new false true next more = end_over file _
written_over way file number blocks new false false next more = change_over way file new next more

changed_over : (way : Way) (file : List ℕ) (number : ℕ) (edit : Edit) (bytes : Option (List ℕ)) (value : QuotaValue)
    (edited : Result QuotaValue (Field × ℕ)) (next : Steps) → CarriesOver file next
    → CarriesOver file
    (Then (met_at number (changed way file edit bytes value edited)) (λ (acts : List Act). DoingAll acts next))
changed_over way file number edit bytes value (Ok new) next more =
    written_over way file number (blocks_after bytes new) new (edit.is_idle value)
    (is_too_large edit bytes new) next more
changed_over way file number edit bytes value (Err out) next more = end_over file _

-- lines do so
pub lines_over : (way : Way) (file : List ℕ) (now : ℕ) (lines : List LineEdit) (value : QuotaValue)
    → CarriesOver file (LineSteps way file now lines value)
lines_over way file now [] value = end_over file None
lines_over way file now (line ∷ lines) value = λ one other new acts refusal same by.
    let edit = edit_of line now in
    let after = way_behind way (edit.is_idle value) in
    let next = LineSteps after file now lines (value_left (edit.edited value) value) in
    subst (λ (b : Option (List ℕ)). EndsBy
    (Then (met_at line.number (edit_step way file edit b value)) (λ (done : List Act). DoingAll done next)) other acts
    (over other file new) refusal) (sym same)
    (changed_over way file line.number edit (one.files file) value (edit.edited value) next
    (lines_over after file now lines (value_left (edit.edited value) value)) one other new acts refusal same by)
