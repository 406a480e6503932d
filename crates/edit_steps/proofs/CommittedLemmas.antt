-- What an edit of a file that was just opened has made of the files, where the file stands for the edited value then:
-- nothing, or its step.
use Rattle.std.proofs.Common.{◌⊎◌, inl, inr, ◌≡◌, ℕ, Bool, true, false, IsTrue, List, [], ◌∷◌, Option, Ok, Err, Result}
use Rattle.std.proofs.Common.{refl, ap, subst, ◌∙◌}
use Rattle.std.specs.Prelude.{IsOkAnd, IsSomeAnd}
use Rattle.quota_types.specs.declared.field.Field.{Field}
use Rattle.quota_types.specs.declared.file_kind.Format.{Format}
use Rattle.outside.specs.Seen.{StoreSeen}
use Rattle.outside.specs.World.{KeepsOthers, World}
use Rattle.opened_file.specs.FileSeen.{FileSeen}
use Rattle.quota_value.specs.QuotaValue.{QuotaValue}
use Rattle.quota_map.specs.Asked.{InFormat}
use Rattle.quota_map.specs.AnyFile.{HoldsAny, any_seen}
use Rattle.quota_map.specs.Size.{blocks_after}
use Rattle.quota_map.specs.StandsFor.{StandsForAs}
use Rattle.quota_map.specs.View.{IsView, fresh_seen}
use Rattle.quota_map.specs.declared.any_file.AnyFile.{AnyFile}
use Rattle.quota_map.proofs.LeftLemmas.{held_format, left_stands}
use Rattle.quota_map.proofs.SeenLemmas.{any_held_seen}
use Rattle.set_edit.specs.EditCalls.{StandsEdited}
use Rattle.set_edit.specs.Editing.{Edit}
use Rattle.set_edit.specs.declared.edit_fault.EditFault.{EditFault}
use Rattle.refusals.specs.Outcome.{Passed}
use Rattle.run_steps.specs.Act.{Change, FollowsAct, Way}
use Rattle.run_steps.specs.Changing.{written}
use Rattle.edit_steps.specs.EditStep.{changed, edit_step, is_too_large}
use Rattle.edit_steps.proofs.EditFileLemmas.{AnyEdits, KeepsFormat, any_made, any_refused}
use Rattle.edit_steps.proofs.EditLemmas.{EditedSeen}

-- A change that is made where something is to be done and there is room for it was made, or else the files are as they
-- were.
written_or_same : (way : Way) (name : List ℕ) (blocks : ℕ) (one : QuotaValue) (idle large : Bool) (old new : World)
    → (IsTrue idle → new ≡ old) → (idle ≡ false → IsTrue large → new ≡ old)
    → FollowsAct (Change way name one) old new
    → (new ≡ old) ⊎ ((edited : QuotaValue)
    × (written way name blocks one idle large ≡ Passed (Change way name edited ∷ []))
    × FollowsAct (Change way name edited) old new)
written_or_same way name blocks one true large old new same full follows = inl (same refl)
written_or_same way name blocks one false true old new same full follows = inl (full refl refl)
written_or_same way name blocks one false false old new same full follows = inr (one, refl, follows)

-- the files are as they were, or a step of the edit of this value made the named one stand for another value
abbrev pub IsStepped : Way → List ℕ → Edit → QuotaValue → World → World → Type 0
IsStepped way name edit value old new =
    (new ≡ old) ⊎ ((edited : QuotaValue)
    × (edit_step way name edit (old name) value ≡ Passed (Change way name edited ∷ []))
    × FollowsAct (Change way name edited) old new)

-- An edit that has nothing to do, or for which there is no room, has left the files as they were, and else the edited
-- value is seen of the named one. All others are as they were.
record IsSeenOrSame (name : List ℕ) (edit : Edit) (value : QuotaValue) (edited : Result QuotaValue (Field × ℕ))
    (old new : World) : Type 0 where
  pub idle : IsTrue (edit.is_idle value) → new ≡ old
  pub full : (one : QuotaValue) → edited ≡ Ok one → edit.is_idle value ≡ false
      → IsTrue (is_too_large edit (old name) one) → new ≡ old
  pub unfit : (out : Field × ℕ) → edited ≡ Err out → new ≡ old
  pub seen : (one : QuotaValue) → edited ≡ Ok one → IsView (new name) one.kind (InFormat one.format) (Ok one)
  pub others : KeepsOthers name old new

-- it has made its step, or nothing
stepped : (way : Way) (name : List ℕ) (edit : Edit) (value : QuotaValue) (edited : Result QuotaValue (Field × ℕ))
    (old new : World) → IsSeenOrSame name edit value edited old new
    → (new ≡ old) ⊎ ((one : QuotaValue)
    × (changed way name edit (old name) value edited ≡ Passed (Change way name one ∷ []))
    × FollowsAct (Change way name one) old new)
stepped way name edit value (Ok one) old new is =
    written_or_same way name (blocks_after (old name) one) one (edit.is_idle value) (is_too_large edit (old name) one)
    old new is.idle (is.full one refl) (is.seen one refl, is.others)
stepped way name edit value (Err out) old new is = inl (is.unfit out refl)

-- a file that stands for what an edit makes of a value stands for the value that it makes
stands_one : (file : Option (List ℕ)) (format : Format) (edited : Result QuotaValue (Field × ℕ)) (one : QuotaValue)
    → edited ≡ Ok one
    → IsSomeAnd file (λ bytes. IsOkAnd edited (StandsForAs format bytes))
    → IsSomeAnd file (λ bytes. StandsForAs format bytes one)
stands_one file format edited one set stands =
    subst
    (λ (r : Result QuotaValue (Field × ℕ)). IsSomeAnd file (λ bytes. IsOkAnd r (StandsForAs format bytes))) set stands

-- An edit of a file that was just opened.

-- one that was made
pub made_stepped : {T : Type 0} (way : Way) (name : List ℕ) (edit : Edit) (tells : Bool) (opened file : AnyFile)
    (before after : StoreSeen) (format : Format) (value : QuotaValue) (told : T)
    → KeepsFormat edit → any_seen opened ≡ fresh_seen name format → IsTrue tells
    → HoldsAny tells before.files opened value → AnyEdits edit tells opened file before after (Ok told)
    → IsStepped way name edit value before.files after.files
made_stepped way name edit tells opened file before after format value told keeps was is held edits =
    let made = any_made tells edit opened file before after name format value told keeps was (λ _. held) edits in
    let seen = λ (edited : Result QuotaValue (Field × ℕ)) (set : edit.edited value ≡ edited).
    subst (λ (r : Result QuotaValue (Field × ℕ)). EditedSeen name (before.files name) after edit value r) set
    (made.set is) in
    stepped way name edit value (edit.edited value) before.files after.files
    (record {
      idle = λ idle. (made.idle is idle).files;
      full = λ one set some large. let room = (seen (Ok one) set).1 some in absurd (cc);
      unfit = λ out set. absurd (seen (Err out) set);
      seen = λ one set. (seen (Ok one) set).0;
      others = made.leaves.files;
    })

-- one that was refused, where the file stands for what the edit makes of its value
pub refused_stepped : {T : Type 0} (way : Way) (name : List ℕ) (edit : Edit) (tells : Bool) (opened file : AnyFile)
    (before after : StoreSeen) (format : Format) (value : QuotaValue)
    (fault : EditFault) → KeepsFormat edit → any_seen opened ≡ fresh_seen name format → IsTrue tells
    → HoldsAny tells before.files opened value
    → AnyEdits {T = T} edit tells opened file before after (Err fault)
    → StandsEdited edit (HoldsAny tells before.files opened) (StandsForAs (any_seen opened).format)
    (after.files (any_seen opened).name)
    → IsStepped way name edit value before.files after.files
refused_stepped {T} way name edit tells opened file before after format value fault keeps was is held edits stands =
    let refused =
    any_refused {T = T} name edit tells opened file before after format value fault keeps was (λ _. held) edits in
    let formats : value.format ≡ format =
    held_format tells before.files opened value held ∙ ap (λ (s : FileSeen). s.format) was in
    let view : IsView (before.files name) value.kind (InFormat format) (Ok value) =
    subst (λ (f : Format). IsView (before.files name) value.kind (InFormat f) (Ok value)) formats
    (any_held_seen tells before.files opened value name format was held) in
    let whole : IsSomeAnd (after.files name) (λ bytes. IsOkAnd (edit.edited value) (StandsForAs format bytes)) =
    subst (λ (s : FileSeen). IsSomeAnd (after.files s.name)
    (λ bytes. IsOkAnd (edit.edited value) (StandsForAs s.format bytes))) was (stands value held) in
    stepped way name edit value (edit.edited value) before.files after.files
    (record {
      idle = λ idle. (refused.idle is idle).files;
      full = λ one set some large. (refused.full is one set large).files;
      unfit = λ out set. (refused.unfit is out set).files;
      seen = λ one set.
          left_stands format (before.files name) (after.files name) value one (keeps value one set ∙ formats) view
          (refused.named is one set)
          (stands_one (after.files name) format (edit.edited value) one set whole);
      others = refused.leaves.files;
    })
