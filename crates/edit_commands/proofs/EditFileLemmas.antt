-- From an edit that words or a form ask for to what a command says of the file: its format, how it is left, and the
-- times that are skipped.
use Rattle.std.proofs.Common.{◌⊎◌, inl, inr, ◌≡◌, ◌≢◌, ℕ, Bool, true, false, IsTrue, List, Ok, Err, Result}
use Rattle.std.proofs.Common.{if◌then◌else◌, refl, sym}
use Rattle.std.specs.Prelude.{IsOk}
use Rattle.std.proofs.lemmas.Bool.{false≢true}
use Rattle.quota_types.specs.Kept.{kept_of}
use Rattle.quota_types.specs.Rec.{is_null_of}
use Rattle.quota_types.specs.declared.field.Field.{Field}
use Rattle.quota_types.specs.declared.file_kind.Format.{Format}
use Rattle.quota_types.specs.declared.record.Rec.{Rec}
use Rattle.quota_value.specs.QuotaValue.{QuotaValue}
use Rattle.outside.specs.Seen.{StoreSeen}
use Rattle.opened_file.specs.declared.quota_file.FileFault.TheVariants.{Store, Damage, Full, Memory}
use Rattle.quota_map.specs.Asked.{Asked}
use Rattle.quota_map.specs.AnyFile.{HoldsAny, any_seen}
use Rattle.quota_map.specs.declared.any_file.AnyFile.{AnyFile}
use Rattle.quota_map.specs.View.{fresh_seen}
use Rattle.set_edit.specs.Edited.{with_kept}
use Rattle.set_edit.specs.Editing.{Edit}
use Rattle.set_edit.specs.Times.{skips_both_of, wanted_times}
use Rattle.set_edit.specs.declared.edit_fault.EditFault.{EditFault}
use Rattle.set_edit.specs.declared.edit_fault.EditFault.TheVariants.{File, NoRoom as Unfit}
use Rattle.edit_commands.specs.declared.edit.FileEdit.{FileEdit}
use Rattle.edit_commands.specs.declared.edit.FileEdit.TheVariants.{Limits, Copy, Grace as Periods, Times}
use Rattle.set_edit.specs.declared.skipped.Skipped.{Skipped}
use Rattle.refusals.specs.declared.cause.Cause.{Cause}
use Rattle.run_steps.specs.Opening.{MayRefuseOpening}
use Rattle.edit_steps.specs.EditStep.{ChangeMayRefuse, edit_cause}
use Rattle.edit_commands.specs.Edits.{FileEditMayRefuse}
use Rattle.edit_commands.specs.EditsInPart.{IsLeftFor, unskipped, MaySkip}
use Rattle.edit_commands.specs.EditWords.{edit_meant, edit_warns, skips_none}
use Rattle.edit_steps.proofs.LimitsLemmas.{fits_field, kept_field}
use Rattle.edit_steps.proofs.EditFileLemmas.{KeepsFormat, AnyEdits, while_usable, read_named, any_left}
use Rattle.edit_steps.proofs.EditFileLemmas.{limits_keep_format}

-- An edit keeps the format.

skipped_format : (value : QuotaValue) (id : ℕ) (rec : Rec) (skips : Bool)
    → (if skips then value else with_kept value id rec).format ≡ value.format
skipped_format value id rec true = refl
skipped_format value id rec false =
    kept_field (λ (v : QuotaValue). v.format) (λ v r. refl) value id (kept_of value.format id rec)
    (is_null_of rec)

pub keeps_format : (edit : FileEdit) (now : ℕ) → KeepsFormat (edit_meant edit now)
keeps_format (Limits id limits) now = limits_keep_format id limits now
keeps_format (Copy from to) now = λ value new is.
    fits_field (λ (v : QuotaValue). v.format) value _ new _
    (kept_field (λ (v : QuotaValue). v.format) (λ v r. refl) value to _ _) is
keeps_format (Periods grace) now = λ value new is. fits_field (λ (v : QuotaValue). v.format) value _ new _ refl is
keeps_format (Times id block inode) now = λ value new is.
    fits_field (λ (v : QuotaValue). v.format) value _ new _
    (skipped_format value id (wanted_times value id block inode now) (skips_both_of value id)) is

-- Refused edits.

-- a value that an edit makes, where it makes one
value_made : (edited : Result QuotaValue (Field × ℕ)) → IsOk edited → (new : QuotaValue) × (edited ≡ Ok new)
value_made (Ok new) some = (new, refl)
value_made (Err out) some = absurd (false≢true some)

-- where an edit was refused, the named file is left so for its cause
pub any_left_for : {T : Type 0} (name : List ℕ) (edit : Edit) (tells : Bool) (opened file : AnyFile)
    (before after : StoreSeen) (format : Format) (value : QuotaValue) (fault : EditFault)
    → KeepsFormat edit → any_seen opened ≡ fresh_seen name format → HoldsAny tells before.files opened value
    → AnyEdits {T = T} edit tells opened file before after (Err fault)
    → IsLeftFor (edit_cause fault) (before.files name) (after.files name)
any_left_for {T} name edit tells opened file before after format value (File Store) keeps was held edits =
    let refused = edits.value.refused in
    elim (while_usable (any_seen file).usable _ _ refused.unwritten
    (λ ended. value_made (edit.edited value) (refused.fits ended value held))) [
      | inl read ↦ inl (read_named name (any_seen opened).name before after read)
      | inr made ↦ inr (
        refl,
        (
          made.0,
          any_left {T = T} name edit tells opened file before after format value made.0 Store keeps was
              held made.1 edits,
        ),
      )
    ]
any_left_for name edit tells opened file before after format value (File (Damage damage)) keeps was held edits =
    inl (read_named name (any_seen opened).name before after
    (edits.value.refused.unwritten (edits.value.refused.usable refl)))
any_left_for name edit tells opened file before after format value (File (Full blocks limit)) keeps was held edits =
    inl (read_named name (any_seen opened).name before after
    (edits.value.refused.unwritten (edits.value.refused.usable refl)))
any_left_for name edit tells opened file before after format value (File Memory) keeps was held edits =
    inl (read_named name (any_seen opened).name before after
    (edits.value.refused.unwritten (edits.value.refused.usable refl)))
any_left_for name edit tells opened file before after format value (Unfit out) keeps was held edits =
    inl (read_named name (any_seen opened).name before after edits.no_room.unwritten)

-- an edit that skips no time says the same of its answer
pub edits_unskipped : (edit : Edit) (tells : Bool) (opened file : AnyFile) (before after : StoreSeen)
    (done : Result (Unit {0}) EditFault) → AnyEdits edit tells opened file before after done
    → AnyEdits edit tells opened file before after (unskipped done)
edits_unskipped edit tells opened file before after (Ok done) edits =
    let value = edits.value in
    record {
      value = record {
        done = value.done;
        refused = tt;
        idle = value.idle;
        full = value.full;
        leaves = value.leaves;
        writes = value.writes;
      };
      no_room = tt;
    }
edits_unskipped edit tells opened file before after (Err fault) edits =
    let value = edits.value in
    record {
      value = record {
        done = tt;
        refused = value.refused;
        idle = value.idle;
        full = value.full;
        leaves = value.leaves;
        writes = value.writes;
      };
      no_room = edits.no_room;
    }

-- Times that are skipped.

-- an edit that does not warn skips no time
pub skips_quiet : (edit : FileEdit) (skipped : Skipped) → MaySkip edit skipped → edit_warns edit ≡ false
    → skipped ≡ skips_none
skips_quiet (Times id block inode) skipped may quiet = absurd (false≢true (sym quiet))
skips_quiet _ skipped may quiet = may

-- an edit that skips a time warns
pub skips_warn : (edit : FileEdit) (skipped : Skipped) → MaySkip edit skipped → skipped ≢ skips_none
    → IsTrue (edit_warns edit)
skips_warn (Times id block inode) skipped may some = refl
skips_warn _ skipped may some = absurd (some may)

-- for what the edit of a file may be refused, by the edit at a moment
pub file_edit_may : (asked : Asked) (edit : FileEdit) (file : List ℕ) (now : ℕ) (cause : Cause) (said : List ℕ)
    → ChangeMayRefuse asked (edit_meant edit now) file cause said ⊎ MayRefuseOpening asked file cause said
    → FileEditMayRefuse asked edit file cause said
file_edit_may asked edit file now cause said (inl may) = inl (now, may)
file_edit_may asked edit file now cause said (inr may) = inr (inl may)
