-- That no file but the named one changes, and by how few calls of `write`.
use Rattle.std.proofs.Common.{◌≡◌, ℕ, Bool, List, Result, refl, ap, arith}
use Rattle.outside.specs.Frame.{OnlyReads}
use Rattle.opened_file.specs.FileSeen.{FileSeen}
use Rattle.outside.specs.Seen.{StoreSeen}
use Rattle.outside.specs.World.{KeepsOthers}
use Rattle.outside.proofs.FrameLemmas.{keeps_others-then}
use Rattle.quota_types.specs.declared.file_kind.Format.{Format}
use Rattle.quota_map.specs.AnyFile.{any_seen}
use Rattle.quota_map.specs.View.{fresh_seen}
use Rattle.quota_map.specs.declared.any_file.AnyFile.{AnyFile}
use Rattle.set_edit.specs.Editing.{Edit}
use Rattle.set_edit.specs.declared.edit_fault.EditFault.{EditFault}
use Rattle.run_steps.specs.Carrying.{EditsAlone}
use Rattle.edit_steps.proofs.EditFileLemmas.{AnyEdits, few_writes}
use Rattle.edit_steps.proofs.AloneLemmas.{others-read}

pub others-after : {done : Bool} (file name : List ℕ) (old between new : StoreSeen) → OnlyReads done name old between
    → KeepsOthers file between.files new.files → KeepsOthers file old.files new.files
others-after file name old between new read others =
    keeps_others-then file old.files between.files new.files (others-read file name old between read) others

pub edits_alone-none : (file : List ℕ) (seen : StoreSeen) → EditsAlone file seen seen
edits_alone-none file seen = record { others = λ other differ. refl; writes = omega arith }

pub edits_alone-read : {done : Bool} (file name : List ℕ) (old new : StoreSeen) → OnlyReads done name old new
    → EditsAlone file old new
edits_alone-read file name old new read =
    record { others = others-read file name old new read; writes = omega (arith, read.writes) }

-- an edit after calls that only read
pub edits_alone-after : {done : Bool} (file name : List ℕ) (old between new : StoreSeen)
    → OnlyReads done name old between → EditsAlone file between new → EditsAlone file old new
edits_alone-after file name old between new read alone = record {
  others = others-after file name old between new read alone.others;
  writes = omega (arith, read.writes, alone.writes);
}

-- an edit of a file that was just opened
pub edits_alone-edits : {T : Type 0} (file : List ℕ) (tells : Bool) (edit : Edit) (opened after : AnyFile)
    (old new : StoreSeen) (format : Format) (result : Result T EditFault) → any_seen opened ≡ fresh_seen file format
    → AnyEdits edit tells opened after old new result → EditsAlone file old new
edits_alone-edits file tells edit opened after old new format result was edits =
    let named : (any_seen opened).name ≡ file = ap (λ (s : FileSeen). s.name) was in
    record {
      others = (rw named at edits.value.leaves).files;
      writes = few_writes tells edit opened after old new result edits;
    }
