-- What the changes of a flat file make of its bytes.
use Rattle.std.proofs.Common.{◌≡◌, ℕ, ◌%◌, List, length, Some, None, sym, ap, ◌∙◌, arith}
use Rattle.std.specs.Prelude.{false, true, is_none}
use Rattle.std.specs.FinMap.{get}
use Rattle.quota_types.specs.Bytes.{number_at}
use Rattle.quota_types.specs.Range.{grace_unfit}
use Rattle.quota_types.specs.Format.{is_flat, record_size}
use Rattle.quota_types.specs.declared.file_kind.Format.{Format}
use Rattle.quota_types.specs.declared.record.Grace.{Grace}
use Rattle.quota_types.specs.declared.record.Rec.{Rec}
use Rattle.quota_types.specs.Rec.{IsNull}
use Rattle.opened_file.specs.FileChange.{Put, Remove, SetGrace}
use Rattle.quota_value.specs.QuotaValue.{QuotaValue}
use Rattle.quota_v1.specs.Change.{FlatGraced}
use Rattle.quota_v1.specs.FlatCalls.{IsFlatChange}
use Rattle.quota_v1.specs.FlatFile.{FlatStandsFor, flat_record, unless_zeros}
use Rattle.quota_v1.specs.Slot.{PutsRecord}
use Rattle.quota_v1.specs.Place.{block_time_start, inode_time_start, time_width}
use Rattle.quota_v1.proofs.PlaceLemmas.{start_of_next, times_fill, whole_with}
use Rattle.quota_v1.proofs.RecordLemmas.{flat_record-read, stands_graced, stands_put, stands_removed, time_stays}
use Rattle.quota_v1.proofs.RecordLemmas.{unless_zeros-some, within_of_found}

module _ (format : Format) (flat : is_flat format ≡ true) (old new : List ℕ) (id : ℕ) (rec : Rec) (times : Grace)
    (whole : length old % record_size format ≡ 0)
    (block : number_at (time_width format) old (block_time_start format 0) ≡ times.block)
    (inode : number_at (time_width format) old (inode_time_start format 0) ≡ times.inode)
    (puts : PutsRecord format id rec times old new) where
  new_whole : length new % record_size format ≡ 0
  new_whole = whole_with format (length old) (length new) id whole puts.long

  block_stays : number_at (time_width format) new (block_time_start format 0)
      ≡ number_at (time_width format) old (block_time_start format 0)
  block_stays =
      time_stays format old new id (block_time_start format 0) times.block (omega (arith, times_fill format flat))
      puts.others puts.block_time block

  inode_stays : number_at (time_width format) new (inode_time_start format 0)
      ≡ number_at (time_width format) old (inode_time_start format 0)
  inode_stays =
      time_stays format old new id (inode_time_start format 0) times.inode (omega (arith, times_fill format flat))
      puts.others puts.inode_time inode

  -- the bytes with a record that limits or counts something
  pub flat_put : ¬ IsNull rec → IsFlatChange format (Put id rec) old new
  flat_put some = record {
    changed = record {
      long = puts.long;
      others = puts.others;
      block_time = block_stays;
      inode_time = inode_stays;
      written = flat_record-read format new id new_whole ∙ ap unless_zeros puts.written ∙ unless_zeros-some rec some;
    };
    stands = λ value stands. stands_put format flat old new value id rec stands new_whole puts.written puts.others
        block_stays inode_stays some;
  }

  -- the bytes with a record of zeros, within the file
  pub flat_removed : (found : Rec) → Some found ≡ flat_record format old id → unless_zeros rec ≡ None
      → IsFlatChange format (Remove id) old new
  flat_removed found is none = record {
    changed = record {
      long = omega (arith, puts.long, within_of_found format old id found is);
      others = puts.others;
      block_time = block_stays;
      inode_time = inode_stays;
      removed = flat_record-read format new id new_whole ∙ ap unless_zeros puts.written ∙ none;
    };
    stands = λ value stands. stands_removed format flat old new value id rec stands new_whole puts.written puts.others
        block_stays inode_stays none;
  }

-- the bytes with other grace periods
pub flat_graced : (format : Format) → is_flat format ≡ true → (old new : List ℕ) (grace : Grace)
    → length old % record_size format ≡ 0 → FlatGraced format grace old new → grace_unfit format grace ≡ None
    → IsFlatChange format (SetGrace grace) old new
flat_graced format flat old new grace whole graced fits = record {
  changed = graced;
  stands = λ value stands. stands_graced format flat old new value grace stands
      (whole_with format (length old) (length new) 0 whole (omega (arith, graced.long, start_of_next format 0)))
      graced.block_time graced.inode_time graced.others fits;
}

-- a record that was found, or was not, is one of the value
pub value_found : (format : Format) (old : List ℕ) (value : QuotaValue) (id : ℕ) (found : Rec)
    → Some found ≡ flat_record format old id → FlatStandsFor format old value → is_none (get value.records id) ≡ false
value_found format old value id found is stands = ap is_none (stands.records id ∙ sym is)

pub value_absent : (format : Format) (old : List ℕ) (value : QuotaValue) (id : ℕ) → None ≡ flat_record format old id
    → FlatStandsFor format old value → is_none (get value.records id) ≡ true
value_absent format old value id is stands = ap is_none (stands.records id ∙ sym is)
