-- The bytes of records where they stand in a flat file, and how one record is written there.
use Rattle.std.specs.Prelude.{◌≡◌, ◌⊎◌, ℕ, ◌+◌, ◌<◌, ◌≤◌, max, Bool, IsTrue, List, length, None, OnErr, OnOk, Option}
use Rattle.std.specs.Prelude.{Result, Some}
use Rattle.file_blocks.specs.Block.{file_of}
use Rattle.outside.specs.Count.{Rose}
use Rattle.outside.specs.ManyCalls.{IsSynced}
use Rattle.opened_file.specs.EditsOne.{EditsOne}
use Rattle.outside.specs.Seen.{StoreSeen}
use Rattle.outside.specs.World.{KeepsOthers, World, with_file}
use Rattle.quota_types.specs.Bytes.{byte_at, number_at}
use Rattle.quota_types.specs.Format.{record_size}
use Rattle.quota_types.specs.KeptBytes.{KeepsOutside}
use Rattle.quota_types.specs.declared.damage.Damage.{Damage}
use Rattle.quota_types.specs.declared.file_kind.Format.{Format}
use Rattle.quota_types.specs.declared.record.Entry.{Entry}
use Rattle.quota_types.specs.declared.record.Grace.{Grace}
use Rattle.quota_types.specs.declared.record.Rec.{Rec}
use Rattle.opened_file.specs.QuotaFile.{ChangesBlocks}
use Rattle.opened_file.specs.declared.quota_file.FileFault.{FileFault}
use Rattle.opened_file.specs.declared.quota_file.FileFault.TheVariants.{Store, Damage as Damaged, Full, Memory}
use Rattle.quota_v1.specs.FlatFile.{flat_record, timed_record}
use Rattle.quota_v1.specs.Place.{block_time_start, inode_time_start, record_start, time_width}

-- the bytes are those of a file from a place on, of which those past its end count as 0
abbrev pub AreFrom : (file : List ℕ) (at : ℕ) (bytes : List ℕ) → Type 0
AreFrom file at bytes = (k : ℕ) → k < length bytes → byte_at bytes k ≡ byte_at file (at + k)

-- the first identifier from one up to another one that has a record, with it, or none where there is none
abbrev pub IsFirstRecord : Format → List ℕ → (from to : ℕ) → Option Entry → Type 0
IsFirstRecord format file from to None = (id : ℕ) → from ≤ id → id < to → flat_record format file id ≡ None
IsFirstRecord format file from to (Some entry) =
    (from ≤ entry.id)
    × (entry.id < to)
    × (flat_record format file entry.id ≡ Some entry.rec)
    × ((id : ℕ) → from ≤ id → id < entry.id → flat_record format file id ≡ None)

-- The record of an identifier was written where it stands, of which the file has all bytes then. All other bytes stay.
-- The two times of record 0 are the given ones, where that is the record.
pub record PutsRecord (format : Format) (id : ℕ) (rec : Rec) (times : Grace) (before after : List ℕ) : Type 0 where
  pub long : length after ≡ max (length before) (record_start format id + record_size format)
  pub others : KeepsOutside (record_start format id) (record_start format id + record_size format) before after
  pub written : timed_record format after id ≡ rec
  pub block_time : id ≡ 0 → number_at (time_width format) after (block_time_start format 0) ≡ times.block
  pub inode_time : id ≡ 0 → number_at (time_width format) after (inode_time_start format 0) ≡ times.inode

-- The named file has other bytes, which are related so to those before, and no other file has changed. Where it was not
-- there it is made. Of its blocks, of 1,024 bytes each, twelve have changed at most.
pub record MakesOne (so : (before after : List ℕ) → Type 0) (name : List ℕ) (old new : World) : Type 0 where
  pub after : List ℕ
  pub files : new ≡ with_file old name (Some after)
  pub made : so (file_of old name) after
  pub few : ChangesBlocks 12 (file_of old name) after

-- A file was changed by one call of `write`, before which there was one of `read` at most, and then synced. Where the
-- store failed the file is as it was, or has been changed.
pub record ChangesFile {E : Type 0} (tells : Bool) (so : (before after : List ℕ) → Type 0) (name : List ℕ)
    (old new : StoreSeen) (result : Result (Unit {0}) E) : Type 0 where
  pub changed : OnOk result (IsTrue tells → MakesOne so name old.files new.files)
  pub synced : OnOk result (IsTrue tells → IsSynced name old new)
  pub torn : OnErr result (IsTrue tells → (new.files ≡ old.files) ⊎ MakesOne so name old.files new.files)
  pub cause : OnErr result (Rose old.faults new.faults)
  pub others : KeepsOthers name old.files new.files
  pub leaves : EditsOne name old new
  pub reads : new.reads ≤ old.reads + 1
  pub writes : new.writes ≤ old.writes + 1

-- why a record could not be read: the store's count of faults rose, or the file is damaged so
abbrev pub IsRecordFault : (before now : ℕ) → (Damage → Type 0) → FileFault → Type 0
IsRecordFault before now says Store = Rose before now
IsRecordFault before now says (Damaged damage) = says damage
IsRecordFault before now says (Full _ _) = ⊥
IsRecordFault before now says Memory = ⊥
