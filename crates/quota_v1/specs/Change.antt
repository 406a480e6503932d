-- What a change of a flat file makes of it, and why a call on it may be refused.
use Rattle.std.specs.Prelude.{◌≡◌, ◌⊎◌, ℕ, ◌+◌, ◌≤◌, max, IsSomeAnd, List, length, Option, None, Some}
use Rattle.quota_types.specs.declared.record.Grace.{Grace}
use Rattle.quota_types.specs.declared.record.Rec.{Rec}
use Rattle.quota_types.specs.Bytes.{number_at}
use Rattle.quota_types.specs.Format.{record_size}
use Rattle.quota_types.specs.declared.file_kind.Format.{Format}
use Rattle.opened_file.specs.FileChange.{FileChange, Put, Remove, SetGrace}
use Rattle.quota_types.specs.KeptBytes.{KeepsOutside}
use Rattle.outside.specs.World.{KeepsOthers, World}
use Rattle.quota_v1.specs.FlatFile.{flat_record}
use Rattle.quota_v1.specs.Place.{block_time_start, flat_limit, inode_time_start, record_start, time_width}

-- A record was put: the file is lengthened with zeros up to the end of the record, and all bytes outside of the record
-- stay. The two times of record 0, which are the grace periods, stay too.
pub record FlatPut (format : Format) (id : ℕ) (rec : Rec) (before after : List ℕ) : Type 0 where
  pub long : length after ≡ max (length before) (record_start format id + record_size format)
  pub others : KeepsOutside (record_start format id) (record_start format id + record_size format) before after
  pub block_time : number_at (time_width format) after (block_time_start format 0)
      ≡ number_at (time_width format) before (block_time_start format 0)
  pub inode_time : number_at (time_width format) after (inode_time_start format 0)
      ≡ number_at (time_width format) before (inode_time_start format 0)
  pub written : flat_record format after id ≡ Some rec

-- a record was taken away: the file is as long as before, and all bytes outside of the record and the times of record 0
-- stay
pub record FlatRemoved (format : Format) (id : ℕ) (before after : List ℕ) : Type 0 where
  pub long : length after ≡ length before
  pub others : KeepsOutside (record_start format id) (record_start format id + record_size format) before after
  pub block_time : number_at (time_width format) after (block_time_start format 0)
      ≡ number_at (time_width format) before (block_time_start format 0)
  pub inode_time : number_at (time_width format) after (inode_time_start format 0)
      ≡ number_at (time_width format) before (inode_time_start format 0)
  pub removed : flat_record format after id ≡ None

-- the grace periods were set, which are the times of record 0: the file has a record 0 then, and all other bytes stay
pub record FlatGraced (format : Format) (grace : Grace) (before after : List ℕ) : Type 0 where
  pub long : length after ≡ max (length before) (record_start format 1)
  pub others : KeepsOutside (block_time_start format 0) (record_start format 1) before after
  pub block_time : number_at (time_width format) after (block_time_start format 0) ≡ grace.block
  pub inode_time : number_at (time_width format) after (inode_time_start format 0) ≡ grace.inode

-- what a change makes of the bytes of a flat file
abbrev pub FlatChanged : Format → FileChange → List ℕ → List ℕ → Type 0
FlatChanged format (Put id rec) = FlatPut format id rec
FlatChanged format (Remove id) = FlatRemoved format id
FlatChanged format (SetGrace grace) = FlatGraced format grace

-- The named file is there before and after, with bytes that are related so, and no other file has changed.
pub record WritesFlat (so : List ℕ → List ℕ → Type 0) (name : List ℕ) (old new : World) : Type 0 where
  pub named : IsSomeAnd (old name) (λ before. IsSomeAnd (new name) (so before))
  pub others : KeepsOthers name old new

-- a file that is related so to the one before, and has no more bytes than it may have
abbrev pub FitsFlat : Format → (so : List ℕ → List ℕ → Type 0) → List ℕ → List ℕ → Type 0
FitsFlat format so before after = so before after × (length after ≤ flat_limit format)

-- what a change that was not idle makes of the files: it writes one record of the named one where it stands
abbrev pub FlatMakes : Format → FileChange → List ℕ → World → World → Type 0
FlatMakes format change = WritesFlat (FitsFlat format (FlatChanged format change))

-- what a change that failed leaves: the file as it was, or as the change makes it
abbrev pub FlatLeaves : (old after left : Option (List ℕ)) → Type 0
FlatLeaves old after left = (left ≡ old) ⊎ (left ≡ after)
