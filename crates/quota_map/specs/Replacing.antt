-- A whole file of any format that is built and put in the place of another one.
use Rattle.std.specs.Prelude.{◌≡◌, ◌⊎◌, ℕ, ◌*◌, ◌<◌, ◌≤◌, Bool, MatchBool, if◌then◌else◌, IsTrue, List, [], ◌∷◌, length}
use Rattle.std.specs.Prelude.{⊤}
use Rattle.quota_types.specs.Format.{is_flat}
use Rattle.quota_types.specs.declared.file_kind.Format.{Format}
use Rattle.outside.specs.Count.{Rose}
use Rattle.quota_value.specs.QuotaValue.{QuotaValue}
use Rattle.outside.specs.ManyCalls.{replaced_files}
use Rattle.outside.specs.World.{World}
use Rattle.opened_file.specs.declared.replacement.ReplaceFault.{ReplaceFault}
use Rattle.opened_file.specs.declared.replacement.ReplaceFault.TheVariants.{Store, Full, Memory}
use Rattle.quota_types.specs.Bytes.{number_at}
use Rattle.quota_types.specs.declared.record.Grace.{Grace}
use Rattle.tree_build.specs.Build.{HasNoPadding, HasOneRoom}
use Rattle.tree_build.specs.Size.{blocks_needed}
use Rattle.quota_v1.specs.Build.{IsZeroElsewhere, records_needed}
use Rattle.quota_v1.specs.Place.{block_time_start, inode_time_start, record_start, time_width}
use Rattle.quota_map.specs.StandsFor.{StandsFor}

-- how many bytes a file of these identifiers is built of: a flat file of records, a tree file of blocks of 1,024
abbrev pub built_size : Format → List ℕ → ℕ
built_size format ids =
    if is_flat format then record_start format (records_needed ids) else 1024 * blocks_needed format ids

-- the flags that a file of the format is given: a flat file has none, which are read as 0
abbrev pub flags_in : Format → ℕ → ℕ
flags_in format flags = if is_flat format then 0 else flags

-- The two times of record 0 of a flat file are the grace periods as they were given.
pub record HasTimes (format : Format) (grace : Grace) (file : List ℕ) : Type 0 where
  pub block : number_at (time_width format) file (block_time_start format 0) ≡ grace.block
  pub inode : number_at (time_width format) file (inode_time_start format 0) ≡ grace.inode

-- A file of these identifiers has nothing beside what it stands for. Of a flat file each byte of an identifier that is
-- not one of these is 0, but for the grace periods. Of a tree file at most one data block has room, and each byte that
-- no field names is 0.
abbrev pub IsPlain : Format → Grace → List ℕ → List ℕ → Type 0
IsPlain format grace ids file = MatchBool (is_flat format)
    (HasTimes format grace file × IsZeroElsewhere format ids file)
    (HasOneRoom format file (blocks_needed format ids) × HasNoPadding format file (blocks_needed format ids))

-- The named file is a new one of this many bytes, which stands for the value of these entries and has nothing beside
-- it. All other files are as before, but that none is left under the name that the new file was written under.
pub record IsReplacedBy (name : List ℕ) (value : QuotaValue) (ids : List ℕ) (size : ℕ) (old new : World) : Type 0 where
  pub bytes : List ℕ
  pub files : new ≡ replaced_files old name bytes
  pub stands : StandsFor bytes value
  pub plain : IsPlain value.format value.grace ids bytes
  pub long : length bytes ≡ size

-- A file was not replaced since it would need more blocks than it may have, or, where it would not, since the store's
-- count of faults rose, or for lack of memory.
abbrev pub IsReplaceFileFault : (before now needed most : ℕ) → ReplaceFault → Type 0
IsReplaceFileFault before now needed most Store = Rose before now × (needed ≤ most)
IsReplaceFileFault before now needed most (Full blocks limit) = (most < needed) × (blocks ≡ needed) × (limit ≡ most)
IsReplaceFileFault before now needed most Memory = ⊤

-- a fact where there was not enough room or memory
abbrev pub UnlessStore : ReplaceFault → Type 0 → Type 0
UnlessStore Store P = ⊤
UnlessStore (Full _ _) P = P
UnlessStore Memory P = P

-- Along a replacement of a file nothing was committed, or once the files with a new one in its place, of which
-- something holds; where it was done they are the files that are told then.
pub record ReplacesAtOnce (done : Bool) (name : List ℕ) (stands : List ℕ → Type 0) (old new : World)
    (commits : List World → Type 0) : Type 0 where
  pub bytes : List ℕ
  pub stands_so : stands bytes
  pub commits_it : commits (replaced_files old name bytes ∷ [])
  pub told : IsTrue done → new ≡ replaced_files old name bytes

abbrev pub CommitsReplaced : (done : Bool) → (name : List ℕ) → (stands : List ℕ → Type 0) → (old new : World)
    → (commits : List World → Type 0) → Type 0
CommitsReplaced done name stands old new commits = commits [] ⊎ ReplacesAtOnce done name stands old new commits
