-- Files that are recovered, and those of which a recovery makes the same.
use Rattle.std.specs.Prelude.{◌≡◌, ℕ, List, ◌≢◌, ◌≤◌, [], length, Option, unwrap_or}
use Rattle.quota_types.specs.Bytes.{byte_at}
use Rattle.outside.specs.World.{World}
use Rattle.disk.specs.DiskSeen.{DiskSeen, EachImage}
use Rattle.edit_journal.specs.Undo.{recovered}

-- the bytes of a file of a disk as they are read, and none where there is no file
abbrev pub bytes_of : DiskSeen → List ℕ → List ℕ
bytes_of disk name = unwrap_or (disk.files name) []

-- a recovery of these files makes what one of some image of a disk makes
abbrev pub RecoversAsBefore : (name undo : List ℕ) → DiskSeen → World → Type 0
RecoversAsBefore name undo disk image =
    (before : World) × disk.images before
    × (recovered (image name) (image undo) ≡ recovered (before name) (before undo))

-- what each name but these three has is as before
abbrev pub KeepsOtherThree : {T : Type 0} → (one two three : List ℕ) → (List ℕ → T) → (List ℕ → T) → Type 0
KeepsOtherThree one two three old new =
    (other : List ℕ) → other ≢ one → other ≢ two → other ≢ three → new other ≡ old other

-- A recovery of the new files makes of one what a recovery of the old files makes of it, and all other files but its
-- undo file, under both its names, stay.
abbrev pub RecoversSame : (name undo und : List ℕ) → World → World → Type 0
RecoversSame name undo und old new =
    (recovered (new name) (new undo) ≡ recovered (old name) (old undo)) × KeepsOtherThree name undo und old new

-- A file is recovered: each image has it so, or none of them has one, and an undo file whose gate is closed, or none;
-- and each of them has room for the head of an undo file if the one that is read has.
pub record IsRecovered (name undo : List ℕ) (file : Option (List ℕ)) (disk : DiskSeen) : Type 0 where
  pub whole : EachImage (λ image. image name ≡ file) disk
  pub closed : EachImage (λ image. byte_at (unwrap_or (image undo) []) 0 ≢ 1) disk
  pub room : 1024 ≤ length (unwrap_or (disk.files undo) [])
      → EachImage (λ image. 1024 ≤ length (unwrap_or (image undo) [])) disk
