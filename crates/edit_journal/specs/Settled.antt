-- What a change in place leaves of a file and its undo file.
use Rattle.std.specs.Prelude.{◌≡◌, ◌<◌, ◌⊎◌, ℕ, List, Some, replicate}
use Rattle.outside.specs.World.{KeepsOtherTwo, World}
use Rattle.disk.specs.DiskSeen.{DiskSeen, EachImage}
use Rattle.disk.specs.DiskCalls.{ChangesFile, Torn}
use Rattle.edit_journal.specs.ByteRanges.{ByteRange}
use Rattle.edit_journal.specs.UndoSaves.{IsOutsideAll, IsClosed}
use Rattle.edit_journal.specs.Undo.{recovered}
use Rattle.edit_journal.specs.Recovered.{IsRecovered}

-- A file is settled: each image has it so, and an undo file whose gate is closed.
pub record IsSettled (name undo file : List ℕ) (disk : DiskSeen) : Type 0 where
  pub whole : EachImage (λ image. image name ≡ Some file) disk
  pub closed : EachImage (λ image. IsClosed (image undo)) disk

-- a commit can start: this file is there, and is recovered
abbrev pub CanCommit : (name undo file : List ℕ) → DiskSeen → Type 0
CanCommit name undo file = IsRecovered name undo (Some file)

-- a recovery of these files makes this file of that name
abbrev pub RecoversTo : (name undo : List ℕ) → List ℕ → World → Type 0
RecoversTo name undo file image = recovered (image name) (image undo) ≡ Some file

-- a recovery of these files makes one of two files
abbrev pub RecoversToEither : (name undo : List ℕ) → (old new : List ℕ) → World → Type 0
RecoversToEither name undo old new image = RecoversTo name undo old image ⊎ RecoversTo name undo new image

-- one name's file is torn within these ranges, and past its end
abbrev pub TearsRanges : List ℕ → List ByteRange → World → World → Type 0
TearsRanges name ranges = ChangesFile (Torn (IsOutsideAll ranges)) name

-- one name's file is torn but for its first bytes, up to this place
abbrev pub TearsFrom : List ℕ → ℕ → World → World → Type 0
TearsFrom name place = ChangesFile (Torn (λ other. other < place)) name

-- A new undo file takes its name, or does not: it is 1,024 bytes 0 then, or as it was. The file under its first name
-- may be anything, and all others stay.
abbrev pub MakesUndo : (und undo : List ℕ) → World → World → Type 0
MakesUndo und undo old new =
    KeepsOtherTwo und undo old new × ((new undo ≡ old undo) ⊎ (new undo ≡ Some (replicate 1024 0)))
