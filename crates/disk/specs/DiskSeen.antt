-- What is seen of a disk: what a read gives, and what a stop of the machine may leave.
use Rattle.std.specs.Prelude.{◌≡◌, ◌≤◌, ◌⊎◌, ◌↔◌, ℕ, List}
use Rattle.outside.specs.Unsynced.{UnsyncedNames}
use Rattle.outside.specs.World.{World}

-- A disk: its files as they are read, the files that a stop of the machine now may leave (each of them is called an
-- image), the moment, as a number that does not fall, the files that a stop at some moment from a given one on may have
-- left, the names that are unsynced, and how many calls have failed, up to the last value of 64 bits.
pub record DiskSeen : Type 1 where
  pub files : World
  pub images : World → Type 0
  pub moment : ℕ
  pub since : ℕ → World → Type 0
  pub unsynced : UnsyncedNames
  pub faults : ℕ

-- each image has a property
abbrev pub EachImage : (World → Type 0) → DiskSeen → Type 0
EachImage Property disk = (image : World) → disk.images image → Property image

-- The file of a name is kept: each image has it as it is read. Source: fsync(2).
abbrev pub IsDurable : List ℕ → DiskSeen → Type 0
IsDurable name disk = EachImage (λ image. image name ≡ disk.files name) disk

-- The new disk follows the old one by a step: each new image has an old image with the step between them, and so have
-- the files that are read.
pub record DiskFollows (step : World → World → Type 0) (old new : DiskSeen) : Type 0 where
  pub left : (image : World) → new.images image → (before : World) × old.images before × step before image
  pub read : step old.files new.files

-- Time elapses: the moment does not fall, and what a stop since an earlier moment may have left is what one before
-- might have left, or an image now.
pub record Elapses (old new : DiskSeen) : Type 0 where
  pub later : old.moment ≤ new.moment
  pub known : (moment : ℕ) (image : World) → moment ≤ old.moment → new.since moment image
      ↔ (old.since moment image ⊎ new.images image)

-- A change passes by a step: the new disk follows the old one by it, and a stop since an earlier moment left what one
-- before might have left, or something with the step from an old image to it.
pub record Passes (step : World → World → Type 0) (old new : DiskSeen) : Type 0 where
  pub follows : DiskFollows step old new
  pub later : old.moment ≤ new.moment
  pub known : (moment : ℕ) (image : World) → moment ≤ old.moment → new.since moment image
      → old.since moment image ⊎ ((before : World) × old.images before × step before image)

-- Only files with a property are left: those that are read have it, each image has it, and so has all that a stop since
-- the old moment may have left; a stop since an earlier moment left what one before might have left, or such files.
pub record OnlyLeaves (Property : World → Type 0) (old new : DiskSeen) : Type 0 where
  pub read : Property new.files
  pub left : EachImage Property new
  pub later : old.moment ≤ new.moment
  pub at_once : (image : World) → new.since old.moment image → Property image
  pub known : (moment : ℕ) (image : World) → moment ≤ old.moment → new.since moment image
      → old.since moment image ⊎ Property image

-- A call that changes no file: what is read is the same, no image is new, time elapses, and no fault is forgotten.
pub record ChangesNothing (old new : DiskSeen) : Type 0 where
  pub files : new.files ≡ old.files
  pub fewer : (image : World) → new.images image → old.images image
  pub elapses : Elapses old new
  pub counted : old.faults ≤ new.faults

-- A call that changes files by a step: the new disk follows the old one by it, time elapses, and no fault is forgotten.
pub record TakesStep (step : World → World → Type 0) (old new : DiskSeen) : Type 0 where
  pub follows : DiskFollows step old new
  pub elapses : Elapses old new
  pub counted : old.faults ≤ new.faults
