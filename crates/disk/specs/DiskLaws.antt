-- Disks that nothing was done to, and steps that a disk allows.
use Rattle.std.specs.Prelude.{◌≡◌, ◌↔◌, ℕ, List, false}
use Rattle.outside.specs.World.{World}
use Rattle.disk.specs.DiskSeen.{DiskSeen}

-- each step from an old image leads to a new one
abbrev pub AllowsStep : (World → World → Type 0) → DiskSeen → DiskSeen → Type 0
AllowsStep step old new = (before after : World) → old.images before → step before after → new.images after

-- A disk of these files that nothing was done to: they are what is read and the one image, no name is unsynced, and no
-- call has failed.
pub record IsFresh (given : World) (disk : DiskSeen) : Type 0 where
  pub read : disk.files ≡ given
  pub left : (image : World) → disk.images image ↔ (image ≡ given)
  pub start : disk.moment ≡ 0
  pub known : (moment : ℕ) (image : World) → disk.since moment image ↔ (image ≡ given)
  pub synced : (name : List ℕ) → disk.unsynced name ≡ false
  pub faultless : disk.faults ≡ 0
