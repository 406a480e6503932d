-- What is seen of a disk in memory, and which of its calls fail.
use Rattle.std.specs.Prelude.{◌≡◌, ◌≤◌, ◌⊎◌, ℕ, false, List, Option, Some, None, Contains}
use Rattle.outside.specs.Count.{counted}
use Rattle.std.proofs.Common.{sym, ap, subst, ◌∙◌}
use Rattle.outside.specs.World.{World}
use Rattle.disk_in_memory.specs.Calls.{LeftAfter, half_left}
use Rattle.disk.specs.DiskSeen.{DiskSeen, IsDurable}
use Rattle.disk_in_memory.specs.Images.{read-left}
use Rattle.disk_in_memory.specs.Kept.{named-left}
use Rattle.disk_in_memory.specs.Told.{calls_of, first_of, names_of, told_of}
use Rattle.disk_in_memory.specs.declared.mem_disk.MemDisk.{MemDisk}

-- what is seen of a disk in memory
abbrev pub mem_disk_seen : MemDisk → DiskSeen
mem_disk_seen disk = told_of disk.recorded disk.failures.faults

-- the one image of a disk in memory that it leaves where it is stopped
abbrev pub half_left_of : MemDisk → World
half_left_of disk = half_left (first_of disk.recorded) (calls_of disk.recorded)

-- Which calls of a disk in memory are to fail, by their numbers from 1, the number of the call from which on all fail,
-- and how many calls there were, up to the last value of a counter of 64 bits.
pub record StopPlan : Type 0 where
  pub failing : List ℕ
  pub stop : Option ℕ
  pub calls : ℕ

-- the plan of a disk in memory
abbrev pub mem_disk_plan : MemDisk → StopPlan
mem_disk_plan disk = record { failing = disk.failures.failing.items; stop = disk.stop; calls = disk.failures.calls }

-- whether the disk has stopped by a call of this number
abbrev pub HasStopped : Option ℕ → ℕ → Type 0
HasStopped None number = ⊥
HasStopped (Some stop) number = stop ≤ number

-- the next call is one of those that are to fail
abbrev pub IsToFail : StopPlan → Type 0
IsToFail plan = Contains plan.failing (counted plan.calls) ⊎ HasStopped plan.stop (counted plan.calls)

-- what is read of a disk in memory is an image
pub read_is_left : (disk : MemDisk) → (mem_disk_seen disk).images (mem_disk_seen disk).files
read_is_left disk =
    subst (λ (files : World). LeftAfter (first_of disk.recorded) (calls_of disk.recorded) files)
    (sym disk.recorded.replayed)
    (read-left (first_of disk.recorded) (calls_of disk.recorded))

-- a stop leaves the file of each name that is not unsynced as it is read
pub synced_is_left : (disk : MemDisk) (name : List ℕ) → (mem_disk_seen disk).unsynced name ≡ false
    → IsDurable name (mem_disk_seen disk)
synced_is_left disk name synced image left =
    named-left (first_of disk.recorded) (calls_of disk.recorded) (names_of disk.recorded) image name
    disk.recorded.named left synced
    ∙ sym (ap (λ (files : World). files name) disk.recorded.replayed)
