-- What is seen of a journal, and which of its calls are refused.
use Rattle.std.specs.Prelude.{◌≡◌, ◌≢◌, ◌≤◌, ◌⊎◌, ℕ, Bool, false, IsTrue, List, length, None, Option, if◌then◌else◌}
use Rattle.outside.specs.Seen.{StoreSeen}
use Rattle.outside.specs.World.{World}
use Rattle.disk.specs.DiskSeen.{DiskSeen}
use Rattle.disk.specs.declared.disk.Disk.{Ghosts}
use Rattle.edit_journal.specs.Recovered.{RecoversAsBefore}
use Rattle.edit_journal.specs.ByteRanges.{ByteRange, ranges_of}
use Rattle.edit_journal.specs.Undo.{recovered}
use Rattle.journal_store.specs.Kinds.{kind_of}
use Rattle.journal_store.specs.Overlap.{overlaps_any}
use Rattle.journal_store.specs.Told.{Told, told}
use Rattle.journal_store.specs.declared.journal.Journal.{Journal}
use Rattle.journal_store.specs.declared.journal_store.JournalStore.{JournalStore}
use Rattle.journal_store.specs.declared.kinds.NameKind.TheVariants.{Barred, New, Plain}

-- a recovery of these files makes of one what one of some image of a disk makes, or this file
abbrev pub RecoversAsBeforeOr : (name undo : List ℕ) → DiskSeen → Option (List ℕ) → World → Type 0
RecoversAsBeforeOr name undo disk file image =
    RecoversAsBefore name undo disk image ⊎ (recovered (image name) (image undo) ≡ file)

-- no file has this name, which is plain
abbrev pub IsAbsent : World → List ℕ → Type 0
IsAbsent files name = (kind_of name ≡ Plain) × (files name ≡ None)

-- no file, and no name that is unsynced
abbrev pub nothing_told : Told
nothing_told = record { files = λ _. None; unsynced = λ _. false }

-- What is seen of a store by what its journal tells, or by nothing where the disk tells nothing, with counts of faults,
-- reads and writes.
abbrev pub seen_as : Bool → Told → (faults reads writes : ℕ) → StoreSeen
seen_as tells t faults reads writes = record {
  files = (if tells then t else nothing_told).files;
  unsynced = (if tells then t else nothing_told).unsynced;
  faults = faults;
  reads = reads;
  writes = writes;
}

module _ {D : Type 0} {g : Ghosts D} where
  -- what is seen of the disk of a journal
  abbrev pub disk_of : Journal D g → DiskSeen
  disk_of journal = g.seen journal.disk

  -- the ranges that a journal keeps
  abbrev pub kept_of : Journal D g → List ByteRange
  kept_of journal = ranges_of journal.ranges.items

  -- what a journal tells
  abbrev pub told_of : Journal D g → Told
  told_of journal = told (disk_of journal) journal.name.bytes (kept_of journal)

  -- ranges are kept
  abbrev pub KeepsAny : Journal D g → Type 0
  KeepsAny journal = 1 ≤ length journal.ranges.items

  -- a name is held, and its file was recovered
  abbrev pub Holds : Journal D g → List ℕ → Type 0
  Holds journal name = (journal.name.bytes ≡ name) × IsTrue journal.ready

  -- ranges are kept for this name
  abbrev pub IsPending : Journal D g → List ℕ → Type 0
  IsPending journal name = (journal.name.bytes ≡ name) × KeepsAny journal

  -- ranges are kept for another name
  abbrev pub IsSecond : Journal D g → List ℕ → Type 0
  IsSecond journal name = KeepsAny journal × (journal.name.bytes ≢ name)

  -- A name is refused: it is barred, or it is plain, and ranges are kept for another one.
  abbrev pub IsRefused : Journal D g → List ℕ → Type 0
  IsRefused journal name = (kind_of name ≡ Barred) ⊎ ((kind_of name ≡ Plain) × IsSecond journal name)

  -- A range cannot be kept: there are twelve already, or it has a byte in common with one of them.
  abbrev pub HasNoRoom : Journal D g → (at count : ℕ) → Type 0
  HasNoRoom journal at count = (12 ≤ length journal.ranges.items) ⊎ IsTrue (overlaps_any at count journal.ranges.items)

  -- A write is refused: its name is, or is plain, and the range cannot be kept.
  abbrev pub IsWriteRefused : Journal D g → List ℕ → (at count : ℕ) → Type 0
  IsWriteRefused journal name at count = IsRefused journal name ⊎ ((kind_of name ≡ Plain) × HasNoRoom journal at count)

  -- The replacement of a file is refused: its name is, or is plain, and ranges are kept.
  abbrev pub IsReplaceRefused : Journal D g → List ℕ → Type 0
  IsReplaceRefused journal name = (kind_of name ≡ Barred) ⊎ ((kind_of name ≡ Plain) × KeepsAny journal)

  -- A new name is refused: it is not a plain one in place of a new one, or ranges are kept.
  abbrev pub IsRenameRefused : Journal D g → (from to : List ℕ) → Type 0
  IsRenameRefused journal from to = (kind_of from ≢ New) ⊎ (kind_of to ≢ Plain) ⊎ KeepsAny journal

  -- the same ranges are kept
  abbrev pub KeepsSame : Journal D g → Journal D g → Type 0
  KeepsSame old new = new.ranges.items ≡ old.ranges.items

  -- the journal of a store
  abbrev pub inside : JournalStore D g → Journal D g
  inside store = store.journal

  -- the disk that a store is over
  abbrev pub disk_in : JournalStore D g → D
  disk_in store = store.journal.disk

  -- what is seen of that disk
  abbrev pub disk_seen : JournalStore D g → DiskSeen
  disk_seen store = disk_of store.journal

  -- what is seen of a store
  abbrev pub store_seen : JournalStore D g → StoreSeen
  store_seen store = seen_as g.tells (told_of store.journal) store.faults store.reads store.writes
