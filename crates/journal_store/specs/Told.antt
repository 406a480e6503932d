-- What a journal store tells of its files and of the unsynced names.
use Rattle.std.specs.Prelude.{◌≡◌, ℕ, Bool, ◌||◌, ◌&&◌, not, false, nat_eq, IsTrue, List, [], length, None, option_map}
use Rattle.std.specs.Prelude.{if◌then◌else◌}
use Rattle.std.specs.Str.{bytes_eq}
use Rattle.outside.specs.Unsynced.{AddsNone, UnsyncedNames}
use Rattle.outside.specs.World.{KeepsOthers, World}
use Rattle.disk.specs.DiskSeen.{DiskSeen}
use Rattle.edit_journal.specs.ByteRanges.{ByteRange, laid}
use Rattle.edit_journal.specs.Undo.{recovered}
use Rattle.edit_journal.specs.UndoName.{undo_name}
use Rattle.journal_store.specs.Kinds.{is_new, is_undo}

-- the files, and the names that are unsynced
pub record Told : Type 0 where
  pub files : World
  pub unsynced : UnsyncedNames

-- the ranges that are kept for a name, where they are kept for the held one
abbrev pub ranges_for : (held : List ℕ) → List ByteRange → List ℕ → List ByteRange
ranges_for held spans name = if bytes_eq held name then spans else []

-- whether ranges are kept for a name
abbrev pub are_kept : (held : List ℕ) → List ByteRange → List ℕ → Bool
are_kept held spans name = bytes_eq held name && not (nat_eq (length spans) 0)

-- The files that are told: a name that is kept for undo files has none, one that ends in `.new` has the disk's, and
-- each other has what a recovery makes of its file, with the ranges that are kept for it laid over.
abbrev pub told_files : World → (held : List ℕ) → List ByteRange → World
told_files files held spans name =
    if is_undo name then None
    else (if is_new name then files name
    else option_map (laid (ranges_for held spans name)) (recovered (files name) (files (undo_name name))))

-- The names that are told to be unsynced: those for which ranges are kept, and those that the disk tells so, but for
-- names that are kept for undo files.
abbrev pub told_names : UnsyncedNames → (held : List ℕ) → List ByteRange → UnsyncedNames
told_names names held spans name = if is_undo name then false else (are_kept held spans name || names name)

-- what is told of a disk, of which ranges are kept for a held name
abbrev pub told : DiskSeen → (held : List ℕ) → List ByteRange → Told
told disk held spans =
    record { files = told_files disk.files held spans; unsynced = told_names disk.unsynced held spans }

-- A call that only looks at one name or waits for it leaves all told files; of the other names all are told as unsynced
-- as they were, and where it was done no name is told unsynced that was not.
pub record LooksAtName (done : Bool) (name : List ℕ) (old new : Told) : Type 0 where
  pub files : new.files ≡ old.files
  pub unsynced : KeepsOthers name old.unsynced new.unsynced
  pub synced : IsTrue done → AddsNone old.unsynced new.unsynced
