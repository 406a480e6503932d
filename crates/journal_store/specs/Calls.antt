-- What is said of each call of a store over a journal: when it is refused, and what each of its moments leaves of the
-- disk.
use Rattle.std.specs.Prelude.{◌≡◌, ◌≤◌, ◌⊎◌, ℕ, true, false, List, [], ◌∷◌, IsErr, OnErr, OnOk, Result, if◌then◌else◌}
use Rattle.std.specs.Prelude.{is_ok}
use Rattle.outside.specs.Count.{Rose, counted}
use Rattle.outside.specs.Unsynced.{UnsyncedNames}
use Rattle.outside.specs.World.{KeepsOthers, World, with_new_name}
use Rattle.disk.specs.DiskSeen.{DiskFollows, DiskSeen, OnlyLeaves, Passes}
use Rattle.edit_journal.specs.Recovered.{IsRecovered, KeepsOtherThree, RecoversSame}
use Rattle.edit_journal.specs.Undo.{recovered}
use Rattle.edit_journal.specs.UndoName.{und_name, undo_name}
use Rattle.journal_store.specs.Commits.{Commits}
use Rattle.journal_store.specs.JournalStore.{RecoversAsBeforeOr}
use Rattle.journal_store.specs.Kinds.{is_new, kind_of}
use Rattle.journal_store.specs.Replaced.{HasClosedGate, MayReplaceRecovered, ReplacesRecovered}
use Rattle.journal_store.specs.declared.kinds.NameKind.TheVariants.{New, Plain}

-- A call is refused where `Always` holds, and else only where `Maybe` does or the disk's count of faults rose, which
-- does not fall; where `Still` holds the disk is as it was.
pub record Refuses {T E D : Type 0} (Always Maybe Still : Type 0) (seen : D → DiskSeen) (old new : D)
    (result : Result T E) : Type 0 where
  pub refused : Always → IsErr result
  pub only : OnErr result (Maybe ⊎ Rose (seen old).faults (seen new).faults)
  pub counted : (seen old).faults ≤ (seen new).faults
  pub still : Still → new ≡ old

-- the same of a call that is refused for one reason, and leaves the disk then
abbrev pub RefusesFor : {T E D : Type 0} → Type 0 → (D → DiskSeen) → (old new : D) → Result T E → Type 0
RefusesFor Reason = Refuses Reason Reason Reason

-- a count of refusals is one greater once a call was refused, and else the same
abbrev pub CountsRefusal : {T E : Type 0} → Result T E → (before now : ℕ) → Type 0
CountsRefusal result before now = now ≡ (if is_ok result then before else counted before)

-- A call that commits nothing: whatever a stop leaves of a file with a plain name recovers to what something that might
-- be left before recovers to, and all files but this one and its undo file, under both its names, stay; of a file with
-- a new name all others stay.
pub record CommitsNothing (name : List ℕ) (old new : DiskSeen) : Type 0 where
  pub stops : kind_of name ≡ Plain → Passes (RecoversSame name (undo_name name) (und_name name)) old new
  pub alone : kind_of name ≡ New → Passes (KeepsOthers name) old new
  pub commits : Commits [] old new

-- A call that recovers a file: at each moment as above, and where it was done the file is recovered.
pub record RecoversFile {T E : Type 0} (name : List ℕ) (old new : DiskSeen) (result : Result T E) : Type 0 where
  pub stops : Passes (RecoversSame name (undo_name name) (und_name name)) old new
  pub done : OnOk result
      (IsRecovered name (undo_name name) (recovered (old.files name) (old.files (undo_name name))) new)
  pub commits : Commits [] old new

-- A call that commits a file as these files tell it: whatever a stop leaves of it recovers to what something that might
-- be left before recovers to, or to this one, and where it was done it is recovered, and is this one; all other files
-- but its undo file, under both its names, stay.
pub record CommitsFile {T E : Type 0} (name : List ℕ) (told : World) (old new : DiskSeen)
    (result : Result T E) : Type 0 where
  pub stops : OnlyLeaves (RecoversAsBeforeOr name (undo_name name) old (told name)) old new
  pub others : Passes (KeepsOtherThree name (undo_name name) (und_name name)) old new
  pub done : OnOk result (IsRecovered name (undo_name name) (told name) new)
  pub commits : Commits (told ∷ []) old new

-- A call that syncs a file as these files tell it: it commits one with a plain name; one with a new name alone changes.
pub record SyncsFile {T E : Type 0} (name : List ℕ) (told : World) (old new : DiskSeen)
    (result : Result T E) : Type 0 where
  pub plain : kind_of name ≡ Plain → CommitsFile name told old new result
  pub alone : kind_of name ≡ New → Passes (KeepsOthers name) old new
  pub commits : Commits (told ∷ []) old new
  pub beside : is_new name ≡ true → Commits [] old new

-- A call that makes a file anew: of a plain name all other files but its undo file, under both its names, stay, and
-- where it was done the gate of the undo file is closed, so no recovery changes the new file; of a new name all others
-- stay, and it commits nothing.
pub record MakesFile {T E : Type 0} (name : List ℕ) (old new : DiskSeen) (result : Result T E) : Type 0 where
  pub others : kind_of name ≡ Plain → Passes (KeepsOtherThree name (undo_name name) (und_name name)) old new
  pub alone : kind_of name ≡ New → Passes (KeepsOthers name) old new
  pub closed : OnOk result (kind_of name ≡ Plain → HasClosedGate name new)
  pub commits : is_new name ≡ true → Commits [] old new

-- A call that puts one file in the place of another: a stop leaves what a recovery of the other one may leave, with the
-- new name or without it; where it was done it is so in whatever a stop leaves, and the gate of the undo file is
-- closed; it commits the files with the new name, where the file that gets it is synced.
pub record ReplacesFile {T E : Type 0} (from to : List ℕ) (names : UnsyncedNames) (files : World) (old new : DiskSeen)
    (result : Result T E) : Type 0 where
  pub stops : Passes (MayReplaceRecovered from to) old new
  pub done : OnOk result (DiskFollows (ReplacesRecovered from to) old new)
  pub closed : OnOk result (HasClosedGate to new)
  pub commits : names from ≡ false → Commits (with_new_name files from to ∷ []) old new
