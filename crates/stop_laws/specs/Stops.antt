-- What a stop of the machine leaves of the files of a run over a journal.
use Rattle.std.specs.Prelude.{◌≡◌, ◌⊎◌, ℕ, List, nat_eq}
use Rattle.outside.specs.World.{World}
use Rattle.disk.specs.DiskSeen.{DiskSeen, EachImage}
use Rattle.edit_journal.specs.Undo.{recovered}
use Rattle.edit_journal.specs.UndoName.{undo_name}
use Rattle.journal_store.specs.Commits.{RecoversToSome}
use Rattle.journal_store.specs.Kinds.{kind_of}
use Rattle.journal_store.specs.declared.kinds.NameKind.TheVariants.{Plain}
use Rattle.run_steps.specs.Done.{Outside}
use Rattle.command_table.specs.CarriedOut.{CommandCommits}
use Rattle.quota_cli.specs.Headline.{CommandLine, asked}

-- a recovery of what a stop left makes of the named file what it is among these files
abbrev pub RecoversTo : World → List ℕ → World → Type 0
RecoversTo files name image = recovered (image name) (image (undo_name name)) ≡ files name

-- A file is kept: whatever a stop may leave now, a recovery makes of it what it is among these files.
abbrev pub IsKept : World → List ℕ → DiskSeen → Type 0
IsKept files name disk = EachImage (RecoversTo files name) disk

-- a stop may have left these files at some moment from the one on up to the other, both of them with it
abbrev pub MayHaveLeft : (first last : DiskSeen) → World → Type 0
MayHaveLeft first last image = last.since first.moment image ⊎ last.images image

-- At each of these moments a recovery of what a stop leaves makes of each file of a plain name that was kept at the
-- first one, byte for byte, what it was then, or what it is in one of these worlds.
abbrev pub LeaveOldOr : List World → World → (first last : DiskSeen) → Type 0
LeaveOldOr worlds old first last =
    (name : List ℕ) → kind_of name ≡ Plain → IsKept old name first
    → (image : World) → MayHaveLeft first last image → RecoversTo old name image ⊎ RecoversToSome worlds name image

-- What stops along a run leave: at each moment each file of a plain name that was kept recovers to what it was, or to
-- what it is among the files that the steps come to behind some first part of their acts, in which no other one has
-- changed than the command changes; and where the command changes files at one moment, those are the files of one
-- moment alone: with status 0 of the end.
abbrev pub StopsLeave : CommandLine → (status : ℕ) → Outside → World → (first last : DiskSeen) → Type 0
StopsLeave typed status old new first last =
    CommandCommits (asked typed) typed.invocation (nat_eq status 0) old new
    (λ (worlds : List World). LeaveOldOr worlds old.files first last)
