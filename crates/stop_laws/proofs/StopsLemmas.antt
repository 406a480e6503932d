-- From what a store over a journal commits to what stops leave.
use Rattle.std.proofs.Common.{◌⊎◌, inl, inr, ⊎_elim, ℕ, ◌≡◌, List, [], Option, None, Some, option_map, refl, sym, ap}
use Rattle.std.proofs.Common.{◌∙◌, arith}
use Rattle.outside.specs.World.{World}
use Rattle.disk.specs.DiskSeen.{DiskSeen, IsDurable}
use Rattle.edit_journal.specs.ByteRanges.{ByteRange, laid}
use Rattle.edit_journal.specs.Undo.{recovered}
use Rattle.edit_journal.specs.UndoName.{undo_name}
use Rattle.journal_store.specs.Commits.{Commits, RecoversOr, RecoversToSome}
use Rattle.journal_store.specs.Kinds.{kind_of}
use Rattle.journal_store.specs.Told.{told_files}
use Rattle.journal_store.specs.declared.kinds.NameKind.TheVariants.{Plain}
use Rattle.journal_store.proofs.KindLemmas.{IsPlain, is_plain}
use Rattle.journal_store.proofs.ToldLemmas.{ranges_for-none, told-plain}
use Rattle.stop_laws.specs.Stops.{IsKept, LeaveOldOr, RecoversTo}

-- Along a run.

-- what recovers as before, or to some worlds, recovers to the old file, or to that of these worlds
old_or : (worlds : List World) (old : World) (first : DiskSeen) (name : List ℕ) (image : World) → IsKept old name first
    → RecoversOr worlds first name image
    → RecoversTo old name image ⊎ RecoversToSome worlds name image
old_or worlds old first name image kept either =
    ⊎_elim (λ as_before. inl (as_before.2 ∙ kept as_before.0 as_before.1)) (λ some. inr some) either

pub leave_old_or : (worlds : List World) (old : World) (first last : DiskSeen)
    → ((image : World) → first.since first.moment image → first.images image)
    → Commits worlds first last → LeaveOldOr worlds old first last
leave_old_or worlds old first last present commits name plain kept image may =
    ⊎_elim
    (λ since.
    ⊎_elim
    (λ was. inl (kept image (present image was)))
    (λ each. old_or worlds old first name image kept (each name plain))
    (commits.known first.moment image (omega arith) since))
    (λ is. old_or worlds old first name image kept (commits.left name plain image is))
    may

-- At the start.

laid_none : (file : Option (List ℕ)) → option_map (laid []) file ≡ file
laid_none None = refl
laid_none (Some file) = refl

-- what a store that keeps no ranges tells of a plain file is what a recovery makes of it
told_recovered : (files : World) (name : List ℕ) → IsPlain name
    → told_files files [] [] name ≡ recovered (files name) (files (undo_name name))
told_recovered files name plain =
    told-plain files [] [] name plain.undo plain.new
    ∙ ap (λ (ranges : List ByteRange). option_map (laid ranges) (recovered (files name) (files (undo_name name))))
    (ranges_for-none [] name)
    ∙ laid_none (recovered (files name) (files (undo_name name)))

-- so a file that is synced, with its undo file, is kept
pub synced_kept : (disk : DiskSeen) (name : List ℕ) → kind_of name ≡ Plain → IsDurable name disk
    → IsDurable (undo_name name) disk → IsKept (told_files disk.files [] []) name disk
synced_kept disk name plain file undo image is =
    ap (λ (f : Option (List ℕ)). recovered f (image (undo_name name))) (file image is)
    ∙ ap (λ (u : Option (List ℕ)). recovered (disk.files name) u) (undo image is)
    ∙ sym (told_recovered disk.files name (is_plain name plain))
