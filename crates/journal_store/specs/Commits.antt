-- What calls on a store over a journal may have put where a stop of the machine leaves it.
use Rattle.std.specs.Prelude.{◌≡◌, ◌≤◌, ◌⊎◌, ℕ, List, [], ◌∷◌, ◌++◌, refl}
use Rattle.std.proofs.Common.{inl, inr, ⊎_elim, ◌∙◌, arith}
use Rattle.outside.specs.World.{World}
use Rattle.disk.specs.DiskSeen.{DiskSeen, EachImage}
use Rattle.edit_journal.specs.Recovered.{RecoversAsBefore}
use Rattle.edit_journal.specs.Undo.{recovered}
use Rattle.edit_journal.specs.UndoName.{undo_name}
use Rattle.journal_store.specs.Kinds.{kind_of}
use Rattle.journal_store.specs.declared.kinds.NameKind.TheVariants.{Plain}

-- a recovery of these files makes of one what it is in some of these worlds
abbrev pub RecoversToSome : List World → List ℕ → World → Type 0
RecoversToSome [] name image = ⊥
RecoversToSome (world ∷ rest) name image =
    (recovered (image name) (image (undo_name name)) ≡ world name) ⊎ RecoversToSome rest name image

-- a recovery of these files makes of one what one of some image of a disk makes of it, or what it is in some of these
-- worlds
abbrev pub RecoversOr : List World → DiskSeen → List ℕ → World → Type 0
RecoversOr worlds disk name image = RecoversAsBefore name (undo_name name) disk image ⊎ RecoversToSome worlds name image

-- Along some calls all that a stop may leave of the files of plain names, once they are recovered, is what one before
-- may leave of them, or the files of these worlds: each image is so, and so is what a stop at some moment since may
-- have left.
pub record Commits (worlds : List World) (old new : DiskSeen) : Type 0 where
  pub later : old.moment ≤ new.moment
  pub left : (name : List ℕ) → kind_of name ≡ Plain → EachImage (RecoversOr worlds old name) new
  pub known : (moment : ℕ) (image : World) → moment ≤ old.moment → new.since moment image
      → old.since moment image ⊎ ((name : List ℕ) → kind_of name ≡ Plain → RecoversOr worlds old name image)

-- where no call was made, none of any worlds was put there
pub nothing_commits : (worlds : List World) (disk : DiskSeen) → Commits worlds disk disk
nothing_commits worlds disk = record {
  later = omega arith;
  left = λ name plain image is. inl (image, is, refl);
  known = λ moment image early was. inl was;
}

-- some of these worlds are some of these and others
to_some-more : (one two : List World) (name : List ℕ) (image : World) → RecoversToSome one name image
    → RecoversToSome (one ++ two) name image
to_some-more [] two name image some = absurd some
to_some-more (world ∷ rest) two name image some =
    ⊎_elim (λ is. inl is) (λ later. inr (to_some-more rest two name image later)) some

-- or of others and these
to_some-behind : (one two : List World) (name : List ℕ) (image : World) → RecoversToSome two name image
    → RecoversToSome (one ++ two) name image
to_some-behind [] two name image some = some
to_some-behind (world ∷ rest) two name image some = inr (to_some-behind rest two name image some)

-- what recovers to the same file recovers to the same worlds
to_some-same : (worlds : List World) (name : List ℕ) (before image : World)
    → recovered (image name) (image (undo_name name)) ≡ recovered (before name) (before (undo_name name))
    → RecoversToSome worlds name before → RecoversToSome worlds name image
to_some-same [] name before image same some = some
to_some-same (world ∷ rest) name before image same some =
    ⊎_elim (λ is. inl (same ∙ is)) (λ later. inr (to_some-same rest name before image same later)) some

-- and so it is where something that was left before may be left
recovers_or-more : (one two : List World) (disk : DiskSeen) (name : List ℕ) (image : World)
    → RecoversOr one disk name image → RecoversOr (one ++ two) disk name image
recovers_or-more one two disk name image either =
    ⊎_elim (λ as_before. inl as_before) (λ some. inr (to_some-more one two name image some)) either

-- what is left along some calls and those that follow them
recovers_or-then : (one two : List World) (first between : DiskSeen) (name : List ℕ)
    → EachImage (RecoversOr one first name) between → (image : World) → RecoversOr two between name image
    → RecoversOr (one ++ two) first name image
recovers_or-then one two first between name left image either =
    ⊎_elim
    (λ as_before.
    ⊎_elim
    (λ earlier. inl (earlier.0, earlier.1, as_before.2 ∙ earlier.2))
    (λ some. inr (to_some-more one two name image (to_some-same one name as_before.0 image as_before.2 some)))
    (left as_before.0 as_before.1))
    (λ some. inr (to_some-behind one two name image some))
    either

-- what was put there along some calls, and then along those that follow them
pub commits_then : (one two : List World) (first between last : DiskSeen) → Commits one first between
    → Commits two between last → Commits (one ++ two) first last
commits_then one two first between last former latter = record {
  later = omega (arith, former.later, latter.later);
  left = λ name plain image is.
      recovers_or-then one two first between name (former.left name plain) image (latter.left name plain image is);
  known = λ moment image early was.
      ⊎_elim
      (λ before.
      ⊎_elim
      (λ earlier. inl earlier)
      (λ each. inr (λ name plain. recovers_or-more one two first name image (each name plain)))
      (former.known moment image early before))
      (λ each.
      inr (λ name plain. recovers_or-then one two first between name (former.left name plain) image (each name plain)))
      (latter.known moment image (omega (arith, early, former.later)) was);
}
