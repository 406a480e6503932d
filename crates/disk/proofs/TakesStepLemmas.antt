-- When a call takes a step: where it changes nothing, and where it took a narrower one; and what a sync leaves that
-- takes one.
use Rattle.std.proofs.Common.{◌≡◌, inl, ℕ, List, refl, sym, ap, ◌∙◌, subst}
use Rattle.outside.specs.World.{World}
use Rattle.disk.specs.DiskSeen.{ChangesNothing, DiskSeen, IsDurable, TakesStep}
use Rattle.disk.specs.DiskCalls.{CutShort, CutsShort, IsOutside, MayBeRenamed, Shortened, Shortens, TearsRange, Torn}
use Rattle.disk.proofs.StepLemmas.{changes_file-same, cut_short-same, shortened-same, torn-same}

-- a call that changes nothing takes each step that leads from files to themselves
pub nothing_steps : (step : World → World → Type 0) (old new : DiskSeen) → ((files : World) → step files files)
    → ChangesNothing old new → TakesStep step old new
nothing_steps step old new same nothing = record {
  follows = record {
    left = λ image is. (image, nothing.fewer image is, same image);
    read = rw nothing.files (same old.files);
  };
  elapses = nothing.elapses;
  counted = nothing.counted;
}

-- a wider step is taken too
pub step_wider : (step wider : World → World → Type 0) (old new : DiskSeen)
    → ((before after : World) → step before after → wider before after) → TakesStep step old new
    → TakesStep wider old new
step_wider step wider old new sub takes = record {
  follows = record {
    left = λ image is. let from = takes.follows.left image is in (from.0, from.1, sub from.0 image from.2);
    read = sub old.files new.files takes.follows.read;
  };
  elapses = takes.elapses;
  counted = takes.counted;
}

-- a step that leaves each world as it is, and one name's file as it was read, changes nothing and keeps that file
pub sync_nothing : (name : List ℕ) (old new : DiskSeen) → new.files ≡ old.files
    → TakesStep (λ before after. (after ≡ before) × (after name ≡ old.files name)) old new → ChangesNothing old new
sync_nothing name old new same takes = record {
  files = same;
  fewer = λ image is. let from = takes.follows.left image is in
      subst (λ (files : World). old.images files) (sym from.2.0) from.1;
  elapses = takes.elapses;
  counted = takes.counted;
}

pub sync_keeps : (name : List ℕ) (old new : DiskSeen) → new.files ≡ old.files
    → TakesStep (λ before after. (after ≡ before) × (after name ≡ old.files name)) old new → IsDurable name new
sync_keeps name old new same takes image is =
    let from = takes.follows.left image is in from.2.1 ∙ ap (λ (files : World). files name) (sym same)

-- no write tears no range
pub tears_none : (name : List ℕ) (at len : ℕ) (files : World) → TearsRange name at len files files
tears_none name at len files =
    changes_file-same (Torn (IsOutside at len)) name files (torn-same (IsOutside at len) (files name))

-- no cut cuts nothing short
pub cuts_none : (name : List ℕ) (len : ℕ) (files : World) → CutsShort name len files files
cuts_none name len files = changes_file-same (CutShort len) name files (cut_short-same len (files name))

-- no cut shortens nothing
pub shortens_none : (name : List ℕ) (len : ℕ) (files : World) → Shortens name len files files
shortens_none name len files = changes_file-same (Shortened len) name files (shortened-same len (files name))

-- a call that failed before anything was done
pub tears_nothing : (name : List ℕ) (at len : ℕ) (old new : DiskSeen) → ChangesNothing old new
    → TakesStep (TearsRange name at len) old new
tears_nothing name at len old new nothing =
    nothing_steps (TearsRange name at len) old new (tears_none name at len) nothing

pub cuts_nothing : (name : List ℕ) (len : ℕ) (old new : DiskSeen) → ChangesNothing old new
    → TakesStep (CutsShort name len) old new
cuts_nothing name len old new nothing = nothing_steps (CutsShort name len) old new (cuts_none name len) nothing

pub shortens_nothing : (name : List ℕ) (len : ℕ) (old new : DiskSeen) → ChangesNothing old new
    → TakesStep (Shortens name len) old new
shortens_nothing name len old new nothing = nothing_steps (Shortens name len) old new (shortens_none name len) nothing

pub renames_nothing : (from to : List ℕ) (old new : DiskSeen) → ChangesNothing old new
    → TakesStep (MayBeRenamed from to) old new
renames_nothing from to old new nothing = nothing_steps (MayBeRenamed from to) old new (λ files. inl refl) nothing
