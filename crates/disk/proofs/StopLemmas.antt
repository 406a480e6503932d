-- What a stop may leave after no call, after one, and after two changes in a row.
use Rattle.std.proofs.Common.{◌≡◌, ◌⊎◌, inl, inr, ⊎_elim, ℕ, List, sym, ◌∙◌, arith}
use Rattle.outside.specs.World.{World}
use Rattle.disk.specs.DiskSeen.{ChangesNothing, DiskSeen, DiskFollows, IsDurable, OnlyLeaves, Passes, TakesStep}

-- a wider step is followed too
pub follows-wider : (step wider : World → World → Type 0) (old new : DiskSeen)
    → ((before after : World) → step before after → wider before after) → DiskFollows step old new
    → DiskFollows wider old new
follows-wider step wider old new sub follows = record {
  left = λ image is. let from = follows.left image is in (from.0, from.1, sub from.0 image from.2);
  read = sub old.files new.files follows.read;
}

pub follows-then : (step : World → World → Type 0) (old between new : DiskSeen)
    → ((a b c : World) → step a b → step b c → step a c)
    → DiskFollows step old between → DiskFollows step between new → DiskFollows step old new
follows-then step old between new on first second = record {
  left = λ image is.
      let last = second.left image is in
      let start = first.left last.0 last.1 in
      (start.0, start.1, on start.0 last.0 image start.2 last.2);
  read = on old.files between.files new.files first.read second.read;
}

-- a call that takes a step passes by it
pub passes-step : (step : World → World → Type 0) (old new : DiskSeen) → TakesStep step old new → Passes step old new
passes-step step old new takes = record {
  follows = takes.follows;
  later = takes.elapses.later;
  known = λ moment image early was.
      ⊎_elim (λ before. inl before) (λ now. inr (takes.follows.left image now))
      ((takes.elapses.known moment image early).0 was);
}

-- no call passes by whatever step leads from each world to itself
pub passes-none : (step : World → World → Type 0) (disk : DiskSeen) → ((files : World) → step files files)
    → Passes step disk disk
passes-none step disk same = record {
  follows = record { left = λ image is. (image, is, same image); read = same disk.files };
  later = omega arith;
  known = λ moment image early was. inl was;
}

-- nor does one that changes nothing
pub passes-nothing : (step : World → World → Type 0) (old new : DiskSeen) → ((files : World) → step files files)
    → ChangesNothing old new → Passes step old new
passes-nothing step old new same nothing = record {
  follows = record {
    left = λ image is. (image, nothing.fewer image is, same image);
    read = rw nothing.files (same old.files);
  };
  later = nothing.elapses.later;
  known = λ moment image early was.
      ⊎_elim (λ before. inl before) (λ now. inr (image, nothing.fewer image now, same image))
      ((nothing.elapses.known moment image early).0 was);
}

pub passes-wider : (step wider : World → World → Type 0) (old new : DiskSeen)
    → ((before after : World) → step before after → wider before after) → Passes step old new → Passes wider old new
passes-wider step wider old new sub passes = record {
  follows = follows-wider step wider old new sub passes.follows;
  later = passes.later;
  known = λ moment image early was.
      ⊎_elim (λ before. inl before) (λ by. inr (by.0, by.1, sub by.0 image by.2)) (passes.known moment image early was);
}

pub passes-then : (step : World → World → Type 0) (old between new : DiskSeen)
    → ((a b c : World) → step a b → step b c → step a c)
    → Passes step old between → Passes step between new → Passes step old new
passes-then step old between new on first second = record {
  follows = follows-then step old between new on first.follows second.follows;
  later = omega (arith, first.later, second.later);
  known = λ moment image early was.
      ⊎_elim
      (λ before. first.known moment image early before)
      (λ by. let start = first.follows.left by.0 by.1 in inr (start.0, start.1, on start.0 by.0 image start.2 by.2))
      (second.known moment image (omega (arith, early, first.later)) was);
}

pub only_leaves-wider : (Property Wider : World → Type 0) (old new : DiskSeen)
    → ((image : World) → Property image → Wider image) → OnlyLeaves Property old new → OnlyLeaves Wider old new
only_leaves-wider Property Wider old new sub only = record {
  read = sub new.files only.read;
  left = λ image is. sub image (only.left image is);
  later = only.later;
  at_once = λ image was. sub image (only.at_once image was);
  known = λ moment image early was.
      ⊎_elim (λ before. inl before) (λ has. inr (sub image has)) (only.known moment image early was);
}

-- files with one property are left, and then files with another
pub only_leaves-then : (One Two : World → Type 0) (old between new : DiskSeen) → OnlyLeaves One old between
    → OnlyLeaves Two between new → OnlyLeaves (λ image. One image ⊎ Two image) old new
only_leaves-then One Two old between new first second = record {
  read = inr second.read;
  left = λ image is. inr (second.left image is);
  later = omega (arith, first.later, second.later);
  at_once = λ image was. ⊎_elim (λ before. inl (first.at_once image before)) (λ has. inr has)
      (second.known old.moment image first.later was);
  known = λ moment image early was.
      ⊎_elim
      (λ before. ⊎_elim (λ earlier. inl earlier) (λ has. inr (inl has)) (first.known moment image early before))
      (λ has. inr (inr has))
      (second.known moment image (omega (arith, early, first.later)) was);
}

-- a change that passes by a step leaves what has a property, where each step from an old image leads to it
pub only_leaves-passes : (step : World → World → Type 0) (Property : World → Type 0) (old new : DiskSeen)
    → Passes step old new
    → ((image : World) → old.since old.moment image → Property image)
    → ((before after : World) → old.images before → step before after → Property after) → step old.files new.files
    → old.images old.files
    → OnlyLeaves Property old new
only_leaves-passes step Property old new passes here after read is = record {
  read = after old.files new.files is read;
  left = λ image now. let by = passes.follows.left image now in after by.0 image by.1 by.2;
  later = passes.later;
  at_once = λ image was.
      ⊎_elim (here image) (λ by. after by.0 image by.1 by.2) (passes.known old.moment image (omega arith) was);
  known = λ moment image early was.
      ⊎_elim (λ before. inl before) (λ by. inr (after by.0 image by.1 by.2)) (passes.known moment image early was);
}

-- a file that is kept is kept by each step that keeps it
pub kept-on : (name : List ℕ) (step : World → World → Type 0) (old new : DiskSeen)
    → ((before after : World) → step before after → after name ≡ before name)
    → IsDurable name old → DiskFollows step old new → IsDurable name new
kept-on name step old new keeps kept follows image is =
    let from = follows.left image is in
    keeps from.0 image from.2 ∙ kept from.0 from.1 ∙ sym (keeps old.files new.files follows.read)
