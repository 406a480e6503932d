-- What the four steps of a commit leave, each by itself and one after the other.
use Rattle.std.proofs.Common.{◌≡◌, ◌≢◌, ◌⊎◌, inl, inr, ⊎_elim, ℕ, ◌<◌, ◌≤◌, List, [], ◌∷◌, Option, Some, None}
use Rattle.std.proofs.Common.{unwrap_or, refl, sym, ap, ◌∙◌, subst, arith, length}
use Rattle.std.proofs.lemmas.Bool.{cases_eq, false≢true}
use Rattle.outside.specs.World.{World, with_bytes}
use Rattle.disk.specs.DiskSeen.{DiskSeen, EachImage, IsDurable, OnlyLeaves, Passes}
use Rattle.disk.specs.DiskCalls.{IsOutside, TearsRange, Torn}
use Rattle.disk.proofs.StepLemmas.{torn-same}
use Rattle.disk.proofs.StopLemmas.{only_leaves-passes, only_leaves-then, only_leaves-wider}
use Rattle.quota_types.specs.Bytes.{byte_at}
use Rattle.edit_journal.specs.Settled.{IsSettled, RecoversTo, RecoversToEither, TearsFrom, TearsRanges}
use Rattle.edit_journal.specs.ByteRanges.{ByteRange, laid}
use Rattle.edit_journal.specs.UndoSaves.{IsOutsideAll, IsClosed, Saves}
use Rattle.edit_journal.specs.Undo.{recovered}
use Rattle.edit_journal.proofs.LaidBytesLemmas.{get_or-overwritten_inside}
use Rattle.edit_journal.proofs.RecoveryResultLemmas.{recovered-closed, recovered-saved}
use Rattle.edit_journal.proofs.SavedLemmas.{saves-same}
use Rattle.edit_journal.proofs.WrittenLemmas.{written-bytes}

-- a closed gate stays closed where byte 0 stays
closed-torn : (stays : ℕ → Type 0) (old new : Option (List ℕ)) → stays 0 → Torn stays old new
    → IsClosed old → IsClosed new
closed-torn stays old new first torn closed = (
  omega (arith, torn.no_shorter, closed.0),
  λ is. closed.1 (sym (torn.same 0 first (omega (arith, closed.0))) ∙ is),
)

-- what is saved stays where all from byte 8 on stays
saves-torn : (stays : ℕ → Type 0) (old : List ℕ) (ranges : List ByteRange) (undo new : Option (List ℕ))
    → ((p : ℕ) → 8 ≤ p → stays p) → Torn stays undo new → Saves old ranges (unwrap_or undo [])
    → Saves old ranges (unwrap_or new [])
saves-torn stays old ranges undo new all torn saves =
    saves-same old ranges (unwrap_or undo []) (unwrap_or new []) saves torn.no_shorter
    (λ p from below. torn.same p (all p from) below)

-- a file torn within the ranges, with them saved and an open gate, recovers to the old one
open-torn : (old : List ℕ) (ranges : List ByteRange) (file undo : Option (List ℕ))
    → Saves old ranges (unwrap_or undo []) → byte_at (unwrap_or undo []) 0 ≡ 1
    → Torn (IsOutsideAll ranges) (Some old) file → recovered file undo ≡ Some old
open-torn old ranges None undo saves opened torn = absurd (false≢true (torn.there refl))
open-torn old ranges (Some file) None saves opened torn = absurd (omega (arith, saves.long))
open-torn old ranges (Some file) (Some undo) saves opened torn =
    recovered-saved old file undo ranges saves opened torn.no_shorter torn.same

-- whatever its gate is, it recovers to the old one or stays as it is
either-torn : (old file : List ℕ) (ranges : List ByteRange) (undo : Option (List ℕ))
    → Saves old ranges (unwrap_or undo []) → Torn (IsOutsideAll ranges) (Some old) (Some file)
    → (recovered (Some file) undo ≡ Some old) ⊎ (recovered (Some file) undo ≡ Some file)
either-torn old file ranges undo saves torn =
    elim (cases_eq (byte_at (unwrap_or undo []) 0) 1) [
      | inl opened ↦ inl (open-torn old ranges (Some file) undo saves opened torn)
      | inr closed ↦ inr (recovered-closed file undo closed)
    ]

-- the file with this name is this one, and the ranges of the old one are saved
abbrev pub IsSaving : (name undo old : List ℕ) → List ByteRange → List ℕ → World → Type 0
IsSaving name undo old ranges file image = (image name ≡ Some file) × Saves old ranges (unwrap_or (image undo) [])

-- the old file is saved, and the gate is open
abbrev pub IsOpened : (name undo old : List ℕ) → List ByteRange → World → Type 0
IsOpened name undo old ranges image =
    IsSaving name undo old ranges old image × (byte_at (unwrap_or (image undo) []) 0 ≡ 1)

recovers-closed : (name undo file : List ℕ) (image : World) → image name ≡ Some file → IsClosed (image undo)
    → RecoversTo name undo file image
recovers-closed name undo file image whole closed =
    ap (λ (f : Option (List ℕ)). recovered f (image undo)) whole ∙ recovered-closed file (image undo) closed.1

-- with its ranges saved it recovers to the old file, or to itself
recovers-saving : (name undo old : List ℕ) (ranges : List ByteRange) (file : List ℕ) (image : World)
    → IsSaving name undo old ranges file image → Torn (IsOutsideAll ranges) (Some old) (Some file)
    → RecoversToEither name undo old file image
recovers-saving name undo old ranges file image saving torn =
    let same : recovered (image name) (image undo) ≡ recovered (Some file) (image undo) =
    ap (λ (f : Option (List ℕ)). recovered f (image undo)) saving.0 in
    ⊎_elim (λ before. inl (same ∙ before)) (λ after. inr (same ∙ after))
    (either-torn old file ranges (image undo) saving.1 torn)

-- one of two files that are one
either-same : (name undo old new : List ℕ) (image : World) → RecoversToEither name undo old old image
    → RecoversToEither name undo old new image
either-same name undo old new image (inl is) = inl is
either-same name undo old new image (inr is) = inl is

-- the byte of a gate that was set
gate-byte : (files new : World) (undo : List ℕ) (gate : ℕ) → new ≡ with_bytes files undo 0 (gate ∷ [])
    → byte_at (unwrap_or (new undo) []) 0 ≡ gate
gate-byte files new undo gate is =
    ap (λ (f : List ℕ). byte_at f 0) (written-bytes files new undo 0 (gate ∷ []) is)
    ∙ get_or-overwritten_inside (unwrap_or (files undo) []) 0 (gate ∷ []) 0 (omega arith)

-- step one, from one image to another
after_save : (name undo file : List ℕ) (before after : World) → name ≢ undo → before name ≡ Some file
    → IsClosed (before undo) → TearsFrom undo 8 before after → (after name ≡ Some file) × IsClosed (after undo)
after_save name undo file before after apart whole closed step =
    (step.1 name apart ∙ whole, closed-torn (λ place. place < 8) (before undo) (after undo) (omega arith) step.0 closed)

-- steps two and four
after_gate : (name undo old : List ℕ) (ranges : List ByteRange) (file : List ℕ) (before after : World) → name ≢ undo
    → IsSaving name undo old ranges file before → TearsRange undo 0 1 before after
    → IsSaving name undo old ranges file after
after_gate name undo old ranges file before after apart saving step = (
  step.1 name apart ∙ saving.0,
  saves-torn (IsOutside 0 1) old ranges (before undo) (after undo) (λ p from. inr (omega (arith, from)))
      step.0 saving.1,
)

-- step three
after_write : (name undo old : List ℕ) (ranges : List ByteRange) (before after : World) → name ≢ undo
    → IsOpened name undo old ranges before → TearsRanges name ranges before after → RecoversTo name undo old after
after_write name undo old ranges before after apart opened step =
    let stays : after undo ≡ before undo = step.1 undo (λ same. apart (sym same)) in
    ap (λ (u : Option (List ℕ)). recovered (after name) u) stays
    ∙ open-torn old ranges (after name) (before undo) opened.0.1 opened.1
    (subst (λ (f : Option (List ℕ)). Torn (IsOutsideAll ranges) f (after name)) opened.0.0 step.0)

-- all the images that a stop at this moment leaves are images now
abbrev pub IsNow : DiskSeen → Type 0
IsNow disk = (image : World) → disk.since disk.moment image → disk.images image

-- what the first step leaves
pub only-save : (name undo old new : List ℕ) (a b : DiskSeen) → name ≢ undo → IsSettled name undo old a → IsNow a
    → a.images a.files → Passes (TearsFrom undo 8) a b → OnlyLeaves (RecoversToEither name undo old new) a b
only-save name undo old new a b apart settled now is passes =
    only_leaves-passes (TearsFrom undo 8) (RecoversToEither name undo old new) a b passes
    (λ image was. inl
    (recovers-closed name undo old image (settled.whole image (now image was)) (settled.closed image (now image was))))
    (λ before after left step.
    let stays =
    after_save name undo old before after apart (settled.whole before left) (settled.closed before left) step in
    inl (recovers-closed name undo old after stays.0 stays.1))
    passes.follows.read
    is

-- what it leaves once it is done
pub each-saved : (name undo old : List ℕ) (ranges : List ByteRange) (a b : DiskSeen) → name ≢ undo
    → IsSettled name undo old a → Passes (TearsFrom undo 8) a b → IsDurable undo b
    → Saves old ranges (unwrap_or (b.files undo) []) → EachImage (IsSaving name undo old ranges old) b
each-saved name undo old ranges a b apart settled passes kept saves image left =
    let from = passes.follows.left image left in (
      from.2.1 name apart ∙ settled.whole from.0 from.1,
      subst (λ (u : Option (List ℕ)). Saves old ranges (unwrap_or u [])) (sym (kept image left)) saves,
    )

-- what a step that sets the gate leaves
pub only-gate : (name undo old : List ℕ) (ranges : List ByteRange) (file : List ℕ) (a b : DiskSeen) → name ≢ undo
    → EachImage (IsSaving name undo old ranges file) a → Torn (IsOutsideAll ranges) (Some old) (Some file) → IsNow a
    → a.images a.files
    → Passes (TearsRange undo 0 1) a b → OnlyLeaves (RecoversToEither name undo old file) a b
only-gate name undo old ranges file a b apart each torn now is passes =
    only_leaves-passes (TearsRange undo 0 1) (RecoversToEither name undo old file) a b passes
    (λ image was. recovers-saving name undo old ranges file image (each image (now image was)) torn)
    (λ before after left step. recovers-saving name undo old ranges file after
    (after_gate name undo old ranges file before after apart (each before left) step) torn)
    passes.follows.read
    is

-- the same of the second step, where the file is the old one
pub only-open : (name undo old new : List ℕ) (ranges : List ByteRange) (a b : DiskSeen) → name ≢ undo
    → EachImage (IsSaving name undo old ranges old) a → IsNow a → a.images a.files → Passes (TearsRange undo 0 1) a b
    → OnlyLeaves (RecoversToEither name undo old new) a b
only-open name undo old new ranges a b apart each now is passes =
    only_leaves-wider (RecoversToEither name undo old old) (RecoversToEither name undo old new) a b
    (either-same name undo old new)
    (only-gate name undo old ranges old a b apart each (torn-same (IsOutsideAll ranges) (Some old)) now is passes)

-- what it leaves once it is done
pub each-opened : (name undo old : List ℕ) (ranges : List ByteRange) (a b : DiskSeen) → name ≢ undo
    → EachImage (IsSaving name undo old ranges old) a → Passes (TearsRange undo 0 1) a b → IsDurable undo b
    → b.files ≡ with_bytes a.files undo 0 (1 ∷ []) → EachImage (IsOpened name undo old ranges) b
each-opened name undo old ranges a b apart each passes kept set image left =
    let from = passes.follows.left image left in (
      after_gate name undo old ranges old from.0 image apart (each from.0 from.1) from.2,
      ap (λ (u : Option (List ℕ)). byte_at (unwrap_or u []) 0) (kept image left) ∙ gate-byte a.files b.files undo 1 set,
    )

-- what the third step leaves
pub only-write : (name undo old new : List ℕ) (ranges : List ByteRange) (a b : DiskSeen) → name ≢ undo
    → EachImage (IsOpened name undo old ranges) a → IsNow a → a.images a.files → Passes (TearsRanges name ranges) a b
    → OnlyLeaves (RecoversToEither name undo old new) a b
only-write name undo old new ranges a b apart each now is passes =
    only_leaves-passes (TearsRanges name ranges) (RecoversToEither name undo old new) a b passes
    (λ image was. either-same name undo old new image
    (recovers-saving name undo old ranges old image (each image (now image was)).0
    (torn-same (IsOutsideAll ranges) (Some old))))
    (λ before after left step. inl (after_write name undo old ranges before after apart (each before left) step))
    passes.follows.read
    is

-- what it leaves once it is done
pub each-written : (name undo old new : List ℕ) (ranges : List ByteRange) (a b : DiskSeen) → name ≢ undo
    → EachImage (IsOpened name undo old ranges) a → Passes (TearsRanges name ranges) a b → IsDurable name b
    → b.files name ≡ Some new → EachImage (IsSaving name undo old ranges new) b
each-written name undo old new ranges a b apart each passes kept written image left =
    let from = passes.follows.left image left in (
      kept image left ∙ written,
      subst (λ (u : Option (List ℕ)). Saves old ranges (unwrap_or u []))
          (sym (from.2.1 undo (λ same. apart (sym same)))) (each from.0 from.1).0.1,
    )

-- the new file is the old one but for the ranges
pub torn-written : (name undo old new : List ℕ) (ranges : List ByteRange) (a b : DiskSeen)
    → EachImage (IsOpened name undo old ranges) a → a.images a.files → Passes (TearsRanges name ranges) a b
    → b.files name ≡ Some new → Torn (IsOutsideAll ranges) (Some old) (Some new)
torn-written name undo old new ranges a b each is passes written =
    subst (λ (f : Option (List ℕ)). Torn (IsOutsideAll ranges) f (Some new)) (each a.files is).0.0
    (subst (λ (f : Option (List ℕ)). Torn (IsOutsideAll ranges) (a.files name) f) written passes.follows.read.0)

-- the fourth step settles the new file
pub settled-closed : (name undo old : List ℕ) (ranges : List ByteRange) (file : List ℕ) (a b : DiskSeen) → name ≢ undo
    → EachImage (IsSaving name undo old ranges file) a → Passes (TearsRange undo 0 1) a b → IsDurable undo b
    → b.files ≡ with_bytes a.files undo 0 (0 ∷ []) → IsSettled name undo file b
settled-closed name undo old ranges file a b apart each passes kept set = record {
  whole = λ image left. (saving image left).0;
  closed = λ image left. (
    (saving image left).1.long,
    λ is. absurd (omega (
      arith,
      is,
      ap (λ (u : Option (List ℕ)). byte_at (unwrap_or u []) 0) (kept image left) ∙ gate-byte a.files b.files undo 0 set,
    )),
  );
}
  where
    saving : (image : World) → b.images image → IsSaving name undo old ranges file image
    saving image left =
        let from = passes.follows.left image left in
        after_gate name undo old ranges file from.0 image apart (each from.0 from.1) from.2

-- what two steps leave
pub only-then : (P : World → Type 0) (a b c : DiskSeen) → OnlyLeaves P a b → OnlyLeaves P b c → OnlyLeaves P a c
only-then P a b c first second =
    only_leaves-wider (λ image. P image ⊎ P image) P a c (λ image either. ⊎_elim (λ has. has) (λ has. has) either)
    (only_leaves-then P P a b c first second)

-- what is read is an image, and a stop now leaves one
pub record IsSound (disk : DiskSeen) : Type 0 where
  pub now : IsNow disk
  pub is : disk.images disk.files

-- the first step is done
pub record IsSaved (name undo : List ℕ) (ranges : List ByteRange) (a b : DiskSeen) : Type 0 where
  pub passes : Passes (TearsFrom undo 8) a b
  pub kept : IsDurable undo b
  pub saves : 1024 ≤ length (unwrap_or (a.files undo) [])
      → Saves (unwrap_or (a.files name) []) ranges (unwrap_or (b.files undo) [])

-- a gate is set
pub record IsSet (undo : List ℕ) (gate : ℕ) (a b : DiskSeen) : Type 0 where
  pub passes : Passes (TearsRange undo 0 1) a b
  pub kept : IsDurable undo b
  pub set : b.files ≡ with_bytes a.files undo 0 (gate ∷ [])

-- the third step is done
pub record IsWritten (name : List ℕ) (ranges : List ByteRange) (a b : DiskSeen) : Type 0 where
  pub passes : Passes (TearsRanges name ranges) a b
  pub kept : IsDurable name b
  pub written : (old : List ℕ) → a.files name ≡ Some old → b.files name ≡ Some (laid ranges old)

module _ {D : Type 0} (seen : D → DiskSeen) (sound : (disk : D) → IsSound (seen disk)) (name undo old : List ℕ)
    (ranges : List ByteRange) (apart : name ≢ undo) (a b : D) (settled : IsSettled name undo old (seen a))
    (one : IsSaved name undo ranges (seen a) (seen b)) where
  -- once the first step is done each image has the old file, with its ranges saved
  saved_old : EachImage (IsSaving name undo old ranges old) (seen b)
  saved_old =
      each-saved name undo old ranges (seen a) (seen b) apart settled one.passes one.kept
      (subst (λ (f : Option (List ℕ)). Saves (unwrap_or f []) ranges (unwrap_or ((seen b).files undo) []))
      (settled.whole (seen a).files (sound a).is) (one.saves (settled.closed (seen a).files (sound a).is).0))

  -- up to a stop of the second step
  pub leaves-two : (c : D) → Passes (TearsRange undo 0 1) (seen b) (seen c)
      → OnlyLeaves (RecoversToEither name undo old (laid ranges old)) (seen a) (seen c)
  leaves-two c passes =
      only-then (RecoversToEither name undo old (laid ranges old)) (seen a) (seen b) (seen c)
      (only-save name undo old (laid ranges old) (seen a) (seen b) apart settled (sound a).now (sound a).is one.passes)
      (only-open name undo old (laid ranges old) ranges (seen b) (seen c) apart saved_old (sound b).now
      (sound b).is passes)

  module _ (c : D) (two : IsSet undo 1 (seen b) (seen c)) where
    -- once the second step is done each image has an open gate besides
    opened : EachImage (IsOpened name undo old ranges) (seen c)
    opened = each-opened name undo old ranges (seen b) (seen c) apart saved_old two.passes two.kept two.set

    -- up to a stop of the third
    pub leaves-three : (d : D) → Passes (TearsRanges name ranges) (seen c) (seen d)
        → OnlyLeaves (RecoversToEither name undo old (laid ranges old)) (seen a) (seen d)
    leaves-three d passes =
        only-then (RecoversToEither name undo old (laid ranges old)) (seen a) (seen c) (seen d)
        (leaves-two c two.passes)
        (only-write name undo old (laid ranges old) ranges (seen c) (seen d) apart opened (sound c).now
        (sound c).is passes)

    module _ (d : D) (three : IsWritten name ranges (seen c) (seen d)) where
      -- once the third step is done the file that is read is the new one
      has_new : (seen d).files name ≡ Some (laid ranges old)
      has_new = three.written old (opened (seen c).files (sound c).is).0.0

      -- and each image has the new file, with the ranges of the old one saved
      written_new : EachImage (IsSaving name undo old ranges (laid ranges old)) (seen d)
      written_new =
          each-written name undo old (laid ranges old) ranges (seen c) (seen d) apart opened three.passes
          three.kept has_new

      -- up to a stop of the fourth
      pub leaves-four : (e : D) → Passes (TearsRange undo 0 1) (seen d) (seen e)
          → OnlyLeaves (RecoversToEither name undo old (laid ranges old)) (seen a) (seen e)
      leaves-four e passes =
          only-then (RecoversToEither name undo old (laid ranges old)) (seen a) (seen d) (seen e)
          (leaves-three d three.passes)
          (only-gate name undo old ranges (laid ranges old) (seen d) (seen e) apart written_new
          (torn-written name undo old (laid ranges old) ranges (seen c) (seen d) opened (sound c).is three.passes
          has_new) (sound d).now (sound d).is passes)

      -- the new file is settled at the end
      pub settled-four : (e : D) → IsSet undo 0 (seen d) (seen e) → IsSettled name undo (laid ranges old) (seen e)
      settled-four e four =
          settled-closed name undo old ranges (laid ranges old) (seen d) (seen e) apart written_new four.passes
          four.kept four.set

-- the old file is one of two
pub either-old : (name undo old new : List ℕ) (a b : DiskSeen) → OnlyLeaves (RecoversTo name undo old) a b
    → OnlyLeaves (RecoversToEither name undo old new) a b
either-old name undo old new a b only =
    only_leaves-wider (RecoversTo name undo old) (RecoversToEither name undo old new) a b (λ image is. inl is) only
