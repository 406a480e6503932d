-- What the making of a new undo file leaves.
use Rattle.std.proofs.Common.{◌≡◌, ◌≢◌, ◌⊎◌, inl, inr, ⊎_elim, ℕ, ◌+◌, List, [], ◌++◌, length, replicate, Option, Some}
use Rattle.std.proofs.Common.{None, unwrap_or, refl, sym, ap, ◌∙◌, arith, append-nil}
use Rattle.std.specs.Option.{option_map_or}
use Rattle.std.proofs.lemmas.List.{drop_all}
use Rattle.outside.specs.World.{World, overwritten, with_bytes, with_file, with_new_name}
use Rattle.outside.proofs.FrameLemmas.{keeps_other_two-then}
use Rattle.outside.proofs.WorldLemmas.{with_file-at, with_new_name-others}
use Rattle.disk.specs.DiskSeen.{ChangesNothing, DiskSeen, DiskFollows, IsDurable, Passes, TakesStep}
use Rattle.disk.specs.DiskCalls.{ChangesFile, CutShort, CutsShort, IsOutside, IsRenamed, MayBeRenamed, TearsRange, Torn}
use Rattle.disk.proofs.StopLemmas.{passes-nothing, passes-step, passes-then, passes-wider}
use Rattle.edit_journal.specs.Recovery.{ClosesGate, IsSame}
use Rattle.edit_journal.specs.Settled.{MakesUndo}
use Rattle.edit_journal.proofs.ReadLemmas.{looks-wider}

-- bytes that are written into an empty file
overwritten-empty : (bytes : List ℕ) → overwritten [] 0 bytes ≡ bytes
overwritten-empty bytes =
    ap (λ (l : List ℕ). bytes ++ l) (drop_all (0 + length bytes) [] (omega arith)) ∙ append-nil bytes

-- a file that was made and written
made-written : (files made written : World) (name bytes : List ℕ) → made ≡ with_file files name (Some [])
    → written ≡ with_bytes made name 0 bytes → written name ≡ Some bytes
made-written files made written name bytes create write =
    ap (λ (f : World). f name) write
    ∙ with_file-at made name (Some (overwritten (unwrap_or (made name) []) 0 bytes))
    ∙ ap (λ (f : Option (List ℕ)). Some (overwritten (unwrap_or f []) 0 bytes))
    (ap (λ (f : World). f name) create ∙ with_file-at files name (Some []))
    ∙ ap (λ (l : List ℕ). Some l) (overwritten-empty bytes)

-- the file that got another name
pub new_name-to : (files : World) (from to bytes : List ℕ) → files from ≡ Some bytes
    → with_new_name files from to to ≡ Some bytes
new_name-to files from to bytes is =
    ap (λ (f : Option (List ℕ)).
    option_map_or (λ (b : List ℕ). with_file (with_file files from None) to (Some b)) f files to) is
    ∙ with_file-at (with_file files from None) to (Some bytes)

module _ (und undo : List ℕ) (apart : und ≢ undo) where
  -- a change of the file under its first name
  makes-one : (Changes : Option (List ℕ) → Option (List ℕ) → Type 0) (old new : World) → ChangesFile Changes und old new
      → MakesUndo und undo old new
  makes-one Changes old new step =
      (λ other differ differs. step.1 other differ, inl (step.1 undo (λ same. apart (sym same))))

  makes-same : (files : World) → MakesUndo und undo files files
  makes-same files = (λ other differ differs. refl, inl refl)

  -- two steps, each of which leaves the undo file or makes it
  makes-undo : (old mid new : World) → (mid undo ≡ old undo) ⊎ (mid undo ≡ Some (replicate 1024 0))
      → (new undo ≡ mid undo) ⊎ (new undo ≡ Some (replicate 1024 0))
      → (new undo ≡ old undo) ⊎ (new undo ≡ Some (replicate 1024 0))
  makes-undo old mid new first (inr made) = inr made
  makes-undo old mid new (inl was) (inl same) = inl (same ∙ was)
  makes-undo old mid new (inr made) (inl same) = inr (same ∙ made)

  makes-then : (old mid new : World) → MakesUndo und undo old mid → MakesUndo und undo mid new
      → MakesUndo und undo old new
  makes-then old mid new first second =
      (keeps_other_two-then und undo old mid new first.0 second.0, makes-undo old mid new first.1 second.1)

  -- a new file that takes its name, or does not
  makes-renamed : (old new : World) → old und ≡ Some (replicate 1024 0) → MayBeRenamed und undo old new
      → MakesUndo und undo old new
  makes-renamed old new is (inl same) =
      (λ other differ differs. ap (λ (f : World). f other) same, inl (ap (λ (f : World). f undo) same))
  makes-renamed old new is (inr done) = (
    λ other differ differs. ap (λ (f : World). f other) done ∙ with_new_name-others old und undo other differ differs,
    inr (ap (λ (f : World). f undo) done ∙ new_name-to old und undo (replicate 1024 0) is),
  )

  -- a call that changes the file under its first name
  pub makes-call : (Changes : Option (List ℕ) → Option (List ℕ) → Type 0) (a b : DiskSeen)
      → TakesStep (ChangesFile Changes und) a b → Passes (MakesUndo und undo) a b
  makes-call Changes a b takes =
      passes-wider (ChangesFile Changes und) (MakesUndo und undo) a b (makes-one Changes)
      (passes-step (ChangesFile Changes und) a b takes)

  pub makes-nothing : (a b : DiskSeen) → ChangesNothing a b → Passes (MakesUndo und undo) a b
  makes-nothing a b nothing = passes-nothing (MakesUndo und undo) a b makes-same nothing

  pub makes-more : (a b c : DiskSeen) → Passes (MakesUndo und undo) a b → Passes (MakesUndo und undo) b c
      → Passes (MakesUndo und undo) a c
  makes-more a b c first second = passes-then (MakesUndo und undo) a b c makes-then first second

  -- the new file takes its name
  makes-name : (a b : DiskSeen) → IsDurable und a → a.files und ≡ Some (replicate 1024 0)
      → TakesStep (MayBeRenamed und undo) a b → Passes (MakesUndo und undo) a b
  makes-name a b kept is takes = record {
    follows = record { left = by; read = makes-renamed a.files b.files is takes.follows.read };
    later = takes.elapses.later;
    known = λ moment image early was.
        ⊎_elim (λ before. inl before) (λ left. inr (by image left)) ((takes.elapses.known moment image early).0 was);
  }
    where
      by : (image : World) → b.images image → (before : World) × a.images before × MakesUndo und undo before image
      by image left =
          let from = takes.follows.left image left in
          (from.0, from.1, makes-renamed from.0 image (kept from.0 from.1 ∙ is) from.2)

  -- a new file was made, written and synced under its first name
  module _ (a b c d : DiskSeen) (made : TakesStep (CutsShort und 0) a b)
      (written : TakesStep (TearsRange und 0 1024) b c) (synced : ChangesNothing c d) where
    pub makes-written : Passes (MakesUndo und undo) a c
    makes-written =
        makes-more a b c (makes-call (CutShort 0) a b made) (makes-call (Torn (IsOutside 0 1024)) b c written)

    pub makes-synced : Passes (MakesUndo und undo) a d
    makes-synced = makes-more a c d makes-written (makes-nothing c d synced)

    -- it has its bytes then
    pub is_made : b.files ≡ with_file a.files und (Some []) → c.files ≡ with_bytes b.files und 0 (replicate 1024 0)
        → d.files und ≡ Some (replicate 1024 0)
    is_made make write =
        ap (λ (f : World). f und) synced.files ∙ made-written a.files b.files c.files und (replicate 1024 0) make write

    -- and then it takes its name, or not
    pub makes-named : (e : DiskSeen) → IsDurable und d → d.files und ≡ Some (replicate 1024 0)
        → TakesStep (MayBeRenamed und undo) d e → Passes (MakesUndo und undo) a e
    makes-named e kept is takes = makes-more a d e makes-synced (makes-name d e kept is takes)

  -- it is there then
  pub named-made : (a b : DiskSeen) → a.files und ≡ Some (replicate 1024 0) → b.files ≡ with_new_name a.files und undo
      → b.files undo ≡ Some (replicate 1024 0)
  named-made a b is named = ap (λ (f : World). f undo) named ∙ new_name-to a.files und undo (replicate 1024 0) is

  -- and it is kept
  pub named-kept : (a b : DiskSeen) → IsDurable und a → a.files und ≡ Some (replicate 1024 0)
      → DiskFollows (IsRenamed und undo) a b → b.files undo ≡ Some (replicate 1024 0) → IsDurable undo b
  named-kept a b kept is done made image left =
      let from = done.left image left in
      ap (λ (f : World). f undo) from.2
      ∙ new_name-to from.0 und undo (replicate 1024 0) (kept from.0 from.1 ∙ is) ∙ sym made

  -- a new undo file closes the gate of the old one, once that was read
  pub closes-made : (a b c : DiskSeen) → Passes IsSame a b → Passes (MakesUndo und undo) b c
      → Passes (ClosesGate und undo) a c
  closes-made a b c looks makes =
      passes-wider (MakesUndo und undo) (ClosesGate und undo) a c (λ old new step. inl step)
      (makes-more a b c (looks-wider (MakesUndo und undo) a b makes-same looks) makes)
