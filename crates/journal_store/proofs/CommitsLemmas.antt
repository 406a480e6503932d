-- What one call of a journal puts where a stop of the machine leaves it.
use Rattle.std.proofs.Common.{◌≡◌, ◌≢◌, inl, inr, ⊎_elim, ℕ, List, [], ◌∷◌, Option, Some, None, unwrap_or, sym, ap, ◌∙◌}
use Rattle.std.proofs.Common.{subst}
use Rattle.std.specs.Str.{bytes_eq}
use Rattle.std.proofs.lemmas.Bool.{cases_Bool}
use Rattle.outside.specs.World.{World, with_new_name}
use Rattle.outside.proofs.WorldLemmas.{bytes_eq-true, with_new_name-absent, with_new_name-others}
use Rattle.disk.specs.DiskSeen.{DiskSeen, EachImage, IsDurable, OnlyLeaves, Passes, TakesStep}
use Rattle.disk.specs.DiskCalls.{ChangesFile, MayBeRenamed}
use Rattle.disk.proofs.StopLemmas.{passes-step}
use Rattle.quota_types.specs.Bytes.{byte_at}
use Rattle.edit_journal.specs.Recovery.{IsSame}
use Rattle.edit_journal.specs.Recovered.{RecoversSame, KeepsOtherThree}
use Rattle.edit_journal.specs.Undo.{recovered}
use Rattle.edit_journal.specs.UndoName.{und_name, undo_name}
use Rattle.edit_journal.proofs.MakeLemmas.{new_name-to}
use Rattle.edit_journal.proofs.NameLemmas.{und-undo, undo-injective}
use Rattle.edit_journal.proofs.RecoveryResultLemmas.{recovered-closed}
use Rattle.journal_store.specs.Commits.{Commits, RecoversOr, commits_then, nothing_commits}
use Rattle.journal_store.specs.JournalStore.{RecoversAsBeforeOr}
use Rattle.journal_store.specs.Kinds.{kind_of}
use Rattle.journal_store.specs.declared.kinds.NameKind.TheVariants.{Plain}
use Rattle.journal_store.proofs.KindLemmas.{IsNew, IsPlain, is_plain, new-apart, und-apart, undo-apart}
use Rattle.journal_store.proofs.ToldLemmas.{differs}

-- a recovery makes the same of a file in both worlds
abbrev RecoversAlike : List ℕ → World → World → Type 0
RecoversAlike name old new = recovered (new name) (new (undo_name name)) ≡ recovered (old name) (old (undo_name name))

alike-same : (name : List ℕ) (old new : World) → new name ≡ old name → new (undo_name name) ≡ old (undo_name name)
    → RecoversAlike name old new
alike-same name old new file undo =
    ap (λ (f : Option (List ℕ)). recovered f (new (undo_name name))) file
    ∙ ap (λ (u : Option (List ℕ)). recovered (old name) u) undo

-- another plain name
alike-other : (name other : List ℕ) → IsPlain name → IsPlain other → other ≢ name → (old new : World)
    → KeepsOtherThree name (undo_name name) (und_name name) old new → RecoversAlike other old new
alike-other name other plain is differ old new keeps =
    alike-same other old new
    (keeps other differ (undo-apart other name is.undo) (und-apart other name is.undo))
    (keeps (undo_name other) (λ same. undo-apart name other plain.undo (sym same))
    (λ same. differ (undo-injective other name same)) (λ same. und-undo name other (sym same)))

-- each plain name, where the file of one is recovered
alike-recovered : (name : List ℕ) → IsPlain name → (old new : World)
    → RecoversSame name (undo_name name) (und_name name) old new → (other : List ℕ) → kind_of other ≡ Plain
    → RecoversAlike other old new
alike-recovered name plain old new same other is =
    elim (cases_Bool (bytes_eq name other)) [
      | inl e ↦ subst (λ (n : List ℕ). RecoversAlike n old new) (bytes_eq-true name other e) same.0
      | inr e ↦ alike-other name other plain (is_plain other is) (differs name other e) old new same.1
    ]

-- a step by which a recovery makes the same of each plain name puts nothing there
pub commits_alike : (step : World → World → Type 0) (a b : DiskSeen)
    → ((old new : World) → step old new → (name : List ℕ) → kind_of name ≡ Plain → RecoversAlike name old new)
    → Passes step a b → Commits [] a b
commits_alike step a b alike passes = record {
  later = passes.later;
  left = λ name plain image is.
      let from = passes.follows.left image is in inl (from.0, from.1, alike from.0 image from.2 name plain);
  known = λ moment image early was.
      ⊎_elim (λ before. inl before) (λ by. inr (λ name plain. inl (by.0, by.1, alike by.0 image by.2 name plain)))
      (passes.known moment image early was);
}

-- nor does a recovery
pub commits_recovered : (name : List ℕ) → kind_of name ≡ Plain → (a b : DiskSeen)
    → Passes (RecoversSame name (undo_name name) (und_name name)) a b → Commits [] a b
commits_recovered name plain a b passes =
    commits_alike (RecoversSame name (undo_name name) (und_name name)) a b
    (λ old new step other is. alike-recovered name (is_plain name plain) old new step other is) passes

-- nor does a call that changes nothing
pub commits_same : (a b : DiskSeen) → Passes IsSame a b → Commits [] a b
commits_same a b passes =
    commits_alike IsSame a b
    (λ old new same name plain.
    alike-same name old new (ap (λ (w : World). w name) same) (ap (λ (w : World). w (undo_name name)) same)) passes

-- nor does a change of a file whose name is new
pub commits_new : (Changes : Option (List ℕ) → Option (List ℕ) → Type 0) (name : List ℕ) → IsNew name → (a b : DiskSeen)
    → TakesStep (ChangesFile Changes name) a b → Commits [] a b
commits_new Changes name new a b takes =
    commits_alike (ChangesFile Changes name) a b
    (λ old now step other is.
    alike-same other old now
    (step.1 other (λ same. new-apart other name (is_plain other is).new new.new (sym same)))
    (step.1 (undo_name other) (λ same. undo-apart name other new.undo (sym same))))
    (passes-step (ChangesFile Changes name) a b takes)

-- a commit puts one file there, as it is in this world
pub commits_synced : (world : World) (name : List ℕ) (file : Option (List ℕ)) → kind_of name ≡ Plain → world name ≡ file
    → (a b : DiskSeen)
    → OnlyLeaves (RecoversAsBeforeOr name (undo_name name) a file) a b
    → Passes (KeepsOtherThree name (undo_name name) (und_name name)) a b → Commits (world ∷ []) a b
commits_synced world name file plain told a b only passes = record {
  later = passes.later;
  left = λ other is image now.
      let from = passes.follows.left image now in
      each other is image (only.left image now) (from.0, from.1, from.2);
  known = λ moment image early was.
      ⊎_elim
      (λ before. inl before)
      (λ by. ⊎_elim (λ before. inl before) (λ has. inr (λ other is. each other is image has by))
      (only.known moment image early was))
      (passes.known moment image early was);
}
  where
    each : (other : List ℕ) → kind_of other ≡ Plain → (image : World)
        → RecoversAsBeforeOr name (undo_name name) a file image
        → (before : World) × a.images before × KeepsOtherThree name (undo_name name) (und_name name) before image
        → RecoversOr (world ∷ []) a other image
    each other is image has from =
        elim (cases_Bool (bytes_eq name other)) [
          | inl e ↦ subst (λ (n : List ℕ). RecoversOr (world ∷ []) a n image) (bytes_eq-true name other e)
              (⊎_elim (λ before. inl before) (λ new. inr (inl (new ∙ sym told))) has)
          | inr e ↦ inl (
            from.0,
            from.1,
            alike-other name other (is_plain name plain) (is_plain other is) (differs name other e) from.0 image from.2,
          )
        ]

-- what was put there, and then nothing
pub commits_before : (worlds : List World) (a b c : DiskSeen) → Commits [] a b → Commits worlds b c → Commits worlds a c
commits_before worlds a b c none some = commits_then [] worlds a b c none some

-- what put nothing there put there no more than any worlds
pub commits_any : (worlds : List World) (a b : DiskSeen) → Commits [] a b → Commits worlds a b
commits_any worlds a b none = commits_then [] worlds a b b none (nothing_commits worlds b)

module _ (from to : List ℕ) (new : IsNew from) (plain : IsPlain to) where
  -- a rename leaves each plain name but the new one
  alike-renamed : (old now : World) → now ≡ with_new_name old from to → (other : List ℕ) → kind_of other ≡ Plain
      → other ≢ to → RecoversAlike other old now
  alike-renamed old now is other other_plain differ =
      let others = with_new_name-others old from to in
      alike-same other old now
      (ap (λ (w : World). w other) is
      ∙ others other (λ same. new-apart other from (is_plain other other_plain).new new.new (sym same)) differ)
      (ap (λ (w : World). w (undo_name other)) is
      ∙ others (undo_name other) (λ same. undo-apart from other new.undo (sym same))
      (λ same. undo-apart to other plain.undo (sym same)))

  -- what is left of a plain name by a rename from a file that each image has as this world has it
  left-renamed : (world : World) (file : Option (List ℕ)) (disk : DiskSeen) → world from ≡ file
      → EachImage (λ image. image from ≡ file) disk
      → EachImage (λ image. byte_at (unwrap_or (image (undo_name to)) []) 0 ≢ 1) disk
      → (other : List ℕ) → kind_of other ≡ Plain → (old now : World) → disk.images old → MayBeRenamed from to old now
      → RecoversOr (with_new_name world from to ∷ []) disk other now
  left-renamed world file disk told kept closed other is old now was (inl same) =
      inl (
        old,
        was,
        alike-same other old now (ap (λ (w : World). w other) same) (ap (λ (w : World). w (undo_name other)) same),
      )
  left-renamed world None disk told kept closed other is old now was (inr renamed) =
      let same : now ≡ old = renamed ∙ with_new_name-absent old from to (kept old was) in
      inl (
        old,
        was,
        alike-same other old now (ap (λ (w : World). w other) same) (ap (λ (w : World). w (undo_name other)) same),
      )
  left-renamed world (Some bytes) disk told kept closed other is old now was (inr renamed) =
      elim (cases_Bool (bytes_eq to other)) [
        | inl e ↦
            subst (λ (n : List ℕ). RecoversOr (with_new_name world from to ∷ []) disk n now) (bytes_eq-true to other e)
            (inr (inl (
            ap (λ (f : Option (List ℕ)). recovered f (now (undo_name to)))
            (ap (λ (w : World). w to) renamed ∙ new_name-to old from to bytes (kept old was))
            ∙ ap (λ (u : Option (List ℕ)). recovered (Some bytes) u)
            (ap (λ (w : World). w (undo_name to)) renamed
            ∙ with_new_name-others old from to (undo_name to) (λ same. undo-apart from to new.undo (sym same))
            (λ same. undo-apart to to plain.undo (sym same)))
            ∙ recovered-closed bytes (old (undo_name to)) (closed old was)
            ∙ sym (new_name-to world from to bytes told))))
        | inr e ↦ inl (old, was, alike-renamed old now renamed other is (differs to other e))
      ]

  -- a rename from a file that is kept puts the files of the new name there
  pub commits_renamed : (world : World) (a b : DiskSeen) → world from ≡ a.files from → IsDurable from a
      → EachImage (λ image. byte_at (unwrap_or (image (undo_name to)) []) 0 ≢ 1) a
      → TakesStep (MayBeRenamed from to) a b → Commits (with_new_name world from to ∷ []) a b
  commits_renamed world a b told kept closed takes = record {
    later = takes.elapses.later;
    left = λ other is image now.
        let from_image = takes.follows.left image now in
        left-renamed world (a.files from) a told kept closed other is from_image.0 image from_image.1 from_image.2;
    known = λ moment image early was.
        ⊎_elim
        (λ before. inl before)
        (λ now. inr (λ other is. let from_image = takes.follows.left image now in
        left-renamed world (a.files from) a told kept closed other is from_image.0 image from_image.1 from_image.2))
        ((takes.elapses.known moment image early).0 was);
  }
