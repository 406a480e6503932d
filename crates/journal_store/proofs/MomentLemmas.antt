-- What each moment of a call leaves, where one call of a disk follows another.
use Rattle.std.proofs.Common.{◌≡◌, inl, inr, ⊎_elim, ℕ, false, List, [], ◌∷◌, Option, OnOk, Result, refl, sym, ◌∙◌}
use Rattle.std.proofs.Common.{subst, arith}
use Rattle.std.proofs.lemmas.Bool.{false≢true}
use Rattle.outside.specs.Unsynced.{UnsyncedNames}
use Rattle.outside.specs.World.{KeepsOthers, World, with_new_name}
use Rattle.outside.proofs.FrameLemmas.{keeps_others-then}
use Rattle.disk.specs.DiskSeen.{ChangesNothing, DiskFollows, DiskSeen, OnlyLeaves, Passes, TakesStep}
use Rattle.disk.specs.DiskCalls.{ChangesFile, IsRenamed, MayBeRenamed}
use Rattle.disk.proofs.StopLemmas.{only_leaves-wider, passes-none, passes-nothing, passes-step, passes-then}
use Rattle.disk.proofs.StopLemmas.{passes-wider}
use Rattle.edit_journal.specs.Recovery.{IsSame}
use Rattle.edit_journal.specs.Recovered.{IsRecovered, KeepsOtherThree, RecoversSame}
use Rattle.edit_journal.specs.Undo.{recovered}
use Rattle.edit_journal.specs.UndoName.{und_name, undo_name}
use Rattle.edit_journal.proofs.CommitStopLemmas.{only-then}
use Rattle.edit_journal.proofs.NameLemmas.{und-own, undo-own}
use Rattle.edit_journal.proofs.ReadLemmas.{looks-wider}
use Rattle.edit_journal.proofs.RecoveryCallLemmas.{as_before, on_ok-then, recovers-then}
use Rattle.journal_store.specs.Calls.{CommitsFile, CommitsNothing, MakesFile, RecoversFile, ReplacesFile, SyncsFile}
use Rattle.journal_store.specs.Commits.{Commits, nothing_commits}
use Rattle.journal_store.specs.JournalStore.{RecoversAsBeforeOr}
use Rattle.journal_store.specs.Kinds.{kind_of}
use Rattle.journal_store.specs.Replaced.{HasClosedGate, MayReplaceRecovered, ReplacesRecovered}
use Rattle.journal_store.specs.declared.kinds.NameKind.TheVariants.{New, Plain}
use Rattle.journal_store.proofs.CommitsLemmas.{commits_any, commits_before, commits_new, commits_recovered}
use Rattle.journal_store.proofs.CommitsLemmas.{commits_same}
use Rattle.journal_store.proofs.KindLemmas.{is_new_name, is_plain, new-plain}

-- a recovery, where the names of the undo file were made
pub recovers-taken : {T E : Type 0} (result : Result T E) (name undo und : List ℕ) (a b : DiskSeen)
    → undo ≡ undo_name name → und ≡ und_name name → kind_of name ≡ Plain → Passes (RecoversSame name undo und) a b
    → OnOk result (IsRecovered name undo (recovered (a.files name) (a.files undo)) b) → RecoversFile name a b result
recovers-taken result name undo und a b is_undo is_und plain passes done =
    let stops : Passes (RecoversSame name (undo_name name) (und_name name)) a b =
    subst (λ (u : List ℕ). Passes (RecoversSame name u (und_name name)) a b) is_undo
    (subst (λ (u : List ℕ). Passes (RecoversSame name undo u) a b) is_und passes) in
    record {
      stops = stops;
      done = subst
          (λ (u : List ℕ). OnOk result (IsRecovered name u (recovered (a.files name) (a.files u)) b)) is_undo done;
      commits = commits_recovered name plain a b stops;
    }

module _ (name : List ℕ) where
  -- no change recovers to the same
  same-files : (files : World) → RecoversSame name (undo_name name) (und_name name) files files
  same-files files = (refl, λ other one_differs two_differs three_differs. refl)

  -- nor does a recovery
  pub nothing-recovered : {T E : Type 0} (result : Result T E) (a b : DiskSeen) → kind_of name ≡ Plain
      → RecoversFile name a b result → CommitsNothing name a b
  nothing-recovered result a b plain recovers = record {
    stops = λ is. recovers.stops;
    alone = λ new. absurd (new-plain name new plain);
    commits = recovers.commits;
  }

  module _ (a b c : DiskSeen) (first : CommitsNothing name a b) where
    -- nor do calls that only look behind one that commits nothing
    pub nothing-looked : Passes IsSame b c → CommitsNothing name a c
    nothing-looked looks = record {
      stops = λ plain.
          recovers-then name (undo_name name) (und_name name) (undo-own name) (und-own name) a b c (first.stops plain)
          (looks-wider (RecoversSame name (undo_name name) (und_name name)) b c same-files looks);
      alone = λ new. passes-then (KeepsOthers name) a b c (λ x y z one two. keeps_others-then name x y z one two)
          (first.alone new) (looks-wider (KeepsOthers name) b c (λ files other differ. refl) looks);
      commits = commits_before [] a b c first.commits (commits_same b c looks);
    }

    pub nothing-still : ChangesNothing b c → CommitsNothing name a c
    nothing-still still = nothing-looked (passes-nothing IsSame b c (λ files. refl) still)

    -- nor does a change of a file with a new name
    pub nothing-changed : (Changes : Option (List ℕ) → Option (List ℕ) → Type 0) → kind_of name ≡ New
        → TakesStep (ChangesFile Changes name) b c → CommitsNothing name a c
    nothing-changed Changes new takes = record {
      stops = λ plain. absurd (new-plain name new plain);
      alone = λ is.
          passes-then (KeepsOthers name) a b c (λ x y z one two. keeps_others-then name x y z one two) (first.alone is)
          (passes-wider (ChangesFile Changes name) (KeepsOthers name) b c (λ x y step. step.1)
          (passes-step (ChangesFile Changes name) b c takes));
      commits = commits_before [] a b c first.commits (commits_new Changes name (is_new_name name new) b c takes);
    }

  -- all other files stay along a recovery
  others-stay : (a b : DiskSeen) → Passes (RecoversSame name (undo_name name) (und_name name)) a b
      → Passes (KeepsOtherThree name (undo_name name) (und_name name)) a b
  others-stay a b passes =
      passes-wider (RecoversSame name (undo_name name) (und_name name))
      (KeepsOtherThree name (undo_name name) (und_name name)) a b (λ x y step. step.1) passes

  -- and along what follows
  others-then : (a b c : DiskSeen) → Passes (RecoversSame name (undo_name name) (und_name name)) a b
      → Passes (KeepsOtherThree name (undo_name name) (und_name name)) b c
      → Passes (KeepsOtherThree name (undo_name name) (und_name name)) a c
  others-then a b c first second =
      passes-then (KeepsOtherThree name (undo_name name) (und_name name)) a b c
      (λ x y z one two other one_differs two_differs three_differs.
      two other one_differs two_differs three_differs ∙ one other one_differs two_differs three_differs)
      (others-stay a b first) second

  module _ {T E : Type 0} (result : Result T E) (a b : DiskSeen) (first : CommitsNothing name a b) where
    module _ (told : World) (is : a.images a.files)
        (now : (image : World) → a.since a.moment image → a.images image) where
      -- what is left recovers as before
      stops-recovered : kind_of name ≡ Plain → OnlyLeaves (RecoversAsBeforeOr name (undo_name name) a (told name)) a b
      stops-recovered plain =
          only_leaves-wider _ (RecoversAsBeforeOr name (undo_name name) a (told name)) a b (λ image before. inl before)
          (as_before name (undo_name name) (und_name name) a b is now (first.stops plain))

      -- what commits nothing commits a file, where it is recovered and is this one
      commits-nothing : kind_of name ≡ Plain → OnOk result (IsRecovered name (undo_name name) (told name) b)
          → CommitsFile name told a b result
      commits-nothing plain done = record {
        stops = stops-recovered plain;
        others = others-stay a b (first.stops plain);
        done = done;
        commits = commits_any (told ∷ []) a b first.commits;
      }

      -- so it syncs it
      pub syncs-nothing : (kind_of name ≡ Plain → OnOk result (IsRecovered name (undo_name name) (told name) b))
          → SyncsFile name told a b result
      syncs-nothing done = record {
        plain = λ plain. commits-nothing plain (done plain);
        alone = first.alone;
        commits = commits_any (told ∷ []) a b first.commits;
        beside = λ new. first.commits;
      }

      -- a commit behind a call that commits nothing, and tells the same files
      pub syncs-commits : {F G : Type 0} (other : Result F G) (c : DiskSeen) (new_told : World) → kind_of name ≡ Plain
          → new_told ≡ told → CommitsFile name new_told b c other
          → OnOk result (IsRecovered name (undo_name name) (new_told name) c) → SyncsFile name told a c result
      syncs-commits other c new_told plain same commits done =
          let behind : CommitsFile name told b c other =
          subst (λ (w : World). CommitsFile name w b c other) same commits in
          let both : CommitsFile name told a c result =
          record {
            stops = only-then (RecoversAsBeforeOr name (undo_name name) a (told name)) a b c (stops-recovered plain)
                (only_leaves-wider (RecoversAsBeforeOr name (undo_name name) b (told name))
                (RecoversAsBeforeOr name (undo_name name) a (told name)) b c
                (λ image either. ⊎_elim
                (λ before. let from = (first.stops plain).follows.left before.0 before.1 in inl (
                  from.0,
                  from.1,
                  before.2 ∙ from.2.0,
                ))
                (λ new. inr new) either) behind.stops);
            others = others-then a b c (first.stops plain) behind.others;
            done = subst (λ (w : World). OnOk result (IsRecovered name (undo_name name) (w name) c)) same done;
            commits = commits_before (told ∷ []) a b c first.commits behind.commits;
          } in
          record {
            plain = λ is. both;
            alone = λ new. absurd (new-plain name new plain);
            commits = both.commits;
            beside = λ new. absurd (false≢true (sym (is_plain name plain).new ∙ new));
          }

    -- a file that is made where nothing is committed
    pub makes-nothing : OnOk result (kind_of name ≡ Plain → HasClosedGate name b) → MakesFile name a b result
    makes-nothing closed = record {
      others = λ plain. others-stay a b (first.stops plain);
      alone = first.alone;
      closed = closed;
      commits = λ new. first.commits;
    }

    -- one with a plain name
    pub makes-plain : (Changes : Option (List ℕ) → Option (List ℕ) → Type 0) (c : DiskSeen) → kind_of name ≡ Plain
        → TakesStep (ChangesFile Changes name) b c → OnOk result (kind_of name ≡ Plain → HasClosedGate name c)
        → MakesFile name a c result
    makes-plain Changes c plain takes closed = record {
      others = λ is.
          others-then a b c (first.stops plain)
          (passes-wider (ChangesFile Changes name) (KeepsOtherThree name (undo_name name) (und_name name)) b c
          (λ x y step other one_differs two_differs three_differs. step.1 other one_differs)
          (passes-step (ChangesFile Changes name) b c takes));
      alone = λ new. absurd (new-plain name new plain);
      closed = closed;
      commits = λ new. absurd (false≢true (sym (is_plain name plain).new ∙ new));
    }

module _ {T E : Type 0} (result : Result T E) (from to : List ℕ) (names : UnsyncedNames) (files : World) where
  -- no file is replaced, since the call was refused before, and touched nothing
  pub replaces-still : (disk : DiskSeen) → OnOk result (DiskFollows (ReplacesRecovered from to) disk disk)
      → OnOk result (HasClosedGate to disk) → ReplacesFile from to names files disk disk result
  replaces-still disk done closed = record {
    stops = passes-none (MayReplaceRecovered from to) disk (λ world. (world, same-files to world, inl refl));
    done = done;
    closed = closed;
    commits = λ synced. nothing_commits (with_new_name files from to ∷ []) disk;
  }

  module _ (a b : DiskSeen) (first : CommitsNothing to a b) (plain : kind_of to ≡ Plain) where
    -- or behind a recovery
    pub replaces-nothing : OnOk result (DiskFollows (ReplacesRecovered from to) a b) → OnOk result (HasClosedGate to b)
        → ReplacesFile from to names files a b result
    replaces-nothing done closed = record {
      stops = passes-wider (RecoversSame to (undo_name to) (und_name to)) (MayReplaceRecovered from to) a b
          (λ old new step. (new, step, inl refl)) (first.stops plain);
      done = done;
      closed = closed;
      commits = λ synced. commits_any (with_new_name files from to ∷ []) a b first.commits;
    }

    -- a recovery, and then a file gets the name of another one, or may get it
    pub replaces-renamed : (c : DiskSeen) → TakesStep (MayBeRenamed from to) b c
        → OnOk result (DiskFollows (IsRenamed from to) b c) → OnOk result (HasClosedGate to c)
        → (names from ≡ false → Commits (with_new_name files from to ∷ []) b c)
        → ReplacesFile from to names files a c result
    replaces-renamed c takes done closed commits =
        let recovers = first.stops plain in
        let renames = passes-step (MayBeRenamed from to) b c takes in
        record {
          stops = record {
            follows = record {
              left = λ image is. let last = renames.follows.left image is in
                  let start = recovers.follows.left last.0 last.1 in (start.0, start.1, (last.0, start.2, last.2));
              read = (b.files, recovers.follows.read, renames.follows.read);
            };
            later = omega (arith, recovers.later, renames.later);
            known = λ moment image early was.
                ⊎_elim
                (λ before. ⊎_elim (λ earlier. inl earlier) (λ by. inr (by.0, by.1, (image, by.2, inl refl)))
                (recovers.known moment image early before))
                (λ by. let start = recovers.follows.left by.0 by.1 in inr (start.0, start.1, (by.0, start.2, by.2)))
                (renames.known moment image (omega (arith, early, recovers.later)) was);
          };
          done = on_ok-then result done (λ is. record {
            left = λ image now. let last = is.left image now in let start = recovers.follows.left last.0 last.1 in
                (start.0, start.1, (last.0, start.2, last.2));
            read = (b.files, recovers.follows.read, is.read);
          });
          closed = closed;
          commits = λ synced. commits_before (with_new_name files from to ∷ []) a b c first.commits (commits synced);
        }
