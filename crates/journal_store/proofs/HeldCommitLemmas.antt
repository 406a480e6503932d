-- A commit of the held file.
use Rattle.std.proofs.Common.{◌≡◌, ◌≢◌, inl, inr, ⊎_elim, ℕ, true, false, IsSome, OnOk, Result, refl, List, [], Option}
use Rattle.std.proofs.Common.{Some, None, option_map, unwrap_or, sym, ap, ◌∙◌, subst}
use Rattle.std.specs.Str.{bytes_eq}
use Rattle.std.proofs.lemmas.Bool.{cases_Bool, false≢true}
use Rattle.outside.specs.Unsynced.{AddsNone, UnsyncedNames, with_name}
use Rattle.outside.specs.World.{KeepsOthers}
use Rattle.outside.proofs.WorldLemmas.{bytes_eq-true}
use Rattle.disk.specs.DiskSeen.{DiskSeen, OnlyLeaves, Passes}
use Rattle.disk.proofs.StopLemmas.{only_leaves-wider}
use Rattle.edit_journal.specs.Settled.{CanCommit, IsSettled, RecoversToEither}
use Rattle.edit_journal.specs.Recovered.{IsRecovered, KeepsOtherThree}
use Rattle.edit_journal.specs.ByteRanges.{ByteRange, laid}
use Rattle.edit_journal.specs.Undo.{recovered}
use Rattle.edit_journal.specs.UndoName.{und_name, undo_name}
use Rattle.edit_journal.proofs.RecoveryCallLemmas.{recovered-unopened}
use Rattle.journal_store.specs.Calls.{CommitsFile}
use Rattle.journal_store.specs.JournalStore.{RecoversAsBeforeOr}
use Rattle.journal_store.specs.Told.{LooksAtName, ranges_for, told, told_files, told_names}
use Rattle.journal_store.proofs.CommitsLemmas.{commits_synced}
use Rattle.journal_store.proofs.HeldLemmas.{Stands}
use Rattle.journal_store.proofs.LaidTwiceLemmas.{laid-either}
use Rattle.journal_store.proofs.LookLemmas.{told-ready}
use Rattle.journal_store.proofs.NamesLemmas.{are_kept-none, are_kept-other, names-told, names-with}
use Rattle.journal_store.proofs.ReadyLemmas.{recovered-there}
use Rattle.journal_store.proofs.ToldAfterChangeLemmas.{shown-closed}
use Rattle.journal_store.proofs.ToldLemmas.{differs, names-others, ranges_for-held, ranges_for-none, ranges_for-other}
use Rattle.journal_store.proofs.ToldLemmas.{told-others, told-plain, world-same}

-- The held file, which is there, is committed, whether that was done or not.
pub record IsCommitting (held name undo und : List ℕ) (spans : List ByteRange) (a c : DiskSeen) : Type 0 where
  pub it : Stands a held name
  pub there : IsSome (a.files name)
  pub leaves : (old : List ℕ) → CanCommit name undo old a
      → OnlyLeaves (RecoversToEither name undo old (laid spans old)) a c
  pub others : Passes (KeepsOtherThree name undo und) a c
  pub names : KeepsOtherThree name undo und a.unsynced c.unsynced

-- the same, where the names and the ranges were handed over
pub commits-by : (held name undo und : List ℕ) (spans new_spans : List ByteRange) (a c : DiskSeen)
    → undo ≡ undo_name name → und ≡ und_name name → new_spans ≡ spans
    → Stands a held name → IsSome (a.files held)
    → ((old : List ℕ) → CanCommit name undo old a
    → OnlyLeaves (RecoversToEither name undo old (laid new_spans old)) a c)
    → Passes (KeepsOtherThree name undo und) a c → KeepsOtherThree name undo und a.unsynced c.unsynced
    → IsCommitting held name (undo_name name) (und_name name) spans a c
commits-by held name undo und spans new_spans a c is_undo is_und same it there leaves others names =
    subst (λ (u : List ℕ). IsCommitting held name u (und_name name) spans a c) is_undo
    (subst (λ (u : List ℕ). IsCommitting held name undo u spans a c) is_und
    (subst (λ (l : List ByteRange). IsCommitting held name undo und l a c) same
    (record {
      it = it;
      there = subst (λ (n : List ℕ). IsSome (a.files n)) it.is there;
      leaves = leaves;
      others = others;
      names = names;
    })))

-- and the file that it settles
pub settles-by : (name undo : List ℕ) (spans new_spans : List ByteRange) (a c : DiskSeen) → undo ≡ undo_name name
    → new_spans ≡ spans → ((old : List ℕ) → CanCommit name undo old a → IsSettled name undo (laid new_spans old) c)
    → (old : List ℕ) → CanCommit name (undo_name name) old a → IsSettled name (undo_name name) (laid spans old) c
settles-by name undo spans new_spans a c is_undo same settles =
    subst (λ (u : List ℕ). (old : List ℕ) → CanCommit name u old a → IsSettled name u (laid spans old) c) is_undo
    (subst (λ (l : List ByteRange).
    (old : List ℕ) → CanCommit name undo old a → IsSettled name undo (laid l old) c) same settles)

-- a name that is synced, where all others are as they were
adds_none-but : (one other : UnsyncedNames) (name : List ℕ) → KeepsOthers name one other → other name ≡ false
    → AddsNone one other
adds_none-but one other name keeps synced n is =
    elim (cases_Bool (bytes_eq name n)) [
      | inl same ↦ absurd (false≢true (sym synced ∙ ap other (bytes_eq-true name n same) ∙ is))
      | inr apart ↦ sym (keeps n (differs name n apart)) ∙ is
    ]

-- a file that is there is its bytes
some-is : (file : Option (List ℕ)) → IsSome file → file ≡ Some (unwrap_or file [])
some-is (Some file) there = refl
some-is None there = absurd (false≢true there)

-- a file that recovers to one of two is there
there-either : (name undo old new : List ℕ) (image : List ℕ → Option (List ℕ))
    → RecoversToEither name undo old new image → IsSome (image name)
there-either name undo old new image either =
    ⊎_elim
    (λ is. recovered-there (Some old) None (image name) (image undo) is refl)
    (λ is. recovered-there (Some new) None (image name) (image undo) is refl) either

module _ (held name : List ℕ) (spans : List ByteRange) (a c : DiskSeen)
    (commits : IsCommitting held name (undo_name name) (und_name name) spans a c) where
  it : Stands a held name
  it = commits.it

  there : a.files name ≡ Some (unwrap_or (a.files name) [])
  there = some-is (a.files name) commits.there

  -- the commit can start, and leaves one of two files
  can : CanCommit name (undo_name name) (unwrap_or (a.files name) []) a
  can = subst (λ (f : Option (List ℕ)). IsRecovered name (undo_name name) f a) there it.ready

  only : OnlyLeaves
      (RecoversToEither name (undo_name name) (unwrap_or (a.files name) []) (laid spans (unwrap_or (a.files name) [])))
      a c
  only = commits.leaves (unwrap_or (a.files name) []) can

  -- what was told of the file
  told-old : told_files a.files held spans name ≡ Some (laid spans (unwrap_or (a.files name) []))
  told-old =
      told-ready a held spans name it.is it.plain it.now it.ready
      ∙ ap (λ (f : Option (List ℕ)). option_map (laid spans) f) there

  -- where it was refused
  told-refused : told_files c.files held spans ≡ told_files a.files held spans
  told-refused =
      world-same (told_files a.files held spans) (told_files c.files held spans) name
      (told-others a.files c.files held held spans spans name it.plain commits.others.follows.read (λ n differ. refl))
      (
      told-plain c.files held spans name it.plain.undo it.plain.new
      ∙ ap (λ (h : List ℕ).
      option_map (laid (ranges_for h spans name)) (recovered (c.files name) (c.files (undo_name name)))) it.is
      ∙ ap (λ (l : List ByteRange). option_map (laid l) (recovered (c.files name) (c.files (undo_name name))))
      (ranges_for-held name spans)
      ∙ laid-either spans (unwrap_or (a.files name) []) (recovered (c.files name) (c.files (undo_name name))) only.read
      ∙ sym told-old
      )

  pub looks-refused : LooksAtName false name (told a held spans) (told c held spans)
  looks-refused = record {
    files = told-refused;
    unsynced = names-others a.unsynced c.unsynced held held spans spans name commits.names (λ n differ. refl);
    synced = λ is. absurd (false≢true is);
  }

  pub there-refused : IsSome (c.files name)
  there-refused =
      there-either name (undo_name name) (unwrap_or (a.files name) []) (laid spans (unwrap_or (a.files name) []))
      c.files only.read

  -- what a stop leaves
  stops-held : OnlyLeaves (RecoversAsBeforeOr name (undo_name name) a (told_files a.files held spans name)) a c
  stops-held =
      only_leaves-wider
      (RecoversToEither name (undo_name name) (unwrap_or (a.files name) []) (laid spans (unwrap_or (a.files name) [])))
      (RecoversAsBeforeOr name (undo_name name) a (told_files a.files held spans name)) a c
      (λ image either. ⊎_elim
      (λ was. inl (
        a.files,
        it.now,
        was ∙ sym there
            ∙ sym (recovered-unopened (a.files name) (a.files (undo_name name)) (it.ready.closed a.files it.now)),
      ))
      (λ new. inr (new ∙ sym told-old)) either) only

  -- what each moment leaves
  pub moments-held : {T E : Type 0} (result : Result T E)
      → OnOk result (IsRecovered name (undo_name name) (told_files a.files held spans name) c)
      → CommitsFile name (told_files a.files held spans) a c result
  moments-held result done = record {
    stops = stops-held;
    others = commits.others;
    done = done;
    commits = commits_synced (told_files a.files held spans) name (told_files a.files held spans name) it.kind refl a c
        stops-held commits.others;
  }

  module _ (settles : (old : List ℕ) → CanCommit name (undo_name name) old a
      → IsSettled name (undo_name name) (laid spans old) c) (now : c.images c.files) (synced : c.unsynced name ≡ false)
      (new_spans : List ByteRange) (none : new_spans ≡ []) where
    -- where it was done
    settled : IsSettled name (undo_name name) (laid spans (unwrap_or (a.files name) [])) c
    settled = settles (unwrap_or (a.files name) []) can

    apart : (n : List ℕ) → n ≢ name → n ≢ held
    apart n differ same = differ (same ∙ it.is)

    keeps : KeepsOthers name (told_names a.unsynced held spans) (told_names c.unsynced held new_spans)
    keeps =
        subst (λ (l : List ByteRange).
        KeepsOthers name (told_names a.unsynced held spans) (told_names c.unsynced held l)) (sym none)
        (names-others a.unsynced c.unsynced held held spans [] name commits.names
        (λ n differ. are_kept-none held n ∙ sym (are_kept-other held spans n (apart n differ))))

    is_synced : told_names c.unsynced held new_spans name ≡ false
    is_synced =
        ap (λ (l : List ByteRange). told_names c.unsynced held l name) none
        ∙ names-told c.unsynced held [] name it.plain.undo (are_kept-none held name) ∙ synced

    told-committed : told_files c.files held [] ≡ told_files a.files held spans
    told-committed =
        world-same (told_files a.files held spans) (told_files c.files held []) name
        (told-others a.files c.files held held spans [] name it.plain commits.others.follows.read
        (λ n differ. ranges_for-none held n ∙ sym (ranges_for-other held spans n (apart n differ))))
        (shown-closed c.files held name it.plain (settled.closed c.files now).1
        ∙ settled.whole c.files now ∙ sym told-old)

    -- where it was done
    pub looks-committed : LooksAtName true name (told a held spans) (told c held new_spans)
    looks-committed = record {
      files = ap (λ (l : List ByteRange). told_files c.files held l) none ∙ told-committed;
      unsynced = keeps;
      synced = λ is.
          adds_none-but (told_names a.unsynced held spans) (told_names c.unsynced held new_spans) name keeps is_synced;
    }

    pub unsynced-committed : told_names c.unsynced held new_spans
        ≡ with_name (told_names a.unsynced held spans) name false
    unsynced-committed =
        names-with (told_names a.unsynced held spans) (told_names c.unsynced held new_spans) name false keeps is_synced

    pub ready-committed : IsRecovered name (undo_name name) (c.files name) c
    ready-committed = record {
      whole = λ image left. settled.whole image left ∙ sym (settled.whole c.files now);
      closed = λ image left. (settled.closed image left).1;
      room = λ long image left. (settled.closed image left).0;
    }

    pub recovered-committed : IsRecovered name (undo_name name) (told_files a.files held spans name) c
    recovered-committed =
        subst (λ (f : Option (List ℕ)). IsRecovered name (undo_name name) f c)
        (settled.whole c.files now ∙ sym told-old) ready-committed
