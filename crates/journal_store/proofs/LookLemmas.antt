-- Calls that change nothing that is told.
use Rattle.std.proofs.Common.{◌≡◌, ◌≤◌, inl, inr, ℕ, Bool, ◌||◌, true, false, IsTrue, refl, List, length, Option}
use Rattle.std.proofs.Common.{option_map, sym, ap, ◌∙◌, subst}
use Rattle.std.specs.Str.{bytes_eq}
use Rattle.std.proofs.lemmas.Bool.{cases_Bool, cond-false, false≢true}
use Rattle.outside.specs.Unsynced.{AddsNone, UnsyncedNames}
use Rattle.outside.specs.World.{KeepsOthers, World}
use Rattle.outside.proofs.WorldLemmas.{bytes_eq-true}
use Rattle.outside.proofs.FrameLemmas.{adds_none-then, keeps_others-then}
use Rattle.disk.specs.DiskSeen.{DiskSeen}
use Rattle.edit_journal.specs.Recovered.{RecoversSame, IsRecovered, KeepsOtherThree}
use Rattle.edit_journal.specs.ByteRanges.{ByteRange, laid}
use Rattle.edit_journal.specs.Undo.{recovered}
use Rattle.edit_journal.specs.UndoName.{und_name, undo_name}
use Rattle.edit_journal.proofs.RecoveryCallLemmas.{recovered-unopened}
use Rattle.journal_store.specs.Told.{LooksAtName, Told, are_kept, ranges_for, told, told_files, told_names}
use Rattle.journal_store.specs.Kinds.{is_undo}
use Rattle.journal_store.proofs.KindLemmas.{IsPlain}
use Rattle.journal_store.proofs.NamesLemmas.{adds_none-told, told-names-at}
use Rattle.journal_store.proofs.ToldLemmas.{are_kept-moved, differs, names-others, ranges_for-held, told-plain}
use Rattle.journal_store.proofs.ToldLemmas.{told-recovers}

-- two calls that only look
pub looks-then : {done : Bool} (name : List ℕ) (a b c : Told) → LooksAtName true name a b → LooksAtName done name b c
    → LooksAtName done name a c
looks-then name a b c first second = record {
  files = second.files ∙ first.files;
  unsynced = keeps_others-then name _ _ _ first.unsynced second.unsynced;
  synced = λ done. adds_none-then a.unsynced b.unsynced c.unsynced (first.synced refl) (second.synced done);
}

-- a sync behind a call that only looks
pub looks-synced : {done : Bool} (name held : List ℕ) (spans : List ByteRange) (before : Told) (a b : DiskSeen)
    → LooksAtName true name before (told a held spans) → b.files ≡ a.files → KeepsOthers name a.unsynced b.unsynced
    → (IsTrue done → AddsNone a.unsynced b.unsynced) → LooksAtName done name before (told b held spans)
looks-synced {done} name held spans before a b first same keeps none =
    looks-then name before (told a held spans) (told b held spans) first
    (record {
      files = ap (λ (w : World). told_files w held spans) same;
      unsynced = λ other differ. told-names-at a.unsynced b.unsynced held spans other (keeps other differ);
      synced = λ is. adds_none-told a.unsynced b.unsynced held spans (none is);
    })

-- what is told of the held file, where it is recovered
pub told-ready : (disk : DiskSeen) (held : List ℕ) (spans : List ByteRange) (name : List ℕ) → held ≡ name → IsPlain name
    → disk.images disk.files → IsRecovered name (undo_name name) (disk.files name) disk
    → told_files disk.files held spans name ≡ option_map (laid spans) (disk.files name)
told-ready disk held spans name is plain now recovers =
    told-plain disk.files held spans name plain.undo plain.new
    ∙ ap (λ (h : List ℕ).
    option_map (laid (ranges_for h spans name)) (recovered (disk.files name) (disk.files (undo_name name)))) is
    ∙ ap (λ (l : List ByteRange). option_map (laid l) (recovered (disk.files name) (disk.files (undo_name name))))
    (ranges_for-held name spans)
    ∙ ap (λ (f : Option (List ℕ)). option_map (laid spans) f)
    (recovered-unopened (disk.files name) (disk.files (undo_name name)) (recovers.closed disk.files now))

-- a name that is synced is told unsynced only where ranges are kept for it
or-kept : (kept : Bool) (is : Bool) → is ≡ false → IsTrue (kept || is) → IsTrue kept
or-kept true is synced unsynced = refl
or-kept false is synced unsynced = absurd (false≢true (sym synced ∙ unsynced))

-- a synced name is told unsynced only where it was before
kept-still : (one other : UnsyncedNames) (held new_held : List ℕ) (spans : List ByteRange) (name : List ℕ)
    → is_undo name ≡ false → (1 ≤ length spans → held ≡ new_held) → other name ≡ false
    → IsTrue (told_names other new_held spans name) → IsTrue (told_names one held spans name)
kept-still one other held new_held spans name undo moved synced unsynced =
    let kept : IsTrue (are_kept new_held spans name) =
    or-kept (are_kept new_held spans name) (other name) synced (sym (cond-false _ _ _ undo) ∙ unsynced) in
    let was : are_kept held spans name ≡ true = sym (are_kept-moved held new_held spans name moved) ∙ kept in
    cond-false _ _ _ undo ∙ ap (λ (b : Bool). b || one name) was

-- a recovery, after which another name may be held
pub looks-recovers : (done : Bool) (a b : DiskSeen) (held new_held : List ℕ) (spans : List ByteRange) (name : List ℕ)
    → IsPlain name → (1 ≤ length spans → held ≡ new_held)
    → RecoversSame name (undo_name name) (und_name name) a.files b.files
    → KeepsOtherThree name (undo_name name) (und_name name) a.unsynced b.unsynced
    → (IsTrue done → b.unsynced name ≡ false)
    → LooksAtName done name (told a held spans) (told b new_held spans)
looks-recovers done a b held new_held spans name plain moved step names synced =
    let others = names-others a.unsynced b.unsynced held new_held spans spans name names
    (λ n differ. are_kept-moved held new_held spans n moved) in
    record {
      files = told-recovers a.files b.files held new_held spans name plain moved step;
      unsynced = others;
      synced = λ is other unsynced.
          elim (cases_Bool (bytes_eq name other)) [
            | inl same ↦
                subst (λ (n : List ℕ). IsTrue (told_names a.unsynced held spans n)) (bytes_eq-true name other same)
                (kept-still a.unsynced b.unsynced held new_held spans name plain.undo moved (synced is)
                (subst (λ (n : List ℕ). IsTrue (told_names b.unsynced new_held spans n))
                (sym (bytes_eq-true name other same)) unsynced))
            | inr apart ↦ subst (λ (t : Bool). IsTrue t) (others other (differs name other apart)) unsynced
          ];
    }

-- the same, where the names of the undo file were made
pub looks-taken : (done : Bool) (a b : DiskSeen) (held new_held : List ℕ) (spans : List ByteRange)
    (name undo und : List ℕ) → undo ≡ undo_name name → und ≡ und_name name → IsPlain name
    → (1 ≤ length spans → held ≡ new_held)
    → RecoversSame name undo und a.files b.files → KeepsOtherThree name undo und a.unsynced b.unsynced
    → (IsTrue done → b.unsynced name ≡ false)
    → LooksAtName done name (told a held spans) (told b new_held spans)
looks-taken done a b held new_held spans name undo und is_undo_name is_und_name plain moved step names synced =
    looks-recovers done a b held new_held spans name plain moved
    (subst (λ (u : List ℕ). RecoversSame name u (und_name name) a.files b.files) is_undo_name
    (subst (λ (u : List ℕ). RecoversSame name undo u a.files b.files) is_und_name step))
    (subst (λ (u : List ℕ). KeepsOtherThree name u (und_name name) a.unsynced b.unsynced) is_undo_name
    (subst (λ (u : List ℕ). KeepsOtherThree name undo u a.unsynced b.unsynced) is_und_name names))
    synced

-- a call that was not done
pub looks-less : {done : Bool} (is : Bool) (name : List ℕ) (a b : Told) → is ≡ false → LooksAtName done name a b
    → LooksAtName is name a b
looks-less is name a b undone looks =
    record { files = looks.files; unsynced = looks.unsynced; synced = λ yes. absurd (false≢true (sym undone ∙ yes)) }
