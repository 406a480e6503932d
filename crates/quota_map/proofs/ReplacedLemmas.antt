-- What a file that was replaced leaves of a store.
use Rattle.std.proofs.Common.{◌≡◌, ◌≤◌, ℕ, Bool, true, false, IsTrue, List, Some, None, Result, Ok, Err, OnOk, inl, inr}
use Rattle.std.proofs.Common.{⊎_elim, refl, sym, subst, ◌∙◌}
use Rattle.std.specs.Prelude.{[], ◌∷◌}
use Rattle.std.specs.Result.{is_ok}
use Rattle.outside.specs.Frame.{AreSynced}
use Rattle.outside.specs.ManyCalls.{ReplacesOne, Syncs, replaced_files, replaced_names}
use Rattle.outside.specs.Replacement.{ReplacesOnly, replacement_name}
use Rattle.outside.specs.Seen.{StoreSeen}
use Rattle.outside.specs.World.{World, with_file}
use Rattle.opened_file.specs.declared.replacement.ReplaceFault.{ReplaceFault}
use Rattle.opened_file.specs.declared.replacement.ReplaceFault.TheVariants.{Store, Full, Memory}
use Rattle.outside.proofs.FrameLemmas.{syncs-failed, syncs-none}
use Rattle.outside.proofs.UnsyncedLemmas.{replaced-adds_none, replaced-changed}
use Rattle.outside.proofs.WorldLemmas.{KeepsOthers-with_file}
use Rattle.quota_map.specs.Replacing.{CommitsReplaced, IsReplaceFileFault, UnlessStore}

-- what was written for it has been synced
pub replaced-synced : (name : List ℕ) (old new : StoreSeen) → new.unsynced ≡ replaced_names old.unsynced name
    → ReplacesOne name old new → AreSynced old new
replaced-synced name old new is leaves = record {
  none = replaced-adds_none old.unsynced new.unsynced name is;
  changed = replaced-changed old.unsynced new.unsynced old.files new.files name is leaves.files;
}

-- where it was not replaced the store failed, or nothing was written
pub replaced-refused : (old new : StoreSeen) (needed limit : ℕ) (fault : ReplaceFault) → old.faults ≤ new.faults
    → IsReplaceFileFault old.faults new.faults needed limit fault
    → UnlessStore fault (new ≡ old) → Syncs false old new
replaced-refused old new needed limit Store later cause same = syncs-failed old new later cause.0
replaced-refused old new needed limit (Full blocks most) later cause same =
    subst (λ (s : StoreSeen). Syncs false old s) (sym same) (syncs-none old)
replaced-refused old new needed limit Memory later cause same =
    subst (λ (s : StoreSeen). Syncs false old s) (sym same) (syncs-none old)

-- all other files stay where one is replaced, but the one that the new file was written under
pub replaced-only : (old : World) (name bytes : List ℕ) → ReplacesOnly name old (replaced_files old name bytes)
replaced-only old name bytes other differ differs =
    KeepsOthers-with_file (with_file old (replacement_name name) None) name (Some bytes) other differ
    ∙ KeepsOthers-with_file old (replacement_name name) None other differs

-- What is committed along a replacement.

-- what holds where there is a value, of one that is there
pub on_ok_done : {T E P : Type 0} (result : Result T E) → OnOk result P → IsTrue (is_ok result) → P
on_ok_done (Ok value) holds done = holds
on_ok_done (Err fault) holds done = absurd (cc)

-- behind calls that changed no file, and with what follows from what holds of the new file
pub replaced_since : (done : Bool) (name : List ℕ) (stands wider : List ℕ → Type 0) (old between new : World)
    (commits wide : List World → Type 0) → between ≡ old
    → ((worlds : List World) → commits worlds → wide worlds) → ((bytes : List ℕ) → stands bytes → wider bytes)
    → CommitsReplaced done name stands between new commits → CommitsReplaced done name wider old new wide
replaced_since done name stands wider old between new commits wide same more follows committed =
    subst (λ (first : World). CommitsReplaced done name wider first new wide) same
    (⊎_elim
    (λ none. inl (more [] none))
    (λ once. inr (record {
      bytes = once.bytes;
      stands_so = follows once.bytes once.stands_so;
      commits_it = more (replaced_files between name once.bytes ∷ []) once.commits_it;
      told = once.told;
    }))
    committed)

-- before calls that changed no file, whether or not they were done
pub replaced_until : (done : Bool) (name : List ℕ) (stands : List ℕ → Type 0) (old between new : World)
    (commits wide : List World → Type 0) → new ≡ between
    → ((worlds : List World) → commits worlds → wide worlds) → CommitsReplaced true name stands old between commits
    → CommitsReplaced done name stands old new wide
replaced_until done name stands old between new commits wide same more committed =
    ⊎_elim
    (λ none. inl (more [] none))
    (λ once. inr (record {
      bytes = once.bytes;
      stands_so = once.stands_so;
      commits_it = more (replaced_files old name once.bytes ∷ []) once.commits_it;
      told = λ so. same ∙ once.told refl;
    }))
    committed
