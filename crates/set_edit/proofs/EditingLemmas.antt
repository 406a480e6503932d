-- An edit of an opened file: after a lookup, and from one change of the file.
use Rattle.std.proofs.Common.{◌≡◌, ◌≤◌, ◌+◌, ℕ, Bool, true, false, IsTrue, IfOk, Some, Result, Ok, Err, is_ok, inl}
use Rattle.std.proofs.Common.{refl, sym, ap, subst, ◌∙◌, arith}
use Rattle.std.proofs.lemmas.Bool.{false≢true}
use Rattle.std.proofs.lemmas.Result.{IfErr-weaker}
use Rattle.quota_types.specs.declared.field.Field.{Field}
use Rattle.quota_types.specs.declared.field.NoRoom.{NoRoom}
use Rattle.opened_file.specs.Changes.{Changes, FileAt, FileLaws, IsDone, LacksRoomFor}
use Rattle.opened_file.specs.FileChange.{FileChange, Remove}
use Rattle.opened_file.specs.ValueEdits.{edit_by}
use Rattle.outside.specs.Frame.{OnlyReads}
use Rattle.outside.specs.ManyCalls.{Syncs}
use Rattle.opened_file.specs.LooksUp.{LooksUp}
use Rattle.opened_file.specs.QuotaFile.{CountsRefusal, IfFull, IsChangeFault, IsLookupFault, UnlessStoreFailed}
use Rattle.opened_file.specs.QuotaFile.{WantsNoMemory}
use Rattle.opened_file.specs.FileSeen.{FileSeen}
use Rattle.quota_value.specs.QuotaValue.{QuotaValue}
use Rattle.outside.specs.World.{World}
use Rattle.opened_file.specs.declared.quota_file.FileFault.{FileFault}
use Rattle.opened_file.specs.declared.quota_file.FileFault.TheVariants.{Store, Damage, Full, Memory}
use Rattle.outside.proofs.FrameLemmas.{are_synced, only_reads-then, syncs-all, syncs-read}
use Rattle.opened_file.proofs.EditsOneLemmas.{edits_one-read}
use Rattle.opened_file.proofs.SyncedLemmas.{syncs-refused}
use Rattle.opened_file.proofs.LookupLemmas.{IsLookedUp, IsSameAt, edits_value-after, is_answer-itself}
use Rattle.set_edit.specs.declared.edit_fault.EditFault.{EditFault}
use Rattle.set_edit.specs.declared.edit_fault.EditFault.TheVariants.{File, NoRoom as Unfit}
use Rattle.set_edit.specs.EditFault.{IfNoRoom, file_fault}
use Rattle.set_edit.specs.Editing.{Edit}
use Rattle.set_edit.specs.EditCalls.{Edits, LacksField, ReadsOnce, value_edit}

-- At the values that a file holds two edits are one; and whatever the store tells, the second may lack room only for
-- what the first may.
pub record IsSameEditAt (edit next : Edit) (at : FileAt) : Type 0 where
  pub value : IsSameAt (value_edit edit) (value_edit next) at
  pub id : edit.id ≡ next.id
  pub may : (out : Field × ℕ) → next.may_lack at.seen.format out → edit.may_lack at.seen.format out

lacks-after : (edit next : Edit) (old mid new : FileAt) → IsLookedUp old mid → IsSameEditAt edit next old
    → (fault : EditFault)
    → IfNoRoom fault (LacksField next mid new) → IfNoRoom fault (LacksField edit old new)
lacks-after edit next old mid new up same (File fault) lacks = tt
lacks-after edit next old mid new up same (Unfit out) lacks = record {
  refused = λ value holds. same.value.edited value holds ∙ lacks.refused value (up.stays value holds);
  may = same.may (out.field, out.value)
      (subst (λ (seen : FileSeen). next.may_lack seen.format (out.field, out.value)) up.same lacks.may);
  id = lacks.id ∙ sym same.id;
  stays = λ value holds. lacks.stays value (up.stays value holds);
  unwritten = only_reads-then old.seen.name old.store mid.store new.store up.leaves
      (subst (λ (seen : FileSeen). OnlyReads false seen.name mid.store new.store) up.same lacks.unwritten);
  same = lacks.same ∙ up.same;
}

-- an edit after a lookup, which tells that another edit is the one that is wanted of what the file holds
pub edits-after : {T : Type 0} (edit next : Edit) (laws : FileLaws) (old mid new : FileAt) (result : Result T EditFault)
    → Edits next laws mid new result → IsLookedUp old mid → IsSameEditAt edit next old → Edits edit laws old new result
edits-after edit next laws old mid new result edits up same = record {
  value = edits_value-after file_fault file_fault (value_edit edit) (value_edit next) laws old mid new result result
      (is_answer-itself file_fault result) up same.value edits.value;
  no_room = IfErr-weaker result _ _ (lacks-after edit next old mid new up same) edits.no_room;
}

-- what an edit answers that is one change of the file
abbrev pub edit_answer : {T : Type 0} → T → Result (Unit {0}) FileFault → Result T EditFault
edit_answer told (Ok done) = Ok told
edit_answer told (Err fault) = Err (File fault)

-- an edit that is one change of the file, after a lookup
pub edits-changed : {T : Type 0} (edit : Edit) (change : FileChange) (laws : FileLaws) (old mid new : FileAt) (told : T)
    (result : Result (Unit {0}) FileFault)
    → Changes change laws mid new result → IsLookedUp old mid → IsSameAt (value_edit edit) (edit_by change) old
    → Edits edit laws old new (edit_answer told result)
edits-changed edit change laws old mid new told (Ok done) changes up same = record {
  value = edits_value-after Some file_fault (value_edit edit) (edit_by change) laws old mid new (Ok done) (Ok told) tt
      up same changes.edits;
  no_room = tt;
}
edits-changed edit change laws old mid new told (Err fault) changes up same = record {
  value = edits_value-after Some file_fault (value_edit edit) (edit_by change) laws old mid new (Err fault)
      (Err (File fault)) refl up same changes.edits;
  no_room = tt;
}

-- what holds of all holds of the one that was answered
IfOk-all : {A E : Type 0} (result : Result A E) (P : A → Type 0) → ((a : A) → P a) → IfOk result P
IfOk-all (Ok a) P all = all a
IfOk-all (Err e) P all = tt

-- an edit of a value for which the format has no room
pub edits-unfit : {T : Type 0} (edit : Edit) (laws : FileLaws) (old new : FileAt) (out : NoRoom)
    → LacksField edit old new out → Edits {T = T} edit laws old new (Err (Unfit out))
edits-unfit edit laws old new out lacks = record {
  value = record {
    done = tt;
    refused = tt;
    idle = λ value holds idle. lacks.unwritten;
    full = λ needs value blocks limit holds. IfOk-all (edit.edited value) _ (λ edited is. lacks.unwritten);
    leaves = edits_one-read old.seen.name old.store new.store lacks.unwritten;
    writes = (Remove edit.id, omega (arith, lacks.unwritten.writes));
  };
  no_room = lacks;
}

-- an edit that was done since nothing was to be done
pub edits-idle : {T : Type 0} (edit : Edit) (laws : FileLaws) (old new : FileAt) (told : T)
    → IsDone (value_edit edit) laws old new → OnlyReads true old.seen.name old.store new.store
    → Edits edit laws old new (Ok told)
edits-idle edit laws old new told done read = record {
  value = record {
    done = done;
    refused = tt;
    idle = λ value holds idle. read;
    full = λ needs value blocks limit holds. IfOk-all (edit.edited value) _ (λ edited is. read);
    leaves = edits_one-read old.seen.name old.store new.store read;
    writes = (Remove edit.id, omega (arith, read.writes));
  };
  no_room = tt;
}

-- an edit before which a lookup was refused
pub edits-unlooked : {T U : Type 0} (edit : Edit) (laws : FileLaws) (old new : FileAt) (most : ℕ) (fault : FileFault)
    → LooksUp {T = U} Some laws old new most (Err fault)
    → Edits {T = T} edit laws old new (Err (File fault))
edits-unlooked edit laws old new most fault looked = record {
  value = record {
    done = tt;
    refused = record {
      cause = lookup_cause old.store.faults new.store.faults old.holds (LacksRoomFor (value_edit edit) laws old)
          fault looked.refused;
      may = looked.may;
      passes = lookup_never_full old.store.faults new.store.faults old.holds _ fault looked.refused;
      busy = lookup_busy old.store.faults new.store.faults old.holds _ fault looked.refused;
      counted =
          subst (λ (still : Bool). CountsRefusal still old.seen new.seen) (sym looked.counted.usable) looked.counted;
      usable = λ other. looked.counted.usable;
      stays = λ usable. looked.stays;
      unwritten = λ usable. looked.leaves;
      fits = λ ended. absurd (false≢true (sym ended ∙ looked.counted.usable));
      left = λ ended. absurd (false≢true (sym ended ∙ looked.counted.usable));
      between = λ told. inl (ap (λ (files : World). files old.seen.name) looked.leaves.files);
    };
    idle = λ value holds idle. looked.leaves;
    full = λ needs value blocks limit holds. IfOk-all (edit.edited value) _ (λ edited lacks. looked.leaves);
    leaves = edits_one-read old.seen.name old.store new.store looked.leaves;
    writes = (Remove edit.id, omega (arith, looked.leaves.writes));
  };
  no_room = tt;
}
  where
    lookup_cause : (before now : ℕ) (holds : QuotaValue → Type 0) (lacks : ℕ → ℕ → Type 0) (fault : FileFault)
        → IsLookupFault before now holds fault → IsChangeFault before now holds lacks fault
    lookup_cause before now holds lacks Store cause = cause
    lookup_cause before now holds lacks (Damage at) cause = cause
    lookup_cause before now holds lacks (Full blocks limit) cause = absurd cause
    lookup_cause before now holds lacks Memory cause = absurd cause

    lookup_never_full : (before now : ℕ) (holds : QuotaValue → Type 0) (P : ℕ → ℕ → Type 0) (fault : FileFault)
        → IsLookupFault before now holds fault → IfFull fault P
    lookup_never_full before now holds P Store cause = tt
    lookup_never_full before now holds P (Damage at) cause = tt
    lookup_never_full before now holds P (Full blocks limit) cause = absurd cause
    lookup_never_full before now holds P Memory cause = tt

    lookup_busy : (before now : ℕ) (holds : QuotaValue → Type 0) (P : QuotaValue → Type 0) (fault : FileFault)
        → IsLookupFault before now holds fault
        → UnlessStoreFailed fault ((value : QuotaValue) → holds value → P value)
    lookup_busy before now holds P Store cause = tt
    lookup_busy before now holds P (Damage at) cause = λ value held. absurd (cause value held)
    lookup_busy before now holds P (Full blocks limit) cause = absurd cause
    lookup_busy before now holds P Memory cause = absurd cause

-- a look-up, and then a change
pub reads_once : (look : ℕ) (most : FileSeen → FileChange → ℕ) (change : FileChange) (old mid : FileSeen)
    (before middle now : ℕ) → mid ≡ old → middle ≤ before + look → now ≤ middle + most mid change
    → ReadsOnce look (most old) before now
reads_once look most change old mid before middle now same first second =
    let then = subst (λ (s : FileSeen). now ≤ middle + most s change) same second in
    record { change = change; few = omega (arith, first, then) }

-- a look-up, and no change
pub reads_looked : (look : ℕ) (most : FileChange → ℕ) (before now : ℕ) → now ≤ before + look
    → ReadsOnce look most before now
reads_looked look most before now few = record { change = Remove 0; few = omega (arith, few) }

-- what an edit wrote has been synced: it was done, the store failed, or nothing was written
pub edits-syncs : {T : Type 0} (edit : Edit) (laws : FileLaws) (old new : FileAt) (result : Result T EditFault)
    → Edits edit laws old new result → IsTrue laws.tells → Syncs (is_ok result) old.store new.store
edits-syncs edit laws old new (Ok done) edits told =
    syncs-all old.store new.store edits.value.leaves.later
    (are_synced old.seen.name old.store new.store (edits.value.done.synced told))
edits-syncs edit laws old new (Err (File fault)) edits told =
    syncs-refused (value_edit edit) laws old new fault edits.value.leaves edits.value.refused
edits-syncs edit laws old new (Err (Unfit out)) edits told =
    syncs-read old.seen.name old.store new.store edits.no_room.unwritten

-- a look-up is not refused for lack of memory
pub look_wants : (before now : ℕ) (holds : QuotaValue → Type 0) (fault : FileFault)
    → IsLookupFault before now holds fault → WantsNoMemory fault
look_wants before now holds Store cause = tt
look_wants before now holds (Damage damage) cause = tt
look_wants before now holds (Full blocks limit) cause = absurd cause
look_wants before now holds Memory cause = absurd cause
