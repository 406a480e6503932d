-- What is said of a change of an opened file, from what was done for it.
use Rattle.std.proofs.Common.{◌≡◌, ℕ, ◌+◌, ◌<◌, ◌≤◌, ◌⊎◌, Bool, true, false, IsTrue, List, Option, Some, None, Result}
use Rattle.std.proofs.Common.{Ok, Err, inl, inr, refl, sym, ap, subst, ◌∙◌, arith}
use Rattle.std.specs.Prelude.{IsSomeAnd}
use Rattle.std.proofs.lemmas.Bool.{false≢true}
use Rattle.opened_file.specs.Changes.{Changes, FileAt, FileLaws, IsRefused, LacksRoom, LacksRoomFor, StandsForEdited}
use Rattle.outside.specs.Count.{Rose}
use Rattle.opened_file.specs.FileChange.{FileChange, changed_value}
use Rattle.opened_file.specs.ValueEdits.{IsLeft, edit_by, has_nothing_to_do, may_lack_room}
use Rattle.opened_file.specs.EditsOne.{EditsOne}
use Rattle.outside.specs.Frame.{OnlyReads}
use Rattle.outside.specs.ManyCalls.{IsSynced}
use Rattle.opened_file.specs.QuotaFile.{CountsRefusal, IfFull, IsChangeFault, UnlessStoreFailed, is_store_fault}
use Rattle.quota_value.specs.QuotaValue.{QuotaValue}
use Rattle.outside.specs.World.{World}
use Rattle.opened_file.specs.declared.quota_file.FileFault.{FileFault}
use Rattle.opened_file.specs.declared.quota_file.FileFault.TheVariants.{Store, Damage, Full, Memory}
use Rattle.outside.proofs.FrameLemmas.{is_synced-read}
use Rattle.opened_file.proofs.EditsOneLemmas.{edits_one-read}

-- a fact that always holds
pub unless_store-always : (fault : FileFault) (P : Type 0) → P → UnlessStoreFailed fault P
unless_store-always Store P fact = tt
unless_store-always (Damage at) P fact = fact
unless_store-always (Full blocks limit) P fact = fact
unless_store-always Memory P fact = fact

-- How many calls a change made: no more than it may.
pub record IsBounded (change : FileChange) (laws : FileLaws) (old new : FileAt) : Type 0 where
  pub reads : new.store.reads ≤ old.store.reads + laws.change_reads old.seen change
  pub writes : new.store.writes ≤ old.store.writes + laws.change_writes old.seen change

-- There was something to do at each value that the file holds, and there was room for what it becomes.
pub record IsWanted (change : FileChange) (laws : FileLaws) (old : FileAt) : Type 0 where
  pub busy : (value : QuotaValue) → old.holds value → has_nothing_to_do change value ≡ false
  pub room : IsTrue (may_lack_room change) → (value : QuotaValue) (blocks limit : ℕ) → old.holds value
      → ¬ (LacksRoom laws old change (changed_value change value) blocks limit)

-- nothing was to be done, and nothing was
pub changes-idle : (change : FileChange) (laws : FileLaws) (old new : FileAt) (told : Unit {0})
    → ((value : QuotaValue) → old.holds value → has_nothing_to_do change value ≡ true)
    → ((value : QuotaValue) → old.holds value → new.holds (changed_value change value))
    → OnlyReads true old.seen.name old.store new.store → new.seen ≡ old.seen
    → IsBounded change laws old new → Changes change laws old new (Ok told)
changes-idle change laws old new told idle set read same bounded = record {
  edits = record {
    done = record {
      set = set;
      makes = λ value holds busy. absurd (false≢true (sym busy ∙ idle value holds));
      room = λ needs value blocks limit holds busy. absurd (false≢true (sym busy ∙ idle value holds));
      synced = λ tells. is_synced-read old.seen.name old.store new.store read;
      writes = λ value holds. omega (arith, read.writes);
      same = same;
    };
    refused = tt;
    idle = λ value holds is. read;
    full = λ needs value blocks limit holds lacks. read;
    leaves = edits_one-read old.seen.name old.store new.store read;
    writes = (change, bounded.writes);
  };
  ends = tt;
  torn = tt;
  reads = bounded.reads;
  writes = bounded.writes;
}

-- it was done
pub changes-done : (change : FileChange) (laws : FileLaws) (old new : FileAt) (told : Unit {0})
    → IsWanted change laws old
    → ((value : QuotaValue) → old.holds value → new.holds (changed_value change value))
    → ((value : QuotaValue) → old.holds value
    → laws.makes old.seen change old.seen.name old.store.files new.store.files)
    → ((value : QuotaValue) → old.holds value
    → new.store.writes ≤ old.store.writes + laws.done_writes old.seen value change)
    → (IsTrue laws.tells → IsSynced old.seen.name old.store new.store) → new.seen ≡ old.seen
    → EditsOne old.seen.name old.store new.store
    → IsBounded change laws old new → Changes change laws old new (Ok told)
changes-done change laws old new told wanted set makes writes synced same leaves bounded = record {
  edits = record {
    done = record {
      set = set;
      makes = λ value holds busy. makes value holds;
      room = λ needs value blocks limit holds busy. wanted.room needs value blocks limit holds;
      synced = synced;
      writes = writes;
      same = same;
    };
    refused = tt;
    idle = λ value holds is. absurd (false≢true (sym (wanted.busy value holds) ∙ is));
    full = λ needs value blocks limit holds lacks. absurd (wanted.room needs value blocks limit holds lacks);
    leaves = leaves;
    writes = (change, bounded.writes);
  };
  ends = tt;
  torn = tt;
  reads = bounded.reads;
  writes = bounded.writes;
}

-- it was refused by a fault that isn't one of the store, before anything was written
pub changes-refused : (change : FileChange) (laws : FileLaws) (old new : FileAt) (fault : FileFault)
    → is_store_fault fault ≡ false
    → IsChangeFault old.store.faults new.store.faults old.holds (LacksRoomFor (edit_by change) laws old) fault
    → laws.may_refuse old.seen.format fault
    → IfFull fault (λ blocks limit. (limit ≡ old.seen.limit) × (limit < blocks))
    → ((value : QuotaValue) → old.holds value → has_nothing_to_do change value ≡ false)
    → CountsRefusal true old.seen new.seen
    → ((value : QuotaValue) → old.holds value → new.holds value)
    → OnlyReads false old.seen.name old.store new.store
    → IsBounded change laws old new → Changes change laws old new (Err fault)
changes-refused change laws old new fault other cause may passes busy counted stays read bounded = record {
  edits = record {
    done = tt;
    refused = record {
      cause = cause;
      may = may;
      passes = passes;
      busy = unless_store-always fault _ busy;
      counted = subst (λ (still : Bool). CountsRefusal still old.seen new.seen) (sym counted.usable) counted;
      usable = λ is. counted.usable;
      stays = λ usable. stays;
      unwritten = λ usable. read;
      fits = λ ended. absurd (false≢true (sym ended ∙ counted.usable));
      left = λ ended. absurd (false≢true (sym ended ∙ counted.usable));
      between = λ tells. inl (ap (λ (files : World). files old.seen.name) read.files);
    };
    idle = λ value holds is. read;
    full = λ needs value blocks limit holds lacks. read;
    leaves = edits_one-read old.seen.name old.store new.store read;
    writes = (change, bounded.writes);
  };
  ends = λ is. absurd (false≢true (sym other ∙ is));
  torn = λ tells. inl (ap (λ (files : World). files old.seen.name) read.files);
  reads = bounded.reads;
  writes = bounded.writes;
}

-- What a fault of the store left of the named file, of which a change had begun to write: it is as it was, or lies
-- between the old file and one that the change would have made and that stands for the changed value.
pub record IsTorn (change : FileChange) (laws : FileLaws) (old : FileAt) (files : World) : Type 0 where
  pub left : (value : QuotaValue) → old.holds value → (files old.seen.name ≡ old.store.files old.seen.name)
      ⊎ IsLeft (laws.makes old.seen change old.seen.name)
      (λ bytes. laws.stands_for old.seen.format bytes (changed_value change value))
      (laws.may_leave old.seen.format change) old.seen.name old.store.files files
  pub between : IsTrue laws.tells → (files old.seen.name ≡ old.store.files old.seen.name)
      ⊎ ((after : Option (List ℕ))
      × laws.may_leave old.seen.format change (old.store.files old.seen.name) after (files old.seen.name))

-- the store failed while the change was written
pub changes-torn : (change : FileChange) (laws : FileLaws) (old new : FileAt) → IsWanted change laws old
    → Rose old.store.faults new.store.faults → laws.may_refuse old.seen.format Store
    → CountsRefusal false old.seen new.seen → IsTorn change laws old new.store.files
    → EditsOne old.seen.name old.store new.store
    → IsBounded change laws old new → Changes change laws old new (Err Store)
changes-torn change laws old new wanted rose may counted torn leaves bounded = record {
  edits = record {
    done = tt;
    refused = record {
      cause = rose;
      may = may;
      passes = tt;
      busy = tt;
      counted = subst (λ (still : Bool). CountsRefusal still old.seen new.seen) (sym counted.usable) counted;
      usable = λ is. absurd (false≢true (sym is));
      stays = λ usable. absurd (false≢true (sym counted.usable ∙ usable));
      unwritten = λ usable. absurd (false≢true (sym counted.usable ∙ usable));
      fits = λ ended value holds. refl;
      left = λ ended. torn.left;
      between = λ tells. elim (torn.between tells) [
        | inl same ↦ inl same
        | inr left ↦ inr (change, left.0, left.1)
      ];
    };
    idle = λ value holds is. absurd (false≢true (sym (wanted.busy value holds) ∙ is));
    full = λ needs value blocks limit holds lacks. absurd (wanted.room needs value blocks limit holds lacks);
    leaves = leaves;
    writes = (change, bounded.writes);
  };
  ends = λ is. counted.usable;
  torn = torn.between;
  reads = bounded.reads;
  writes = bounded.writes;
}

-- the store failed before anything was written: nothing has changed, and the file is not used again all the same
pub changes-unwritten : (change : FileChange) (laws : FileLaws) (old new : FileAt)
    → Rose old.store.faults new.store.faults → laws.may_refuse old.seen.format Store
    → CountsRefusal false old.seen new.seen → OnlyReads false old.seen.name old.store new.store
    → IsBounded change laws old new → Changes change laws old new (Err Store)
changes-unwritten change laws old new rose may counted read bounded =
    let same = ap (λ (files : World). files old.seen.name) read.files in
    record {
      edits = record {
        done = tt;
        refused = record {
          cause = rose;
          may = may;
          passes = tt;
          busy = tt;
          counted = subst (λ (still : Bool). CountsRefusal still old.seen new.seen) (sym counted.usable) counted;
          usable = λ is. absurd (false≢true (sym is));
          stays = λ usable. absurd (false≢true (sym counted.usable ∙ usable));
          unwritten = λ usable. absurd (false≢true (sym counted.usable ∙ usable));
          fits = λ ended value holds. refl;
          left = λ ended value holds. inl same;
          between = λ tells. inl same;
        };
        idle = λ value holds is. read;
        full = λ needs value blocks limit holds lacks. read;
        leaves = edits_one-read old.seen.name old.store new.store read;
        writes = (change, bounded.writes);
      };
      ends = λ is. counted.usable;
      torn = λ tells. inl same;
      reads = bounded.reads;
      writes = bounded.writes;
    }

-- What is said of the changes of one type of file is said of those of another one, for this change of this file: what
-- it makes and leaves, and the faults that may come, are some of the other's, and of the values that it becomes the
-- same lack room.
pub record IsWiderAt (change : FileChange) (laws wider : FileLaws) (old : FileAt) : Type 0 where
  pub tells : wider.tells ≡ laws.tells
  pub stands_for : (bytes : List ℕ) (value : QuotaValue) → laws.stands_for old.seen.format bytes value
      → wider.stands_for old.seen.format bytes value
  pub reads : laws.change_reads old.seen change ≤ wider.change_reads old.seen change
  pub writes : laws.change_writes old.seen change ≤ wider.change_writes old.seen change
  pub done_writes : (value : QuotaValue) → old.holds value
      → laws.done_writes old.seen value change ≤ wider.done_writes old.seen value change
  pub makes : (files : World) → laws.makes old.seen change old.seen.name old.store.files files
      → wider.makes old.seen change old.seen.name old.store.files files
  pub may_leave : (any : FileChange) (before after left : Option (List ℕ))
      → laws.may_leave old.seen.format any before after left → wider.may_leave old.seen.format any before after left
  pub may_refuse : (fault : FileFault) → laws.may_refuse old.seen.format fault → wider.may_refuse old.seen.format fault
  pub lacks : (value : QuotaValue) (blocks limit : ℕ) → old.holds value
      → LacksRoom laws old change (changed_value change value) blocks limit
      → LacksRoom wider old change (changed_value change value) blocks limit
  pub has : (value : QuotaValue) (blocks limit : ℕ) → old.holds value
      → LacksRoom wider old change (changed_value change value) blocks limit
      → LacksRoom laws old change (changed_value change value) blocks limit

change_fault-wider : (change : FileChange) (laws wider : FileLaws) (old : FileAt) (now : ℕ)
    → IsWiderAt change laws wider old → (fault : FileFault)
    → IsChangeFault old.store.faults now old.holds (LacksRoomFor (edit_by change) laws old) fault
    → IsChangeFault old.store.faults now old.holds (LacksRoomFor (edit_by change) wider old) fault
change_fault-wider change laws wider old now so Store cause = cause
change_fault-wider change laws wider old now so (Damage at) cause = cause
change_fault-wider change laws wider old now so (Full blocks limit) cause =
    (cause.0, λ value holds. so.lacks value blocks limit holds (cause.1 value holds))
change_fault-wider change laws wider old now so Memory cause = tt

some_stands : (file : Option (List ℕ)) (P Q : List ℕ → Type 0) → ((bytes : List ℕ) → P bytes → Q bytes)
    → IsSomeAnd file P → IsSomeAnd file Q
some_stands None P Q map stands = stands
some_stands (Some bytes) P Q map stands = map bytes stands

left-wider : (change : FileChange) (laws wider : FileLaws) (old : FileAt) (new : World) (value : QuotaValue)
    → IsWiderAt change laws wider old
    → IsLeft (laws.makes old.seen change old.seen.name) (StandsForEdited (edit_by change) laws old value)
    (laws.may_leave old.seen.format change) old.seen.name old.store.files new
    → IsLeft (wider.makes old.seen change old.seen.name) (StandsForEdited (edit_by change) wider old value)
    (wider.may_leave old.seen.format change) old.seen.name old.store.files new
left-wider change laws wider old new value so left = record {
  after = left.after;
  made = so.makes left.after left.made;
  stands = some_stands (left.after old.seen.name) _ _
      (λ bytes. so.stands_for bytes (changed_value change value)) left.stands;
  left = so.may_leave change _ _ _ left.left;
}

refused-wider : (change : FileChange) (laws wider : FileLaws) (old new : FileAt) → IsWiderAt change laws wider old
    → (fault : FileFault) → IsRefused (edit_by change) laws old new fault
    → IsRefused (edit_by change) wider old new fault
refused-wider change laws wider old new so fault refused = record {
  cause = change_fault-wider change laws wider old new.store.faults so fault refused.cause;
  may = so.may_refuse fault refused.may;
  passes = refused.passes;
  busy = refused.busy;
  counted = refused.counted;
  usable = refused.usable;
  stays = refused.stays;
  unwritten = refused.unwritten;
  fits = refused.fits;
  left = λ ended value holds. elim (refused.left ended value holds) [
    | inl same ↦ inl same
    | inr left ↦ inr (left-wider change laws wider old new.store.files value so left)
  ];
  between = λ told. elim (refused.between (subst IsTrue so.tells told)) [
    | inl same ↦ inl same
    | inr left ↦ inr (left.0, left.1, so.may_leave left.0 _ _ _ left.2)
  ];
}

pub changes-wider : (change : FileChange) (laws wider : FileLaws) (old new : FileAt)
    (result : Result (Unit {0}) FileFault) → IsWiderAt change laws wider old
    → Changes change laws old new result → Changes change wider old new result
changes-wider change laws wider old new (Ok told) so changes = record {
  edits = record {
    done = record {
      set = changes.edits.done.set;
      makes = λ value holds busy. so.makes new.store.files (changes.edits.done.makes value holds busy);
      room = λ needs value blocks limit holds busy lacks.
          changes.edits.done.room needs value blocks limit holds busy (so.has value blocks limit holds lacks);
      synced = λ told. changes.edits.done.synced (subst IsTrue so.tells told);
      writes = λ value holds. omega (arith, so.done_writes value holds, changes.edits.done.writes value holds);
      same = changes.edits.done.same;
    };
    refused = tt;
    idle = changes.edits.idle;
    full = λ needs value blocks limit holds lacks.
        changes.edits.full needs value blocks limit holds (so.has value blocks limit holds lacks);
    leaves = changes.edits.leaves;
    writes = (change, omega (arith, so.writes, changes.writes));
  };
  ends = tt;
  torn = tt;
  reads = omega (arith, so.reads, changes.reads);
  writes = omega (arith, so.writes, changes.writes);
}
changes-wider change laws wider old new (Err fault) so changes = record {
  edits = record {
    done = tt;
    refused = refused-wider change laws wider old new so fault changes.edits.refused;
    idle = changes.edits.idle;
    full = λ needs value blocks limit holds lacks.
        changes.edits.full needs value blocks limit holds (so.has value blocks limit holds lacks);
    leaves = changes.edits.leaves;
    writes = (change, omega (arith, so.writes, changes.writes));
  };
  ends = changes.ends;
  torn = λ told. elim (changes.torn (subst IsTrue so.tells told)) [
    | inl same ↦ inl same
    | inr left ↦ inr (left.0, so.may_leave change _ _ _ left.1)
  ];
  reads = omega (arith, so.reads, changes.reads);
  writes = omega (arith, so.writes, changes.writes);
}
