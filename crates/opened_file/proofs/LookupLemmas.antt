-- What is said of an edit of the value that an opened file holds, after calls that only looked something up in it.
use Rattle.std.proofs.Common.{◌≡◌, ◌⊎◌, ℕ, ◌≤◌, Bool, true, IfErr, IfSome, OnOk, Option, Result, Ok, Err, refl, sym}
use Rattle.std.proofs.Common.{subst, ◌∙◌, arith}
use Rattle.std.specs.Prelude.{IsOkAnd, is_ok}
use Rattle.std.proofs.lemmas.Option.{IfSome_then}
use Rattle.std.proofs.lemmas.Result.{IfOk-weaker}
use Rattle.opened_file.specs.Changes.{EditsValue, FileAt, FileLaws, IsDone, IsRefused, LacksRoomFor, file_at}
use Rattle.quota_types.specs.declared.field.Field.{Field}
use Rattle.opened_file.specs.ValueEdits.{IsLeft, ValueEdit}
use Rattle.outside.specs.Frame.{OnlyReads}
use Rattle.opened_file.specs.QuotaFile.{IsChangeFault, UnlessStoreFailed}
use Rattle.opened_file.specs.FileSeen.{FileSeen}
use Rattle.quota_value.specs.QuotaValue.{QuotaValue}
use Rattle.outside.specs.Seen.{StoreSeen}
use Rattle.outside.specs.World.{World}
use Rattle.opened_file.specs.declared.quota_file.FileFault.{FileFault}
use Rattle.opened_file.specs.declared.quota_file.FileFault.TheVariants.{Store, Damage, Full, Memory}
use Rattle.outside.proofs.FrameLemmas.{is_synced-read, is_synced-then, only_reads-then}
use Rattle.opened_file.proofs.EditsOneLemmas.{edits_one-after_read}

-- What calls that only looked something up left, as far as an edit goes on from there.
pub record IsLookedUp (old new : FileAt) : Type 0 where
  pub stays : (value : QuotaValue) → old.holds value → new.holds value
  pub leaves : OnlyReads true old.seen.name old.store new.store
  pub same : new.seen ≡ old.seen

-- At the values that a file holds two edits are one, and both need room or neither does.
pub record IsSameAt (edit next : ValueEdit) (at : FileAt) : Type 0 where
  pub edited : (value : QuotaValue) → at.holds value → edit.edited value ≡ next.edited value
  pub change : (value : QuotaValue) → at.holds value → edit.change value ≡ next.change value
  pub idle : (value : QuotaValue) → at.holds value → edit.is_idle value ≡ next.is_idle value
  pub room : edit.needs_room ≡ next.needs_room

module _ {T U E G : Type 0} (fault_in : E → Option FileFault) (fault_of : G → Option FileFault) where
  -- An answer is Ok where a result is, and has the fault that the result has.
  abbrev pub IsAnswer : Result T E → Result U G → Type 0
  IsAnswer (Ok told) (Ok answer) = Unit {0}
  IsAnswer (Ok told) (Err out) = ⊥
  IsAnswer (Err fault) (Ok answer) = ⊥
  IsAnswer (Err fault) (Err out) = fault_of out ≡ fault_in fault

  answer-ok : (result : Result T E) (answer : Result U G) → IsAnswer result answer → is_ok answer ≡ is_ok result
  answer-ok (Ok told) (Ok answer) is = refl
  answer-ok (Ok told) (Err out) is = absurd is
  answer-ok (Err fault) (Ok answer) is = absurd is
  answer-ok (Err fault) (Err out) is = refl

  answer-done : (result : Result T E) (answer : Result U G) (P Q : Type 0) → IsAnswer result answer → (P → Q)
      → OnOk result P → OnOk answer Q
  answer-done (Ok told) (Ok answer) P Q is map fact = map fact
  answer-done (Ok told) (Err out) P Q is map fact = absurd is
  answer-done (Err fault) (Ok answer) P Q is map fact = absurd is
  answer-done (Err fault) (Err out) P Q is map fact = tt

  answer-refused : (result : Result T E) (answer : Result U G) (P Q : FileFault → Type 0) → IsAnswer result answer
      → ((fault : FileFault) → P fault → Q fault)
      → IfErr result (λ fault. IfSome (fault_in fault) P) → IfErr answer (λ fault. IfSome (fault_of fault) Q)
  answer-refused (Ok told) (Ok answer) P Q is map fact = tt
  answer-refused (Ok told) (Err out) P Q is map fact = absurd is
  answer-refused (Err fault) (Ok answer) P Q is map fact = absurd is
  answer-refused (Err fault) (Err out) P Q is map fact = rw is (IfSome_then (fault_in fault) fact map)

pub is_answer-itself : {T E : Type 0} (fault_of : E → Option FileFault) (result : Result T E)
    → IsAnswer {T = T} {U = T} fault_of fault_of result result
is_answer-itself fault_of (Ok told) = tt
is_answer-itself fault_of (Err fault) = refl

-- a change that is refused after a lookup is refused by what held before the lookup
pub change_fault-after : (before between now : ℕ) (held held_between : QuotaValue → Type 0)
    (lacks lacks_between : ℕ → ℕ → Type 0)
    (fault : FileFault) → before ≤ between → ((value : QuotaValue) → held value → held_between value)
    → ((blocks limit : ℕ) → lacks_between blocks limit → lacks blocks limit)
    → IsChangeFault between now held_between lacks_between fault → IsChangeFault before now held lacks fault
change_fault-after before between now held held_between lacks lacks_between Store later stays room cause = omega arith
change_fault-after before between now held held_between lacks lacks_between (Damage at) later stays room cause =
    λ value holds. cause value (stays value holds)
change_fault-after before between now held held_between lacks lacks_between (Full blocks limit) later stays room cause =
    room blocks limit cause
change_fault-after before between now held held_between lacks lacks_between Memory later stays room cause = tt

unless_store-map : (fault : FileFault) (P Q : Type 0) → (P → Q) → UnlessStoreFailed fault P → UnlessStoreFailed fault Q
unless_store-map Store P Q map fact = tt
unless_store-map (Damage at) P Q map fact = map fact
unless_store-map (Full blocks limit) P Q map fact = map fact
unless_store-map Memory P Q map fact = map fact

-- what the opened file with its store is after a lookup, where all that a fact of an edit rests on is written as before
abbrev mid_at : FileAt → (QuotaValue → Type 0) → StoreSeen → FileAt
mid_at old held store = file_at held old.seen (record store { files = old.store.files })

module _ (edit next : ValueEdit) (laws : FileLaws) (old new : FileAt) (held : QuotaValue → Type 0) (store : StoreSeen)
    (up : IsLookedUp old (mid_at old held store)) (same : IsSameAt edit next old) where
  done-after : IsDone next laws (mid_at old held store) new → IsDone edit laws old new
  done-after done = record {
    set = λ value holds. rw (same.edited value holds) (done.set value (up.stays value holds));
    makes = λ value holds busy.
        rw (same.change value holds) (done.makes value (up.stays value holds) (sym (same.idle value holds) ∙ busy));
    room = λ needs value blocks limit holds busy.
        rw (same.edited value holds, same.change value holds)
        (done.room (sym same.room ∙ needs) value blocks limit (up.stays value holds)
        (sym (same.idle value holds) ∙ busy));
    synced = λ tells.
        is_synced-then old.seen.name old.store (mid_at old held store).store new.store
        (is_synced-read old.seen.name old.store (mid_at old held store).store up.leaves) (done.synced tells);
    writes = λ value holds.
        rw (same.change value holds) (omega (arith, up.leaves.writes, done.writes value (up.stays value holds)));
    same = done.same;
  }

  refused-after : (fault : FileFault) → IsRefused next laws (mid_at old held store) new fault
      → IsRefused edit laws old new fault
  refused-after fault refused = record {
    cause = change_fault-after old.store.faults store.faults new.store.faults old.holds held
        (LacksRoomFor edit laws old) (LacksRoomFor next laws (mid_at old held store)) fault up.leaves.later up.stays
        (λ blocks limit lacks. (
          same.room ∙ lacks.0,
          λ value holds. rw (same.edited value holds, same.change value holds) (lacks.1 value (up.stays value holds)),
        )) refused.cause;
    may = refused.may;
    passes = refused.passes;
    busy = unless_store-map fault _ _
        (λ busy value holds. same.idle value holds ∙ busy value (up.stays value holds)) refused.busy;
    counted = refused.counted;
    usable = refused.usable;
    stays = λ usable value holds. refused.stays usable value (up.stays value holds);
    unwritten = λ usable. only_reads-then old.seen.name old.store _ new.store up.leaves (refused.unwritten usable);
    fits = λ ended value holds. rw (same.edited value holds) (refused.fits ended value (up.stays value holds));
    left = λ ended value holds.
        rw (same.change value holds)
        (subst
        (λ (edited : Result QuotaValue (Field × ℕ)). (new.store.files old.seen.name ≡ old.store.files old.seen.name)
        ⊎ IsLeft (laws.makes old.seen (next.change value) old.seen.name)
        (λ bytes. IsOkAnd edited (laws.stands_for old.seen.format bytes))
        (laws.may_leave old.seen.format (next.change value)) old.seen.name old.store.files new.store.files)
        (sym (same.edited value holds)) (refused.left ended value (up.stays value holds)));
    between = refused.between;
  }

  edits_value-mid : {T U E G : Type 0} (fault_in : E → Option FileFault) (fault_of : G → Option FileFault)
      (result : Result T E) (answer : Result U G)
      → IsAnswer fault_in fault_of result answer
      → EditsValue fault_in next laws (mid_at old held store) new result → EditsValue fault_of edit laws old new answer
  edits_value-mid fault_in fault_of result answer is edits =
      let read : OnlyReads (is_ok result) old.seen.name old.store new.store
      → OnlyReads (is_ok answer) old.seen.name old.store new.store =
      subst (λ (ok : Bool). OnlyReads ok old.seen.name old.store new.store)
      (sym (answer-ok fault_in fault_of result answer is)) in
      record {
        done = answer-done fault_in fault_of result answer _ _ is done-after edits.done;
        refused = answer-refused fault_in fault_of result answer _ _ is refused-after edits.refused;
        idle = λ value holds idle. read
            (only_reads-then old.seen.name old.store _ new.store up.leaves
            (edits.idle value (up.stays value holds) (sym (same.idle value holds) ∙ idle)));
        full = λ needs value blocks limit holds.
            rw (same.edited value holds, same.change value holds)
            (IfOk-weaker (next.edited value) _ _
            (λ edited only lacks. read (only_reads-then old.seen.name old.store _ new.store up.leaves (only lacks)))
            (edits.full (sym same.room ∙ needs) value blocks limit (up.stays value holds)));
        leaves = edits_one-after_read old.seen.name old.store _ new.store up.leaves edits.leaves;
        writes = (edits.writes.0, omega (arith, up.leaves.writes, edits.writes.1));
      }

-- an edit after calls that only looked something up, which told that another edit is the one that is wanted of what the
-- file holds
pub edits_value-after : {T U E G : Type 0} (fault_in : E → Option FileFault) (fault_of : G → Option FileFault)
    (edit next : ValueEdit) (laws : FileLaws) (old mid new : FileAt)
    (result : Result T E) (answer : Result U G) → IsAnswer fault_in fault_of result answer → IsLookedUp old mid
    → IsSameAt edit next old
    → EditsValue fault_in next laws mid new result → EditsValue fault_of edit laws old new answer
edits_value-after fault_in fault_of edit next laws old mid new result answer is up same edits =
    let at : FileSeen → World → FileAt = λ seen files. file_at mid.holds seen (record mid.store { files = files }) in
    let P : FileSeen → World → Type 0 =
    λ seen files. IsLookedUp old (at seen files) × EditsValue fault_in next laws (at seen files) new result in
    let moved : P old.seen old.store.files =
    subst (λ (seen : FileSeen). P seen old.store.files) up.same
    (subst (λ (files : World). P mid.seen files) up.leaves.files (up, edits)) in
    edits_value-mid edit next laws old new mid.holds mid.store moved.0 same fault_in fault_of result answer is moved.1
