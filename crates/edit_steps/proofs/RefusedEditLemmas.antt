-- An edit of a file that was refused: what was begun of it, and its reason.
use Rattle.std.proofs.Common.{◌≡◌, ◌≢◌, ℕ, ◌+◌, ◌≤◌, Bool, true, false, IsTrue, List, [], ◌∷◌, ◌++◌, Option, Some, Ok}
use Rattle.std.proofs.Common.{Err, Result, inl, refl, sym, ap, subst, ◌∙◌, append-nil, arith}
use Rattle.std.specs.Prelude.{◌&&◌, ◌<◌, nat_lt, IfSome, IsOkAnd}
use Rattle.std.proofs.lemmas.Bool.{false≢true}
use Rattle.std.proofs.lemmas.Bool.Decides.{nat_tests}
use Rattle.quota_types.specs.declared.field.Field.{Field}
use Rattle.quota_types.specs.declared.field.NoRoom.{NoRoom}
use Rattle.opened_file.specs.EditsOne.{EditsOne}
use Rattle.outside.specs.Frame.{OnlyReads}
use Rattle.opened_file.specs.QuotaFile.{IsChangeFault, UnlessStoreFailed}
use Rattle.quota_value.specs.QuotaValue.{QuotaValue}
use Rattle.outside.specs.Seen.{StoreSeen}
use Rattle.outside.specs.World.{World}
use Rattle.opened_file.specs.declared.quota_file.FileFault.{FileFault}
use Rattle.opened_file.specs.declared.quota_file.FileFault.TheVariants.{Store, Damage, Full, Memory}
use Rattle.opened_file.proofs.EditsOneLemmas.{edits_one-read}
use Rattle.quota_map.specs.View.{most_blocks}
use Rattle.set_edit.specs.EditFault.{IfNoRoom, file_fault}
use Rattle.set_edit.specs.Editing.{Edit}
use Rattle.set_edit.specs.declared.edit_fault.EditFault.{EditFault}
use Rattle.set_edit.specs.declared.edit_fault.EditFault.TheVariants.{File, NoRoom as Unfit}
use Rattle.refusals.specs.declared.cause.Cause.{Cause}
use Rattle.refusals.specs.declared.cause.Cause.TheVariants.{Full as FileFull, NoRoom as NoRoomFor, SinkFault}
use Rattle.refusals.specs.Outcome.{Refused}
use Rattle.refusals.specs.Refusals.{refusal_of}
use Rattle.refusals.specs.Status.{status_of}
use Rattle.run_steps.specs.Act.{Act, Change, MayBeLeft, Way}
use Rattle.run_steps.specs.Done.{Outside, RunSeen, RunTells, outside_of}
use Rattle.run_steps.specs.Meaning.{HasBegun}
use Rattle.run_steps.specs.Run.{HasReason, IsDoneInPart, Uses}
use Rattle.run_steps.specs.Steps.{Steps, Then}
use Rattle.run_steps.specs.Changing.{idle_acts, written}
use Rattle.quota_map.specs.Size.{blocks_after}
use Rattle.edit_steps.specs.EditStep.{changed, edit_cause, edit_step, is_too_large}
use Rattle.run_steps.proofs.ActLemmas.{appends_nothing, leaves_others}
use Rattle.run_steps.proofs.OpeningLemmas.{file_no_output, with_store}
use Rattle.run_steps.proofs.PartLemmas.{nothing_begun}
use Rattle.run_steps.proofs.ReasonLemmas.{reason_but_stated}
use Rattle.run_steps.proofs.WritesLemmas.{writes_for-edit, writes_in_part}
use Rattle.quota_map.proofs.RoomLemmas.{IsLacking}

-- What an edit of a value left that was refused: nothing was written unless the store failed. Where this much is told,
-- nothing was written either where nothing is to be done, the value does not fit or there is no room for it, and the
-- named file is what an edit to the edited value that failed may leave. All other files stay, with twelve calls of
-- `write` at most.
pub record IsRefusedAt (name : List ℕ) (edit : Edit) (value : QuotaValue) (told : Type 0) (old new : StoreSeen)
    (cause : Cause) : Type 0 where
  pub whole : status_of cause ≢ 4 → OnlyReads false name old new
  pub idle : told → IsTrue (edit.is_idle value) → OnlyReads false name old new
  pub named : told → (edited : QuotaValue) → edit.edited value ≡ Ok edited
      → MayBeLeft edited (old.files name) (new.files name)
  pub unfit : told → (out : Field × ℕ) → edit.edited value ≡ Err out → OnlyReads false name old new
  pub full : told → (edited : QuotaValue) → edit.edited value ≡ Ok edited
      → IsTrue (is_too_large edit (old.files name) edited) → OnlyReads false name old new
  pub leaves : EditsOne name old new
  pub few : new.writes ≤ old.writes + 12

-- an edit that was refused and only read
pub refused_read : (name : List ℕ) (edit : Edit) (value : QuotaValue) (told : Type 0) (old new : StoreSeen)
    (cause : Cause) → OnlyReads false name old new
    → IsRefusedAt name edit value told old new cause
refused_read name edit value told old new cause read = record {
  whole = λ other. read;
  idle = λ is idle. read;
  named = λ is edited set. inl (ap (λ (files : World). files name) read.files);
  unfit = λ is out unfit. read;
  full = λ is edited set large. read;
  leaves = edits_one-read name old new read;
  few = omega (arith, read.writes);
}

-- an edit is not refused since an output failed
pub edit_no_output : (fault : EditFault) → Some (edit_cause fault) ≢ Some SinkFault
edit_no_output (File fault) is = file_no_output fault is
edit_no_output (Unfit out) is = cc

-- What was begun.

-- steps that begin with an act that they are given
abbrev pub BeginsWith : (List Act → Steps) → Type 0
BeginsWith next = (act : Act) (from : Outside) → HasBegun (next (act ∷ [])) from [] (act ∷ []) from

-- nothing was begun where the store was only read
read_part : {done : Bool} {why : Option Cause} (name : List ℕ) (steps : Steps) (tells : RunTells) (old : RunSeen)
    (store : StoreSeen) → why ≢ Some SinkFault → OnlyReads done name old.store store
    → IsDoneInPart steps tells why old (with_store old store)
read_part name steps tells old store other reads =
    nothing_begun steps tells old (with_store old store) other reads.files (λ told. refl) (λ told. refl) refl refl
    refl reads.writes

written_part : {done : Bool} {why : Option Cause} (way : Way) (name : List ℕ) (blocks : ℕ) (edited : QuotaValue)
    (idle large : Bool) (next : List Act → Steps) (tells : RunTells) (old : RunSeen) (store : StoreSeen)
    → why ≢ Some SinkFault → BeginsWith next
    → (IsTrue idle → OnlyReads done name old.store store) → (IsTrue large → OnlyReads done name old.store store)
    → MayBeLeft edited (old.store.files name) (store.files name) → EditsOne name old.store store
    → store.writes ≤ old.store.writes + 12
    → IsDoneInPart (Then (written way name blocks edited idle large) next) tells why old (with_store old store)
written_part way name blocks edited true large next tells old store other begins same full named leaves few =
    read_part name (next (idle_acts way)) tells old store other (same refl)
written_part way name blocks edited false true next tells old store other begins same full named leaves few =
    read_part name (Then (written way name blocks edited false true) next) tells old store other (full refl)
written_part way name blocks edited false false next tells old store other begins same full named leaves few = record {
  done = [];
  hand = Change way name edited ∷ [];
  now = outside_of old;
  begun = begins (Change way name edited) (outside_of old);
  files = (named, leaves_others way name old.store.files store.files leaves.files);
  out = λ told. appends_nothing (old.out.written ++ []) old.out.written [] (sym (append-nil old.out.written));
  err = λ told. appends_nothing (old.err.written ++ []) old.err.written [] (sym (append-nil old.err.written));
  answered = sym (append-nil old.link.answers);
  started = refl;
  datagrams = refl;
  writes = writes_in_part (Change way name edited ∷ []) (Change way name edited ∷ []) old.store.writes store.writes
      (writes_for-edit way name edited old.store.writes store.writes few);
  failed = λ is told. absurd (other is);
}

changed_part : {why : Option Cause} (way : Way) (name : List ℕ) (edit : Edit) (value : QuotaValue)
    (edited : Result QuotaValue (Field × ℕ)) (next : List Act → Steps) (tells : RunTells) (old : RunSeen)
    (store : StoreSeen) (cause : Cause)
    → edit.edited value ≡ edited → why ≢ Some SinkFault → BeginsWith next
    → IsRefusedAt name edit value (IsTrue tells.store) old.store store cause → IsTrue tells.store
    → IsDoneInPart (Then (changed way name edit (old.store.files name) value edited) next) tells why old
    (with_store old store)
changed_part way name edit value (Ok one) next tells old store cause set other begins refused is =
    written_part way name (blocks_after (old.store.files name) one) one (edit.is_idle value)
    (is_too_large edit (old.store.files name) one) next tells old store other begins (refused.idle is)
    (refused.full is one set)
    (refused.named is one set) refused.leaves refused.few
changed_part way name edit value (Err out) next tells old store cause set other begins refused is =
    read_part name (Then (changed way name edit (old.store.files name) value (Err out)) next) tells old store other
    (refused.unfit is out set)

-- of the steps of an edit that was refused the first act was begun at most
pub refused_part : {why : Option Cause} (way : Way) (name : List ℕ) (edit : Edit) (value : QuotaValue)
    (next : List Act → Steps) (tells : RunTells) (old : RunSeen) (store : StoreSeen) (cause : Cause)
    → why ≢ Some SinkFault → BeginsWith next → IsRefusedAt name edit value (IsTrue tells.store) old.store store cause
    → IsTrue tells.store
    → IsDoneInPart (Then (edit_step way name edit (old.store.files name) value) next) tells why old
    (with_store old store)
refused_part way name edit value next tells old store cause other begins refused is =
    changed_part way name edit value (edit.edited value) next tells old store cause refl other begins refused is

-- Why an edit was refused.

-- a number that is less is found to be
more_of : (a b : ℕ) → a < b → nat_lt a b ≡ true
more_of a b less = grind (arith, nat_tests)

written_full : (way : Way) (name : List ℕ) (blocks : ℕ) (new : QuotaValue) (idle large : Bool) → idle ≡ false
    → IsTrue large → written way name blocks new idle large ≡ Refused (refusal_of (FileFull blocks most_blocks) name)
written_full way name blocks new true large some more = absurd (cc)
written_full way name blocks new false true some more = refl
written_full way name blocks new false false some more = absurd (false≢true more)

-- a value for which there is no room is found to be too large
too_large : (edit : Edit) (new : QuotaValue) (needs more : Bool) → IsTrue needs → IsTrue more → IsTrue (needs && more)
too_large edit new true true needs more = refl
too_large edit new true false needs more = absurd (false≢true more)
too_large edit new false more needs is = absurd (false≢true needs)

-- the refusal of a value for which there is no room
pub full_changed : (way : Way) (name : List ℕ) (edit : Edit) (file : Option (List ℕ)) (value : QuotaValue)
    (edited : Result QuotaValue (Field × ℕ)) (blocks limit : ℕ)
    → IsTrue edit.needs_room → IsOkAnd edited (λ (new : QuotaValue). IsLacking file new blocks limit)
    → edit.is_idle value ≡ false
    → changed way name edit file value edited ≡ Refused (refusal_of (FileFull blocks limit) name)
full_changed way name edit file value (Ok new) blocks limit needs lacking wanted =
    written_full way name (blocks_after file new) new (edit.is_idle value) (is_too_large edit file new) wanted
    (too_large edit new edit.needs_room (nat_lt most_blocks (blocks_after file new)) needs
    (more_of most_blocks (blocks_after file new) (subst (λ (b : ℕ). most_blocks < b) lacking.0 lacking.2)))
    ∙ ap (λ (b : ℕ). Refused (refusal_of (FileFull b most_blocks) name)) (sym lacking.0)
    ∙ ap (λ (l : ℕ). Refused (refusal_of (FileFull blocks l) name)) (sym lacking.1)
full_changed way name edit file value (Err out) blocks limit needs lacking wanted = absurd lacking

-- the refusal of a value that does not fit
pub unfit_refused : (way : Way) (name : List ℕ) (edit : Edit) (file : Option (List ℕ)) (value : QuotaValue)
    (out : NoRoom) → out.id ≡ edit.id → edit.edited value ≡ Err (out.field, out.value)
    → edit_step way name edit file value ≡ Refused (refusal_of (NoRoomFor out) name)
unfit_refused way name edit file value out same is =
    ap (λ (r : Result QuotaValue (Field × ℕ)). changed way name edit file value r) is
    ∙ ap (λ (i : ℕ).
    Refused (refusal_of (NoRoomFor (record { id = i; field = out.field; value = out.value })) name)) (sym same)

-- Why an edit of this file was refused: its cause, over the value that the file holds.
pub record HasEditCause (edit : Edit) (file : Option (List ℕ)) (before now : ℕ) (holds : QuotaValue → Type 0)
    (fault : EditFault) : Type 0 where
  pub no_room : IfNoRoom fault
      (λ (out : NoRoom). (value : QuotaValue) → holds value → edit.edited value ≡ Err (out.field, out.value))
  pub id : IfNoRoom fault (λ (out : NoRoom). out.id ≡ edit.id)
  pub refused : IfSome (file_fault fault) (IsChangeFault before now holds (λ (blocks limit : ℕ). IsTrue edit.needs_room
      × ((value : QuotaValue) → holds value
      → IsOkAnd (edit.edited value) (λ (new : QuotaValue). IsLacking file new blocks limit))))
  pub wanted : IfSome (file_fault fault)
      (λ (out : FileFault). UnlessStoreFailed out ((value : QuotaValue) → holds value → edit.is_idle value ≡ false))

-- the step of an edit of the value of this file is refused with a cause that is no fault
abbrev pub IsStepRefused : Way → List ℕ → Edit → Option (List ℕ) → EditFault → QuotaValue → Type 0
IsStepRefused way name edit file fault value =
    (edit_step way name edit file value ≡ Refused (refusal_of (edit_cause fault) name))
    × (status_of (edit_cause fault) ≢ 4)

-- whichever way it is made
pub edit_reason_any : (name : List ℕ) (edit : Edit) (file : Option (List ℕ)) (uses : Uses) (old new : RunSeen)
    (before : ℕ) (holds : QuotaValue → Type 0) (fault : EditFault) → old.store.faults ≤ before
    → HasEditCause edit file before new.store.faults holds fault
    → HasReason uses old new
    ((way : Way) (value : QuotaValue) → holds value → IsStepRefused way name edit file fault value) (edit_cause fault)
edit_reason_any name edit file uses old new before holds (File Store) le cause =
    let rose = cause.refused in omega (arith, le, rose)
edit_reason_any name edit file uses old new before holds (File (Damage damage)) le cause =
    λ way value held. absurd (cause.refused value held)
edit_reason_any name edit file uses old new before holds (File (Full blocks limit)) le cause = λ way value held. (
  full_changed way name edit file value (edit.edited value) blocks limit cause.refused.0 (cause.refused.1 value held)
      (cause.wanted value held),
  λ e. omega (arith, e),
)
edit_reason_any name edit file uses old new before holds (File Memory) le cause = tt
edit_reason_any name edit file uses old new before holds (Unfit out) le cause =
    λ way value held.
    (unfit_refused way name edit file value out cause.id (cause.no_room value held), λ e. omega (arith, e))

pub edit_reason : (way : Way) (name : List ℕ) (edit : Edit) (file : Option (List ℕ)) (uses : Uses) (old new : RunSeen)
    (before : ℕ) (holds : QuotaValue → Type 0) (fault : EditFault) → old.store.faults ≤ before
    → HasEditCause edit file before new.store.faults holds fault
    → HasReason uses old new ((value : QuotaValue) → holds value → IsStepRefused way name edit file fault value)
    (edit_cause fault)
edit_reason way name edit file uses old new before holds fault le cause =
    reason_but_stated uses old new _ _ (edit_cause fault) (λ each value held. each way value held)
    (edit_reason_any name edit file uses old new before holds fault le cause)
