-- Where steps that change a file end while their first change is at hand.
use Rattle.std.proofs.Common.{◌≡◌, ◌≢◌, inl, inr, ℕ, ◌+◌, ◌*◌, ◌≤◌, Bool, true, false, IsTrue, List, [], ◌∷◌, ◌++◌}
use Rattle.std.proofs.Common.{Option, None, Some, Ok, Err, Result, refl, sym, subst, append-nil, arith}
use Rattle.quota_types.specs.declared.field.Field.{Field}
use Rattle.quota_value.specs.QuotaValue.{QuotaValue}
use Rattle.outside.specs.Replacement.{ReplacesOnly}
use Rattle.outside.specs.Seen.{StoreSeen}
use Rattle.outside.specs.World.{World}
use Rattle.set_edit.specs.Editing.{Edit}
use Rattle.refusals.specs.declared.cause.Cause.{Cause}
use Rattle.refusals.specs.declared.cause.Cause.TheVariants.{SinkFault}
use Rattle.refusals.specs.declared.reason.Refusal.{Refusal}
use Rattle.run_steps.specs.Act.{Act, Change, ChangesNone, Idle, Together}
use Rattle.run_steps.specs.Changing.{written}
use Rattle.quota_map.specs.Size.{blocks_after}
use Rattle.run_steps.specs.Done.{Outside, RunSeen, RunTells, outside_of}
use Rattle.run_steps.specs.Meaning.{EndsBy}
use Rattle.run_steps.specs.Run.{IsDoneInPart}
use Rattle.run_steps.specs.Steps.{Doing, DoingAll, Ending, Steps, Then}
use Rattle.run_steps.proofs.ActLemmas.{appends_nothing}
use Rattle.run_steps.proofs.DoingLemmas.{AreWritten, done_of}
use Rattle.run_steps.proofs.LookingLemmas.{leads_doing}
use Rattle.run_steps.proofs.OpeningLemmas.{with_store}
use Rattle.run_steps.proofs.RowLemmas.{part_led}
use Rattle.run_steps.proofs.WritesLemmas.{writes_for-same}
use Rattle.edit_steps.specs.EditStep.{changed, is_too_large, value_left}
use Rattle.batch_commands.specs.declared.batch_line.LineEdit.{LineEdit}
use Rattle.batch_commands.specs.Batch.{edit_of, met_at, way_behind}
use Rattle.batch_commands.specs.BatchReading.{LineSteps}

-- The first change is at hand.

-- Wherever steps end that change a file, they may have been done in part so: the file of this name is as it was, no
-- other one has changed but the one with `.new` added to the name, and there were twelve calls of `write` at most for
-- an edit and each of the others that are made together with it.
abbrev pub MayStop : ℕ → List ℕ → Steps → Type 0
MayStop others file steps =
    (why : Option Cause) (tells : RunTells) (old : RunSeen) (store : StoreSeen) (acts : List Act) (to : Outside)
    (refusal : Option Refusal) → why ≢ Some SinkFault → store.files file ≡ old.store.files file
    → ReplacesOnly file old.store.files store.files → store.writes ≤ old.store.writes + 12 * (1 + others)
    → EndsBy steps (outside_of old) acts to refusal → (ChangesNone acts → ⊥)
    → IsDoneInPart steps tells why old (with_store old store)

no_acts : (acts : List Act) → acts ≡ [] → ChangesNone acts
no_acts acts none = subst (λ (a : List Act). ChangesNone a) (sym none) tt

end_stops : (others : ℕ) (file : List ℕ) (stated : Option Refusal) → MayStop others file (Ending stated)
end_stops others file stated why tells old store acts to refusal other same leaves few by some =
    absurd (some (no_acts acts by.acts_none))

idle_done : (store : StoreSeen) → AreWritten (Idle ∷ []) store store
idle_done store = record {
  files = (store.files, refl, refl);
  writes = writes_for-same (Idle ∷ []) store.writes store.writes refl;
  out = refl;
  err = refl;
  answered = refl;
  started = λ before. refl;
}

idle_changes : (acts rest : List Act) → acts ≡ Idle ∷ rest → (ChangesNone acts → ⊥) → ChangesNone rest → ⊥
idle_changes acts rest is some none = some (subst (λ (a : List Act). ChangesNone a) (sym is) none)

idle_stops : (others : ℕ) (file : List ℕ) (next : Steps) → MayStop others file next
    → MayStop others file (Doing Idle next)
idle_stops others file next more why tells old store acts to refusal other same leaves few by some =
    let behind = subst (λ (w : World). EndsBy next (record (outside_of old) { files = w }) by.0 to refusal) by.3 by.4 in
    part_led (Idle ∷ []) next (Doing Idle next) tells old old (with_store old store) (omega arith) (omega arith)
    (leads_doing (Idle ∷ []) next (outside_of old) old.store.files (old.store.files, refl, refl))
    (done_of (Idle ∷ []) tells old old.store (idle_done old.store))
    (more why tells old store by.0 to refusal other same leaves few behind (idle_changes acts by.0 by.2 some))

change_stops : (others : ℕ) (file : List ℕ) (value : QuotaValue) (next : Steps)
    → MayStop others file (Doing (Change (Together others) file value) next)
change_stops others file value next why tells old store acts to refusal other same leaves few by some = record {
  done = [];
  hand = Change (Together others) file value ∷ [];
  now = outside_of old;
  begun = inl (record { done_none = refl; at_hand = refl; same = refl });
  files = (inl same, inr (same, leaves));
  out = λ told. appends_nothing (old.out.written ++ []) old.out.written [] (sym (append-nil old.out.written));
  err = λ told. appends_nothing (old.err.written ++ []) old.err.written [] (sym (append-nil old.err.written));
  answered = sym (append-nil old.link.answers);
  started = refl;
  datagrams = refl;
  writes = record { none = λ none. absurd none; few = λ none. few };
  failed = λ is told. absurd (other is);
}

written_stops : (others : ℕ) (file : List ℕ) (number blocks : ℕ) (new : QuotaValue) (idle large : Bool) (next : Steps)
    → (IsTrue idle → MayStop others file next)
    → MayStop others file
    (Then (met_at number (written (Together others) file blocks new idle large))
    (λ (acts : List Act). DoingAll acts next))
written_stops others file number blocks new true large next more = idle_stops others file next (more refl)
written_stops others file number blocks new false true next more = end_stops others file _
written_stops others file number blocks new false false next more = change_stops others file new next

changed_stops : (others : ℕ) (file : List ℕ) (number : ℕ) (edit : Edit) (bytes : Option (List ℕ)) (value : QuotaValue)
    (edited : Result QuotaValue (Field × ℕ)) (next : Steps) → (IsTrue (edit.is_idle value) → MayStop others file next)
    → MayStop others file
    (Then (met_at number (changed (Together others) file edit bytes value edited))
    (λ (acts : List Act). DoingAll acts next))
changed_stops others file number edit bytes value (Ok new) next more =
    written_stops others file number (blocks_after bytes new) new (edit.is_idle value)
    (is_too_large edit bytes new) next more
changed_stops others file number edit bytes value (Err out) next more = end_stops others file _

-- so may lines
pub lines_stop : (others : ℕ) (file : List ℕ) (now : ℕ) (lines : List LineEdit) (value : QuotaValue)
    → MayStop others file (LineSteps (Together others) file now lines value)
lines_stop others file now [] value = end_stops others file None
lines_stop others file now (line ∷ lines) value = λ why tells old store acts to refusal other same leaves few by some.
    let edit = edit_of line now in
    let left = value_left (edit.edited value) value in
    let next = λ (idle : Bool). LineSteps (way_behind (Together others) idle) file now lines left in
    let part = changed_stops others file line.number edit (old.store.files file) value (edit.edited value)
    (next (edit.is_idle value))
    (λ idle. subst (λ (b : Bool). MayStop others file (next b)) (sym idle) (lines_stop others file now lines left))
    why tells old store acts to refusal other same leaves few by some in
    record {
      done = part.done;
      hand = part.hand;
      now = part.now;
      begun = part.begun;
      files = part.files;
      out = part.out;
      err = part.err;
      answered = part.answered;
      started = part.started;
      datagrams = part.datagrams;
      writes = part.writes;
      failed = part.failed;
    }
