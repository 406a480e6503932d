-- What a command does whose edit was refused.
use Rattle.std.proofs.Common.{◌≡◌, ℕ, Bool, IsTrue, List, [], ◌++◌, Option, Some, Err, inl, refl, sym, subst, arith}
use Rattle.quota_value.specs.QuotaValue.{QuotaValue}
use Rattle.outside.specs.Seen.{StoreSeen}
use Rattle.set_edit.specs.Editing.{Edit}
use Rattle.set_edit.specs.declared.edit_fault.EditFault.{EditFault}
use Rattle.refusals.specs.declared.cause.Cause.{Cause}
use Rattle.refusals.specs.Outcome.{Outcome}
use Rattle.refusals.specs.Refusals.{refusal_of}
use Rattle.run_steps.specs.Act.{Act, InPlace}
use Rattle.run_steps.specs.Done.{RunSeen, RunTells, outside_of}
use Rattle.run_steps.specs.Meaning.{EndsBy}
use Rattle.run_steps.specs.Carrying.{CarriesOut}
use Rattle.run_steps.specs.Steps.{DoingAll, Finish}
use Rattle.run_steps.specs.Changing.{edit_uses}
use Rattle.edit_commands.specs.Edits.{said_acts}
use Rattle.edit_commands.specs.EditsInPart.{IsLeftFor}
use Rattle.edit_steps.specs.EditStep.{edit_cause, edit_step}
use Rattle.run_steps.proofs.OpeningLemmas.{refused_steps, unwritten, with_store}
use Rattle.run_steps.proofs.ReasonLemmas.{reason_but_stated}
use Rattle.edit_commands.proofs.EditLemmas.{Saying}
use Rattle.edit_steps.proofs.RefusedEditLemmas.{IsRefusedAt, edit_no_output, refused_part, HasEditCause, edit_reason}

-- a file that was only read before an edit that was refused
pub left_for-read : (cause : Cause) (old between left : Option (List ℕ)) → between ≡ old → IsLeftFor cause between left
    → IsLeftFor cause old left
left_for-read cause old between left same is = subst (λ (bytes : Option (List ℕ)). IsLeftFor cause bytes left) same is

-- the edit of a value was refused
pub edit_unmade : (name : List ℕ) (edit : Edit) (value : QuotaValue) (lines : List (List ℕ)) (warns : Bool)
    (more : Cause → List ℕ → Type 0) (tells : RunTells) (old : RunSeen) (store : StoreSeen)
    (holds : QuotaValue → Type 0) (fault : EditFault)
    → (IsTrue tells.store → holds value)
    → IsRefusedAt name edit value (IsTrue tells.store) old.store store (edit_cause fault)
    → HasEditCause edit (old.store.files name) old.store.faults store.faults holds fault → more (edit_cause fault) name
    → CarriesOut (Saying (edit_step InPlace name edit (old.store.files name) value) lines) (edit_uses warns) more tells
    old (with_store old store) (Err (refusal_of (edit_cause fault) name))
edit_unmade name edit value lines warns more tells old store holds fault held refused cause allowed = record {
  done = tt;
  refused = reason_but_stated (edit_uses warns) old (with_store old store) _ _ (edit_cause fault) (λ step told.
      let is = step value (held told.store) in
      refused_steps name (Saying (edit_step InPlace name edit (old.store.files name) value) lines) tells old store
      (refusal_of (edit_cause fault) name) (refused.whole is.1)
      (λ new same. subst
      (λ (o : Outcome (List Act)).
      EndsBy (Saying o lines) (outside_of old) [] new (Some (refusal_of (edit_cause fault) name))) (sym is.0)
      (record { acts_none = refl; same = same; ends = refl })))
      (edit_reason InPlace name edit (old.store.files name) (edit_uses warns) old (with_store old store)
      old.store.faults holds fault (omega arith) cause);
  part = λ told.
      refused_part InPlace name edit value (λ (acts : List Act). DoingAll (acts ++ said_acts lines) Finish) tells old
      store (edit_cause fault) (edit_no_output fault)
      (λ act from. inl (record { done_none = refl; at_hand = refl; same = refl })) refused told.store;
  may_refuse = allowed;
  placed = record { line = λ no. refl; input_line = λ no. refl };
  only_reads = λ only. absurd (cc);
  all_or_nothing = λ whole other. unwritten name old.store store (refused.whole other);
  quiet = λ no. refl;
  later = record {
    store = refused.leaves.later;
    input = omega arith;
    out = omega arith;
    err = omega arith;
    link = omega arith;
  };
}
