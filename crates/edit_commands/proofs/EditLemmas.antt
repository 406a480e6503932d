-- From an edit that was made to what a command does that edits a file, and warns.
use Rattle.std.proofs.Common.{◌≡◌, ℕ, ◌≤◌, Bool, true, false, IsTrue, List, [], ◌∷◌, ◌++◌, take, None, Some, Ok, Err}
use Rattle.std.proofs.Common.{inr, refl, sym, ap, subst, ◌∙◌, arith, append-nil, append_assoc}
use Rattle.std.specs.List.{concat}
use Rattle.std.proofs.lemmas.Bool.{false≢true}
use Rattle.outside.specs.Count.{Rose}
use Rattle.quota_value.specs.QuotaValue.{QuotaValue}
use Rattle.outside.specs.Seen.{SinkSeen, Started, StoreSeen}
use Rattle.outside.specs.Text.{AppendsPrefix}
use Rattle.outside.specs.World.{World}
use Rattle.set_edit.specs.Editing.{Edit}
use Rattle.refusals.specs.declared.cause.Cause.{Cause}
use Rattle.refusals.specs.declared.cause.Cause.TheVariants.{SinkFault}
use Rattle.refusals.specs.Refusals.{refusal_of}
use Rattle.refusals.specs.Outcome.{Outcome}
use Rattle.run_steps.specs.Act.{Act, Follows, ToErr, answers, err_bytes, out_bytes, started_by, InPlace}
use Rattle.run_steps.specs.Done.{AreDone, RunSeen, RunTells}
use Rattle.run_steps.specs.Carrying.{AreDoneInPart, CarriesOut}
use Rattle.run_steps.specs.Run.{FailsAtHand, HasSteps, IsDoneInPart}
use Rattle.run_steps.specs.Steps.{DoingAll, Finish, Steps, Then}
use Rattle.run_steps.specs.Changing.{edit_uses}
use Rattle.edit_commands.specs.Edits.{said_acts}
use Rattle.edit_commands.specs.EditsInPart.{IsSaidInPart}
use Rattle.edit_steps.specs.EditStep.{edit_step}
use Rattle.run_steps.proofs.ActLemmas.{answers-append, appends_nothing, err_bytes-append, follows-append, none_in_part}
use Rattle.run_steps.proofs.ActLemmas.{out_bytes-append, started_by-append}
use Rattle.run_steps.proofs.DoingLemmas.{AreWritten, done_steps}
use Rattle.run_steps.proofs.PartLemmas.{acts_in_part, carried_whole}
use Rattle.run_steps.proofs.WritesLemmas.{writes_for-before, writes_in_part}
use Rattle.edit_steps.proofs.EditLemmas.{IsMade, acts_of, step_made, acts_written}

-- what is seen once the store was used, and lines were said
abbrev pub with_said : RunSeen → StoreSeen → SinkSeen → RunSeen
with_said seen store err = record seen { store = store; err = err }

-- Lines that are said.

said_append : (lines more : List (List ℕ)) → said_acts (lines ++ more) ≡ said_acts lines ++ said_acts more
said_append [] more = refl
said_append (line ∷ lines) more = ap (λ (acts : List Act). ToErr line ∷ acts) (said_append lines more)

follows_said : (lines : List (List ℕ)) (files : World) → Follows (said_acts lines) files files
follows_said [] files = refl
follows_said (line ∷ lines) files = (files, refl, follows_said lines files)

said_out : (lines : List (List ℕ)) → out_bytes (said_acts lines) ≡ []
said_out [] = refl
said_out (line ∷ lines) = said_out lines

said_answers : (lines : List (List ℕ)) → answers (said_acts lines) ≡ []
said_answers [] = refl
said_answers (line ∷ lines) = said_answers lines

said_started : (lines : List (List ℕ)) (before : Started) → started_by (said_acts lines) before ≡ before
said_started [] before = refl
said_started (line ∷ lines) before = said_started lines before

said_err : (lines : List (List ℕ)) → err_bytes (said_acts lines) ≡ concat lines
said_err [] = refl
said_err (line ∷ lines) = ap (λ (b : List ℕ). line ++ b) (said_err lines)

-- acts that only change files, and then lines that are said, say these lines
all_err : (acts : List Act) (lines : List (List ℕ)) (old store : StoreSeen) → AreWritten acts old store
    → err_bytes (acts ++ said_acts lines) ≡ concat lines
all_err acts lines old store are =
    err_bytes-append acts (said_acts lines) ∙ ap (λ (b : List ℕ). b ++ err_bytes (said_acts lines)) are.err
    ∙ said_err lines

-- they were done
all_said : (acts : List Act) (lines : List (List ℕ)) (tells : RunTells) (old : RunSeen) (store : StoreSeen)
    (err : SinkSeen) → AreWritten acts old.store store
    → (IsTrue tells.err → err.written ≡ old.err.written ++ concat lines)
    → AreDone tells (acts ++ said_acts lines) old (with_said old store err)
all_said acts lines tells old store err are said = record {
  files = follows-append acts (said_acts lines) old.store.files store.files store.files are.files
      (follows_said lines store.files);
  out = λ told. sym (append-nil old.out.written) ∙ ap (λ (b : List ℕ). old.out.written ++ b)
      (sym (out_bytes-append acts (said_acts lines) ∙ ap (λ (b : List ℕ). b ++ out_bytes (said_acts lines)) are.out
      ∙ said_out lines));
  err = λ told. said told ∙ ap (λ (b : List ℕ). old.err.written ++ b) (sym (all_err acts lines old.store store are));
  answered = sym (append-nil old.link.answers) ∙ ap (λ (b : List (List ℕ)). old.link.answers ++ b)
      (sym (answers-append acts (said_acts lines)
      ∙ ap (λ (b : List (List ℕ)). b ++ answers (said_acts lines)) are.answered ∙ said_answers lines));
  started = sym (started_by-append acts (said_acts lines) old.link.started
      ∙ said_started lines (started_by acts old.link.started) ∙ are.started old.link.started);
  writes = writes_for-before acts (said_acts lines) old.store.writes store.writes are.writes;
}

-- acts were done up to lines, and these come next
abbrev SaidUpTo : RunTells → (acts next : List Act) → (old new : RunSeen) → Type 0
SaidUpTo tells acts next old new = (part : AreDoneInPart tells acts old new) × (part.rest ≡ next)

-- some lines were said, and of the next one a prefix
said_up_to : (acts : List Act) (lines said unsaid : List (List ℕ)) (tells : RunTells) (old : RunSeen)
    (store : StoreSeen) (err : SinkSeen) → AreWritten acts old.store store → lines ≡ said ++ unsaid
    → (IsTrue tells.err
    → AppendsPrefix (old.err.written ++ concat said) err.written (err_bytes (take 1 (said_acts unsaid))))
    → SaidUpTo tells (acts ++ said_acts lines) (said_acts unsaid) old (with_said old store err)
said_up_to acts lines said unsaid tells old store err are whole part =
    let first =
    all_said acts said (record tells { err = false }) old store err are (λ told. absurd (false≢true told)) in (
      record {
        done = acts ++ said_acts said;
        rest = said_acts unsaid;
        whole = ap (λ (l : List (List ℕ)). acts ++ said_acts l) whole
            ∙ ap (λ (a : List Act). acts ++ a) (said_append said unsaid)
            ∙ sym (append_assoc acts (said_acts said) (said_acts unsaid));
        files = (store.files, first.files, none_in_part (said_acts unsaid) store.files store.files refl);
        out = λ told. appends_nothing (old.out.written ++ out_bytes (acts ++ said_acts said)) old.out.written
            (out_bytes (take 1 (said_acts unsaid))) (first.out told);
        err = λ told. subst
            (λ (b : List ℕ). AppendsPrefix (old.err.written ++ b) err.written (err_bytes (take 1 (said_acts unsaid))))
            (sym (all_err acts said old.store store are)) (part told);
        answered = first.answered;
        started = first.started;
        writes =
            writes_in_part (take 1 (said_acts unsaid)) ((acts ++ said_acts said) ++ take 1 (said_acts unsaid))
            old.store.writes store.writes
            (writes_for-before (acts ++ said_acts said) (take 1 (said_acts unsaid)) old.store.writes
            store.writes first.writes);
      },
      refl,
    )

-- the error output failed in a line, which is at hand where it tells
abbrev UnsaidIn : RunTells → List Act → (old new : RunSeen) → Type 0
UnsaidIn tells acts old new =
    (part : AreDoneInPart tells acts old new)
    × (IsTrue tells.err → (line : List ℕ) × (more : List Act) × (part.rest ≡ ToErr line ∷ more))

unsaid_told : (acts : List Act) (lines : List (List ℕ)) (tells : RunTells) (old : RunSeen) (store : StoreSeen)
    (err : SinkSeen) → AreWritten acts old.store store
    → IsSaidInPart lines old.err.written err.written
    → UnsaidIn tells (acts ++ said_acts lines) old (with_said old store err)
unsaid_told acts lines tells old store err are part =
    let up_to = said_up_to acts lines part.said (part.line ∷ part.more) tells old store err are
    (part.whole ∙ ap (λ (u : List (List ℕ)). part.said ++ u) part.next)
    (λ told. subst (λ (b : List ℕ). AppendsPrefix (old.err.written ++ concat part.said) err.written b)
    (sym (append-nil part.line)) part.written) in
    (up_to.0, λ told. (part.line, said_acts part.more, up_to.1))

unsaid_case : (acts : List Act) (lines : List (List ℕ)) (tells : RunTells) (old : RunSeen) (store : StoreSeen)
    (err : SinkSeen) (told : Bool) → told ≡ tells.err → AreWritten acts old.store store
    → (IsTrue tells.err → IsSaidInPart lines old.err.written err.written)
    → UnsaidIn tells (acts ++ said_acts lines) old (with_said old store err)
unsaid_case acts lines tells old store err true is are part =
    unsaid_told acts lines tells old store err are (part (sym is))
unsaid_case acts lines tells old store err false is are part =
    let up_to = said_up_to acts lines [] lines tells old store err are refl (λ told. absurd (false≢true (is ∙ told))) in
    (up_to.0, λ told. absurd (false≢true (is ∙ told)))

-- a line that is at hand fails where the error output did
fails_unsaid : (rest : List Act) (line : List ℕ) (more : List Act) (out err : Type 0) → rest ≡ ToErr line ∷ more → err
    → FailsAtHand (take 1 rest) out err
fails_unsaid rest line more out err is failed = subst (λ (r : List Act). FailsAtHand (take 1 r) out err) (sym is) failed

-- Edits that were made.

-- the steps of an edit with this outcome, which says these lines
abbrev pub Saying : Outcome (List Act) → List (List ℕ) → Steps
Saying outcome lines = Then outcome (λ (acts : List Act). DoingAll (acts ++ said_acts lines) Finish)

-- an edit of a value was made, and all that is to be said was said
made_steps : (name : List ℕ) (edit : Edit) (value : QuotaValue) (lines : List (List ℕ)) (tells : RunTells)
    (old : RunSeen) (store : StoreSeen) (err : SinkSeen) → IsMade name edit value (IsTrue tells.store) old.store store
    → (IsTrue tells.err → err.written ≡ old.err.written ++ concat lines) → IsTrue tells.store
    → HasSteps (Saying (edit_step InPlace name edit (old.store.files name) value) lines) tells None old
    (with_said old store err)
made_steps name edit value lines tells old store err made said told =
    subst (λ (o : Outcome (List Act)). HasSteps (Saying o lines) tells None old (with_said old store err))
    (sym (step_made InPlace name edit value _ old.store store made told))
    (done_steps (acts_of InPlace name edit value ++ said_acts lines) None tells old (with_said old store err) refl refl
    (all_said (acts_of InPlace name edit value) lines tells old store err
    (acts_written InPlace name edit value _ old.store store made told) said))

pub edit_made : (name : List ℕ) (edit : Edit) (value : QuotaValue) (lines : List (List ℕ)) (warns : Bool)
    (may : Cause → List ℕ → Type 0) (tells : RunTells) (old : RunSeen) (store : StoreSeen) (err : SinkSeen)
    → IsMade name edit value (IsTrue tells.store) old.store store
    → (IsTrue tells.store → IsTrue tells.err → err.written ≡ old.err.written ++ concat lines)
    → (warns ≡ false → err ≡ old.err) → old.err.faults ≤ err.faults
    → CarriesOut (Saying (edit_step InPlace name edit (old.store.files name) value) lines) (edit_uses warns) may tells
    old (with_said old store err) (Ok tt)
edit_made name edit value lines warns may tells old store err made said quiet later =
    carried_whole (Saying (edit_step InPlace name edit (old.store.files name) value) lines) (edit_uses warns) may tells
    old (with_said old store err) tt
    (λ told. made_steps name edit value lines tells old store err made (said told.store) told.store)
    (λ only. absurd (false≢true (sym only))) quiet
    (record { store = made.leaves.later; input = omega arith; out = omega arith; err = later; link = omega arith })

-- an edit of a value was made, and the error output failed in a line
pub edit_unsaid : (name : List ℕ) (edit : Edit) (value : QuotaValue) (lines : List (List ℕ)) (warns : Bool)
    (may : Cause → List ℕ → Type 0) (tells : RunTells) (old : RunSeen) (store : StoreSeen) (err : SinkSeen)
    → IsMade name edit value (IsTrue tells.store) old.store store
    → (IsTrue tells.store → IsTrue tells.err → IsSaidInPart lines old.err.written err.written)
    → IsTrue warns → Rose old.err.faults err.faults → old.err.faults ≤ err.faults → may SinkFault name
    → CarriesOut (Saying (edit_step InPlace name edit (old.store.files name) value) lines) (edit_uses warns) may tells
    old (with_said old store err) (Err (refusal_of SinkFault name))
edit_unsaid name edit value lines warns may tells old store err made said warning rose later allowed = record {
  done = tt;
  refused = inr (warning, rose);
  part = λ told.
      let unsaid = unsaid_case (acts_of InPlace name edit value) lines tells old store err tells.err refl
      (acts_written InPlace name edit value _ old.store store made told.store) (said told.store) in
      subst (λ (o : Outcome (List Act)). IsDoneInPart (Saying o lines) tells (Some SinkFault) old
      (with_said old store err)) (sym (step_made InPlace name edit value _ old.store store made told.store))
      (acts_in_part (acts_of InPlace name edit value ++ said_acts lines) None tells old
      (with_said old store err) refl unsaid.0
      (λ is err_told.
      let next = unsaid.1 err_told in
      fails_unsaid unsaid.0.rest next.0 next.1 _ _ next.2 rose));
  may_refuse = allowed;
  placed = record { line = λ no. refl; input_line = λ no. refl };
  only_reads = λ only. absurd (cc);
  all_or_nothing = λ whole other. absurd (other refl);
  quiet = λ no. absurd (false≢true (sym no ∙ warning));
  later = record { store = made.leaves.later; input = omega arith; out = omega arith; err = later; link = omega arith };
}
