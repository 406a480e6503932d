-- Commands one after another, and commands in a line of a script: what was carried out.
use Rattle.std.proofs.Common.{◌≡◌, ◌≤◌, ℕ, List, ◌++◌, Option, None, Some, inl, inr, refl, sym, ap, subst, ◌∙◌, arith}
use Rattle.std.proofs.Common.{append_assoc}
use Rattle.outside.specs.Seen.{Started}
use Rattle.outside.specs.Text.{AppendsPrefix}
use Rattle.refusals.specs.declared.cause.Cause.{Cause}
use Rattle.refusals.specs.declared.reason.Refusal.{Refusal}
use Rattle.refusals.specs.Refusals.{in_line}
use Rattle.run_steps.specs.Act.{Act, answers, err_bytes, out_bytes, started_by}
use Rattle.run_steps.specs.Done.{AreDone, Outside, RunSeen, RunTells, outside_of}
use Rattle.run_steps.specs.Meaning.{EndsBy, HasBegun}
use Rattle.run_steps.specs.Run.{HasSteps, IsDoneInPart}
use Rattle.run_steps.specs.Steps.{Before, InLine, Steps}
use Rattle.run_steps.proofs.ActLemmas.{answers-append, err_bytes-append, follows-append, out_bytes-append}
use Rattle.run_steps.proofs.ActLemmas.{started_by-append}
use Rattle.run_steps.specs.Writes.{WritesInPart}
use Rattle.run_steps.proofs.WritesLemmas.{writes_for-then, writes_in_part-then}
use Rattle.run_steps.proofs.PartLemmas.{fails_before, part_from}

-- acts that were done, and then others
pub done_both : (tells : RunTells) (acts more : List Act) (old middle new : RunSeen) → AreDone tells acts old middle
    → AreDone tells more middle new → AreDone tells (acts ++ more) old new
done_both tells acts more old middle new one two = record {
  files = follows-append acts more old.store.files middle.store.files new.store.files one.files two.files;
  out =
      λ told. two.out told ∙ ap (λ (b : List ℕ). b ++ out_bytes more) (one.out told)
      ∙ append_assoc old.out.written (out_bytes acts) (out_bytes more)
      ∙ ap (λ (b : List ℕ). old.out.written ++ b) (sym (out_bytes-append acts more));
  err =
      λ told. two.err told ∙ ap (λ (b : List ℕ). b ++ err_bytes more) (one.err told)
      ∙ append_assoc old.err.written (err_bytes acts) (err_bytes more)
      ∙ ap (λ (b : List ℕ). old.err.written ++ b) (sym (err_bytes-append acts more));
  answered =
      two.answered ∙ ap (λ (b : List (List ℕ)). b ++ answers more) one.answered
      ∙ append_assoc old.link.answers (answers acts) (answers more)
      ∙ ap (λ (b : List (List ℕ)). old.link.answers ++ b) (sym (answers-append acts more));
  started = two.started ∙ ap (λ (s : Started). started_by more s) one.started
      ∙ sym (started_by-append acts more old.link.started);
  writes = writes_for-then acts more old.store.writes middle.store.writes new.store.writes one.writes two.writes;
}

-- Steps that are led to.

-- Acts lead to the next steps at another place: what these do there, behind the acts, steps do from this place.
pub record LeadsBy (acts : List Act) (next : Steps) (here : Outside) (steps : Steps) (from : Outside) : Type 0 where
  pub ends : (more : List Act) (to : Outside) (ended : Option Refusal) → EndsBy next here more to ended
      → EndsBy steps from (acts ++ more) to ended
  pub begun : (done hand : List Act) (now : Outside) → HasBegun next here done hand now
      → HasBegun steps from (acts ++ done) hand now

-- steps lead to those to which the next ones lead
pub led_both : (acts more : List Act) (last next steps : Steps) (there here from : Outside)
    → LeadsBy acts next here steps from → LeadsBy more last there next here
    → LeadsBy (acts ++ more) last there steps from
led_both acts more last next steps there here from first second = record {
  ends = λ rest to ended by. subst (λ (a : List Act). EndsBy steps from a to ended) (sym (append_assoc acts more rest))
      (first.ends (more ++ rest) to ended (second.ends rest to ended by));
  begun = λ done hand now by. subst (λ (a : List Act). HasBegun steps from a hand now)
      (sym (append_assoc acts more done)) (first.begun (more ++ done) hand now (second.begun done hand now by));
}

-- the acts were done, and then the next steps ended
pub steps_led : (acts : List Act) (next steps : Steps) (tells : RunTells) (ended : Option Refusal)
    (old middle new : RunSeen) → LeadsBy acts next (outside_of middle) steps (outside_of old)
    → AreDone tells acts old middle → HasSteps next tells ended middle new → HasSteps steps tells ended old new
steps_led acts next steps tells ended old middle new leads done has = record {
  acts = acts ++ has.acts;
  by_steps = leads.ends has.acts (outside_of new) ended has.by_steps;
  done = done_both tells acts has.acts old middle new done has.done;
}

-- a prefix behind bytes, and other bytes before them
prefix_behind : (old before middle new done bytes : List ℕ) → middle ≡ old ++ before
    → AppendsPrefix (middle ++ done) new bytes → AppendsPrefix (old ++ (before ++ done)) new bytes
prefix_behind old before middle new done bytes is prefix =
    subst (λ (b : List ℕ). AppendsPrefix b new bytes)
    (ap (λ (b : List ℕ). b ++ done) is ∙ append_assoc old before done) prefix

-- the acts were done, and then the next steps in part
pub part_led : {why : Option Cause} (acts : List Act) (next steps : Steps) (tells : RunTells) (old middle new : RunSeen)
    → old.out.faults ≤ middle.out.faults → old.err.faults ≤ middle.err.faults
    → LeadsBy acts next (outside_of middle) steps (outside_of old) → AreDone tells acts old middle
    → IsDoneInPart next tells why middle new → IsDoneInPart steps tells why old new
part_led acts next steps tells old middle new out_later err_later leads first part = record {
  done = acts ++ part.done;
  hand = part.hand;
  now = part.now;
  begun = leads.begun part.done part.hand part.now part.begun;
  files = part.files;
  out =
      λ told. subst (λ (b : List ℕ). AppendsPrefix (old.out.written ++ b) new.out.written (out_bytes part.hand))
      (sym (out_bytes-append acts part.done))
      (prefix_behind old.out.written (out_bytes acts) middle.out.written new.out.written (out_bytes part.done)
      (out_bytes part.hand) (first.out told) (part.out told));
  err =
      λ told. subst (λ (b : List ℕ). AppendsPrefix (old.err.written ++ b) new.err.written (err_bytes part.hand))
      (sym (err_bytes-append acts part.done))
      (prefix_behind old.err.written (err_bytes acts) middle.err.written new.err.written (err_bytes part.done)
      (err_bytes part.hand) (first.err told) (part.err told));
  answered =
      part.answered ∙ ap (λ (b : List (List ℕ)). b ++ answers part.done) first.answered
      ∙ append_assoc old.link.answers (answers acts) (answers part.done)
      ∙ ap (λ (b : List (List ℕ)). old.link.answers ++ b) (sym (answers-append acts part.done));
  started = part.started ∙ ap (λ (s : Started). started_by part.done s) first.started
      ∙ sym (started_by-append acts part.done old.link.started);
  datagrams = part.datagrams;
  writes =
      subst (λ (a : List Act). WritesInPart part.hand a old.store.writes new.store.writes)
      (sym (append_assoc acts part.done part.hand))
      (writes_in_part-then part.hand acts (part.done ++ part.hand) old.store.writes middle.store.writes new.store.writes
      first.writes part.writes);
  failed = λ is told. fails_before part.hand _ _ _ _ (λ rose. omega (arith, out_later, rose))
      (λ rose. omega (arith, err_later, rose)) (part.failed is told);
}

-- Commands one after another.

-- steps that passed lead to those behind them
led_before : (one others : Steps) (old : Outside) (acts : List Act) (middle : Outside) → EndsBy one old acts middle None
    → LeadsBy acts others middle (Before one others) old
led_before one others old acts middle passed = record {
  ends = λ more to ended by. inr (acts, middle, more, refl, passed, by);
  begun = λ done hand now by. inr (acts, middle, done, refl, passed, by);
}

-- steps passed, and then the ones behind them ended
pub steps_before : (one others : Steps) (tells : RunTells) (ended : Option Refusal) (old middle new : RunSeen)
    → HasSteps one tells None old middle → HasSteps others tells ended middle new
    → HasSteps (Before one others) tells ended old new
steps_before one others tells ended old middle new first then =
    steps_led first.acts others (Before one others) tells ended old middle new
    (led_before one others (outside_of old) first.acts (outside_of middle) first.by_steps) first.done then

-- steps passed, and then the ones behind them were done in part
pub part_before : {why : Option Cause} (one others : Steps) (tells : RunTells) (old middle new : RunSeen)
    → old.out.faults ≤ middle.out.faults → old.err.faults ≤ middle.err.faults
    → HasSteps one tells None old middle → IsDoneInPart others tells why middle new
    → IsDoneInPart (Before one others) tells why old new
part_before one others tells old middle new out_later err_later first part =
    part_led first.acts others (Before one others) tells old middle new out_later err_later
    (led_before one others (outside_of old) first.acts (outside_of middle) first.by_steps) first.done part

-- steps were refused, and none behind them came
pub steps_stopped : (one others : Steps) (tells : RunTells) (refusal : Refusal) (old new : RunSeen)
    → HasSteps one tells (Some refusal) old new → HasSteps (Before one others) tells (Some refusal) old new
steps_stopped one others tells refusal old new has =
    record { acts = has.acts; by_steps = inl (refusal, refl, has.by_steps); done = has.done }

-- steps were done in part, and none behind them came
pub part_stopped : {why : Option Cause} (one others : Steps) (tells : RunTells) (old new : RunSeen)
    → IsDoneInPart one tells why old new → IsDoneInPart (Before one others) tells why old new
part_stopped one others tells old new part = part_from one (Before one others) tells old old.store old.input new refl
    (λ done hand now by. inl by) part

-- steps ended in a line of a script
pub steps_in_line : (line : ℕ) (steps : Steps) (tells : RunTells) (ended : Option Refusal) (old new : RunSeen)
    → HasSteps steps tells ended old new → HasSteps (InLine line steps) tells (in_line line ended) old new
steps_in_line line steps tells ended old new has =
    record { acts = has.acts; by_steps = (ended, refl, has.by_steps); done = has.done }

-- and were done in part in one
pub part_in_line : {why : Option Cause} (line : ℕ) (steps : Steps) (tells : RunTells) (old new : RunSeen)
    → IsDoneInPart steps tells why old new → IsDoneInPart (InLine line steps) tells why old new
part_in_line line steps tells old new part = part_from steps (InLine line steps) tells old old.store old.input new refl
    (λ done hand now by. by) part
