-- From what a command did to the effect of the words, and to what a run keeps.
use Rattle.std.proofs.Common.{◌≡◌, ◌≢◌, ℕ, ◌≤◌, Bool, false, IsTrue, List, [], ◌++◌, Option, None, Some, Ok, Err}
use Rattle.std.proofs.Common.{Result, ◌⊎◌, inl, inr, refl, sym, ap, subst, ◌∙◌, arith, append-nil, append_assoc}
use Rattle.std.specs.Prelude.{⊤, ◌↔◌, IfErr, IsErr, IsErrAnd}
use Rattle.std.specs.Result.{result_err}
use Rattle.std.proofs.lemmas.Option.{none-some}
use Rattle.outside.specs.Count.{Rose}
use Rattle.outside.specs.Seen.{SinkSeen}
use Rattle.outside.proofs.CountLemmas.{Rose-since}
use Rattle.refusals.specs.declared.cause.Cause.{Cause}
use Rattle.refusals.specs.declared.cause.Cause.TheVariants.{StoreFault, SourceFault, SinkFault, LinkFault, Memory}
use Rattle.refusals.specs.declared.reason.Refusal.{Refusal}
use Rattle.refusals.specs.Line.{closing_line, error_line}
use Rattle.refusals.specs.Said.{AppendsUnless}
use Rattle.refusals.specs.Status.{end_status, group_of, status_of}
use Rattle.refusals.proofs.GroupLemmas.{ByFault, ByMemory, ByStep, GroupCase, by_group_of, group_case}
use Rattle.run_steps.specs.Act.{err_bytes}
use Rattle.run_steps.specs.Done.{IsAllTold, IsLater, IsUnwritten, IsWorldTold, NoFault, RunSeen, RunTells, outside_of}
use Rattle.run_steps.specs.Meaning.{EndsBy, IsSure, closing}
use Rattle.run_steps.specs.OneCommand.{ReadsToEnd}
use Rattle.run_steps.specs.Received.{AreReceived, Receives}
use Rattle.run_steps.specs.Run.{HasFailed, HasReason, HasSteps, IsDoneInPart, Uses}
use Rattle.run_steps.specs.Carrying.{CarriesOut}
use Rattle.run_steps.specs.Writes.{ReadsWithin}
use Rattle.quota_cli.specs.Headline.{HasEffect, HasEffectUpToErr, HasSaid, IsRefusedRun, IsRefusedWord, IsStopped}
use Rattle.quota_cli.specs.Headline.{Keeps, LeavesLink, CommandLine, asked, steps_asked, uses_asked}
use Rattle.quota_cli.specs.Script.{StandsInScript}
use Rattle.command_words.specs.Asked.{command_of}
use Rattle.descriptions.specs.Description.{IsLeftByEdit, IsOnlyRead}
use Rattle.command_table.specs.CarriedOut.{AreReadsTold, StopsIt, IsCarriedOut}
use Rattle.run_steps.proofs.ActLemmas.{done_and_said, more_err, nothing_before}
use Rattle.run_steps.proofs.MeaningLemmas.{sure_ends}
use Rattle.run_steps.proofs.TakenLemmas.{received, to_end}
use Rattle.run_steps.proofs.PartLemmas.{part_but_err}
use Rattle.run_steps.proofs.ReasonLemmas.{reason_but_stated}
use Rattle.quota_cli.proofs.AskedLemmas.{setting_full}
use Rattle.quota_cli.proofs.EndStatusLemmas.{no_status_0, run_edited, run_held, run_named, run_synced, run_untaken}
use Rattle.quota_cli.proofs.EndStatusLemmas.{run_wanting, status_2}

-- the steps of what the words of a setting ask for were carried out
abbrev AskedCarried : CommandLine → RunTells → RunSeen → RunSeen → Result (Unit {0}) Refusal → Type 0
AskedCarried typed = CarriesOut (steps_asked typed) (uses_asked typed) (asked typed).may

-- what is refused stands in the script, where the words ask for one
abbrev AreStanding : CommandLine → RunTells → (old new : RunSeen) → Result (Unit {0}) Refusal → Type 0
AreStanding typed tells old new result =
    IsTrue (uses_asked typed).reads_commands → IfErr result (StandsInScript typed.invocation.now tells old new)

-- A run ended: the status is that of what was carried out, and the error line of a refusal was written, up to a fault
-- of the error output.
pub record IsFinished (tells : RunTells) (silent said : SinkSeen) (result : Result (Unit {0}) Refusal)
    (status : ℕ) : Type 0 where
  pub status_is : status ≡ end_status (result_err result)
  pub written : IsTrue tells.err
      → AppendsUnless (Rose silent.faults said.faults) silent.written said.written (closing_line (result_err result))
  pub later : silent.faults ≤ said.faults

-- what is seen once the error line was written
abbrev pub once_said : RunSeen → SinkSeen → RunSeen
once_said seen said = record seen { err = said }

-- nothing was written
nothing_said : (new said : SinkSeen) → AppendsUnless (Rose new.faults said.faults) new.written said.written []
    → said.written ≡ new.written
nothing_said new said written =
    written.prefix.appended
    ∙ ap (λ (b : List ℕ). new.written ++ b)
    (nothing_before written.prefix.done written.prefix.rest written.prefix.prefix) ∙ append-nil new.written

-- a fault of an object outside needs a count that rose
no_reason : (warns link : Bool) (old new : RunSeen) (said : SinkSeen) (cause : Cause) → new.err.faults ≤ said.faults
    → HasFailed warns link old new cause → NoFault old (once_said new said) → ⊥
no_reason warns link old new said StoreFault later failed none = none.store failed
no_reason warns link old new said SourceFault later failed none = none.input failed
no_reason warns link old new said SinkFault later (inl failed) none = none.out failed
no_reason warns link old new said SinkFault later (inr warned) none = none.err (omega (arith, later, warned.1))
no_reason warns link old new said LinkFault later failed none = none.link failed.1
no_reason warns link old new said _ later failed none = failed

-- the cases of the reason for which a command was refused
abbrev ReasonCase : CommandLine → RunTells → (old new : RunSeen) → Refusal → Type 0
ReasonCase typed tells old new refusal =
    GroupCase (group_of refusal.cause)
    (HasFailed (uses_asked typed).warns (uses_asked typed).link old new refusal.cause)
    (IsWorldTold tells → HasSteps (steps_asked typed) tells (Some refusal) old new)

reason_case : (typed : CommandLine) (tells : RunTells) (old new : RunSeen) (refusal : Refusal)
    → AskedCarried typed tells old new (Err refusal) → ReasonCase typed tells old new refusal
reason_case typed tells old new refusal carries = group_case (group_of refusal.cause) _ _ carries.refused

-- What was done and said.

refused_up_to_err : (typed : CommandLine) (tells : RunTells) (old new : RunSeen) (said : SinkSeen) (refusal : Refusal)
    (status : ℕ) → IsWorldTold tells → ReasonCase typed tells old new refusal
    → status ≡ status_of refusal.cause → status ≢ 4 → status ≢ 5 → old.err.faults ≤ new.err.faults
    → (IsTrue tells.err
    → AppendsUnless (Rose new.err.faults said.faults) new.err.written said.written (error_line refusal))
    → (has : HasEffectUpToErr typed tells old (once_said new said) status) × (has.before ≡ new.err)
refused_up_to_err typed tells old new said refusal status told (ByFault is_4 failed) is four five later written =
    absurd (four (is ∙ is_4))
refused_up_to_err typed tells old new said refusal status told (ByMemory is_5) is four five later written =
    absurd (five (is ∙ is_5))
refused_up_to_err typed tells old new said refusal status told (ByStep not_4 not_5 stated) is four five
    later written = (
      record { refusal = Some refusal; before = new.err; later = later; has = stated told; ended = is; line = written },
      refl,
    )

-- what was done and said, and what the error output had got before the error line
done_so : (typed : CommandLine) (tells : RunTells) (old new : RunSeen) (said : SinkSeen)
    (result : Result (Unit {0}) Refusal) (status : ℕ)
    → AskedCarried typed tells old new result → IsFinished tells new.err said result status
    → IsWorldTold tells → status ≢ 4 → status ≢ 5
    → (has : HasEffectUpToErr typed tells old (once_said new said) status) × (has.before ≡ new.err)
done_so typed tells old new said (Ok value) status carries finished told four five = (
  record {
    refusal = None;
    before = new.err;
    later = carries.later.err;
    has = carries.done told;
    ended = finished.status_is;
    line = finished.written;
  },
  refl,
)
done_so typed tells old new said (Err refusal) status carries finished told four five =
    refused_up_to_err typed tells old new said refusal status told (reason_case typed tells old new refusal carries)
    finished.status_is four five carries.later.err finished.written

run_done : (typed : CommandLine) (tells : RunTells) (old new : RunSeen) (said : SinkSeen)
    (result : Result (Unit {0}) Refusal) (status : ℕ)
    → AskedCarried typed tells old new result → IsFinished tells new.err said result status
    → IsWorldTold tells → status ≢ 4 → status ≢ 5 → HasEffectUpToErr typed tells old (once_said new said) status
run_done typed tells old new said result status carries finished told four five =
    (done_so typed tells old new said result status carries finished told four five).0

-- nothing is left of an input that was read
nothing_left : (typed : CommandLine) (tells : RunTells) (refusal : Option Refusal) (old new : RunSeen) (status : ℕ)
    → HasSteps (steps_asked typed) tells refusal old new → status ≡ end_status refusal
    → (IsTrue (uses_asked typed).input → ReadsToEnd (steps_asked typed)) → status ≡ 0 → IsTrue (uses_asked typed).input
    → new.input.left ≡ []
nothing_left typed tells None old new status has ended reads zero uses =
    to_end (steps_asked typed) (outside_of old) has.acts (outside_of new) (reads uses) has.by_steps
nothing_left typed tells (Some refusal) old new status has ended reads zero uses =
    absurd (no_status_0 refusal.cause (sym ended ∙ zero))

-- as many datagrams were taken as steps that passed receive
taken_so : (typed : CommandLine) (tells : RunTells) (refusal : Option Refusal) (old new : RunSeen) (status : ℕ)
    → HasSteps (steps_asked typed) tells refusal old new → status ≡ end_status refusal
    → (count : ℕ) → Receives count (steps_asked typed) → status ≡ 0 → AreReceived count old.link.left new.link.left
taken_so typed tells None old new status has ended count receives zero =
    received count (steps_asked typed) (outside_of old) has.acts (outside_of new) receives has.by_steps
taken_so typed tells (Some refusal) old new status has ended count receives zero =
    absurd (no_status_0 refusal.cause (sym ended ∙ zero))

-- where the error output did not fail, all was done
whole_effect : (typed : CommandLine) (tells : RunTells) (old new : RunSeen) (status : ℕ)
    (has : HasEffectUpToErr typed tells old new status) → old.err.faults ≤ has.before.faults
    → IsTrue tells.err → ¬ Rose old.err.faults new.err.faults
    → (IsTrue (uses_asked typed).input → ReadsToEnd (steps_asked typed)) → HasEffect typed tells old new status
whole_effect typed tells old new status has later told none reads =
    let own = has.has.acts in
    let bytes = closing_line has.refusal in
    let wrote : new.err.written ≡ has.before.written ++ bytes =
    (has.line told).whole (λ rose. none (Rose-since old.err.faults has.before.faults new.err.faults later rose)) in
    let said : new.err.written ≡ old.err.written ++ err_bytes (own ++ closing has.refusal) =
    wrote
    ∙ ap (λ (b : List ℕ). b ++ bytes) (has.has.done.err told)
    ∙ append_assoc old.err.written (err_bytes own) bytes
    ∙ ap (λ (b : List ℕ). old.err.written ++ b) (sym (more_err has.refusal own)) in
    let done = done_and_said tells has.refusal own old (record new { err = has.before }) new.err tells.err
    has.has.done (λ _. said) in
    record {
      acts = own ++ closing has.refusal;
      effect =
          record { own = own; refusal = has.refusal; by_steps = has.has.by_steps; acts_all = refl; ended = has.ended };
      done = record {
        files = done.files;
        out = done.out;
        err = done.err;
        answered = done.answered;
        started = done.started;
        writes = done.writes;
      };
      input = nothing_left typed tells has.refusal old (record new { err = has.before }) status has.has has.ended reads;
      datagrams = taken_so typed tells has.refusal old (record new { err = has.before }) status has.has has.ended;
      full =
          λ refusal blocks limit is cause. setting_full typed (outside_of old) own (outside_of new) refusal blocks limit
          (subst (λ (r : Option Refusal). EndsBy (steps_asked typed) (outside_of old) own (outside_of new) r) is
          has.has.by_steps) cause;
    }

-- a fault without a count that rose is none
not_4 : (typed : CommandLine) (tells : RunTells) (old new : RunSeen) (said : SinkSeen)
    (result : Result (Unit {0}) Refusal) (status : ℕ)
    → AskedCarried typed tells old new result → IsFinished tells new.err said result status
    → NoFault old (once_said new said) → status ≢ 4
not_4 typed tells old new said (Ok value) status carries finished none four =
    let zero = finished.status_is in omega (arith, zero, four)
not_4 typed tells old new said (Err refusal) status carries finished none four =
    by_case (reason_case typed tells old new refusal carries)
  where
    by_case : ReasonCase typed tells old new refusal → ⊥
    by_case (ByFault is_4 failed) = no_reason _ _ old new said refusal.cause finished.later failed none
    by_case (ByMemory is_5) = let five = finished.status_is ∙ is_5 in omega (arith, five, four)
    by_case (ByStep not_4 not_5 stated) = not_4 (sym finished.status_is ∙ four)

pub run_headline : (typed : CommandLine) (tells : RunTells) (old new : RunSeen) (said : SinkSeen)
    (result : Result (Unit {0}) Refusal) (status : ℕ)
    → (IsTrue (uses_asked typed).input → ReadsToEnd (steps_asked typed)) → AskedCarried typed tells old new result
    → IsFinished tells new.err said result status
    → IsAllTold tells → NoFault old (once_said new said) → status ≢ 5
    → HasEffect typed tells old (once_said new said) status
run_headline typed tells old new said result status reads carries finished told none five =
    let has = done_so typed tells old new said result status carries finished told.world
    (not_4 typed tells old new said result status carries finished none) five in
    whole_effect typed tells old (once_said new said) status has.0
    (subst (λ (s : SinkSeen). old.err.faults ≤ s.faults) (sym has.1) carries.later.err) told.err none.err reads

run_part : (typed : CommandLine) (tells : RunTells) (old new : RunSeen) (said : SinkSeen)
    (result : Result (Unit {0}) Refusal) → AskedCarried typed tells old new result
    → IsWorldTold tells → IsDoneInPart (steps_asked typed) (record tells { err = false }) None old (once_said new said)
run_part typed tells old new said result carries told =
    part_but_err (steps_asked typed) tells old new said (carries.part told)

-- a line that was written, of an error output that had got nothing before
line_since : (old new said : SinkSeen) (bytes : List ℕ) → new ≡ old
    → AppendsUnless (Rose new.faults said.faults) new.written said.written bytes
    → AppendsUnless (Rose old.faults said.faults) old.written said.written bytes
line_since old new said bytes same written =
    subst (λ (s : SinkSeen). AppendsUnless (Rose s.faults said.faults) s.written said.written bytes) same written

-- a status that is neither that of a fault nor that of lack of memory
stopped_not : (status other : ℕ) → status ≡ other → other ≢ 4 → other ≢ 5 → (status ≡ 4) ⊎ (status ≡ 5) → ⊥
stopped_not status other is not_4 not_5 (inl four) = not_4 (sym is ∙ four)
stopped_not status other is not_4 not_5 (inr five) = not_5 (sym is ∙ five)

-- a status that is that of a fault or of lack of memory is that of the cause
stops_it : (status other : ℕ) → status ≡ other → (status ≡ 4) ⊎ (status ≡ 5) → (other ≡ 4) ⊎ (other ≡ 5)
stops_it status other is (inl four) = inl (sym is ∙ four)
stops_it status other is (inr five) = inr (sym is ∙ five)

-- the link is as it was where nothing that was reached uses it
abbrev IsUnlinked : CommandLine → RunTells → RunSeen → RunSeen → Result (Unit {0}) Refusal → Type 0
IsUnlinked typed tells old new result = LeavesLink typed tells old new (result_err result)

abbrev refused_run : (typed : CommandLine) (tells : RunTells) (old new : RunSeen) (said : SinkSeen)
    (refusal : Refusal) (status : ℕ)
    → AskedCarried typed tells old new (Err refusal) → AreStanding typed tells old new (Err refusal)
    → IsUnlinked typed tells old new (Err refusal) → IsFinished tells new.err said (Err refusal) status
    → IsRefusedRun typed tells old (once_said new said) status
refused_run typed tells old new said refusal status carries stands unlinked finished = record {
  refusal = refusal;
  before = new.err;
  later = carries.later.err;
  may = carries.may_refuse;
  placed = record { by_uses = carries.placed; in_script = stands };
  reason = reason_but_stated (uses_asked typed) old new _ ⊤ refusal.cause (λ _. tt) carries.refused;
  status_is = finished.status_is;
  quiet = carries.quiet;
  line = finished.written;
  unlinked = unlinked;
}

run_stopped : (typed : CommandLine) (tells : RunTells) (old new : RunSeen) (said : SinkSeen)
    (result : Result (Unit {0}) Refusal) (status : ℕ)
    → AskedCarried typed tells old new result
    → IfErr result
    (λ (refusal : Refusal). refusal.cause ≡ LinkFault → (asked typed).unfinished typed.invocation tells old new)
    → (IsTrue (uses_asked typed).reads_commands
    → IfErr result (λ (refusal : Refusal). StopsIt refusal.cause → refusal.place.line ≡ None → IsOnlyRead old new))
    → AreStanding typed tells old new result → IsUnlinked typed tells old new result
    → IsFinished tells new.err said result status
    → (status ≡ 4) ⊎ (status ≡ 5) → IsStopped typed tells old (once_said new said) status
run_stopped typed tells old new said (Ok value) status carries unfinished unbegun stands unlinked finished ends =
    absurd (stopped_not status 0 finished.status_is (λ e. omega (arith, e)) (λ e. omega (arith, e)) ends)
run_stopped typed tells old new said (Err refusal) status carries unfinished unbegun stands unlinked finished ends =
    record {
      run = refused_run typed tells old new said refusal status carries stands unlinked finished;
      reason = by_case (reason_case typed tells old new refusal carries);
      part = carries.part;
      unfinished = unfinished;
      unbegun = λ reads. unbegun reads (stops_it status (status_of refusal.cause) finished.status_is ends);
    }
  where
    by_case : ReasonCase typed tells old new refusal → HasReason (uses_asked typed) old new ⊥ refusal.cause
    by_case (ByFault is_4 failed) =
        by_group_of (group_of refusal.cause) _ ⊥ (λ four. failed) (λ not_4 not_5. not_4 is_4)
    by_case (ByMemory is_5) =
        by_group_of (group_of refusal.cause) _ ⊥ (λ four. absurd (omega (arith, four, is_5)))
        (λ not_4 not_5. not_5 is_5)
    by_case (ByStep not_4 not_5 stated) =
        absurd (stopped_not status (status_of refusal.cause) finished.status_is not_4 not_5 ends)

run_complete : (typed : CommandLine) (tells : RunTells) (old new : RunSeen) (said : SinkSeen)
    (result : Result (Unit {0}) Refusal) (status : ℕ)
    → AskedCarried typed tells old new result → IsFinished tells new.err said result status
    → IsWorldTold tells → IsSure (steps_asked typed) (outside_of old) → NoFault old (once_said new said)
    → (status ≡ 0) ⊎ (status ≡ 5)
run_complete typed tells old new said (Ok value) status carries finished told sure none = inl finished.status_is
run_complete typed tells old new said (Err refusal) status carries finished told sure none =
    by_case (reason_case typed tells old new refusal carries)
  where
    by_case : ReasonCase typed tells old new refusal → (status ≡ 0) ⊎ (status ≡ 5)
    by_case (ByFault is_4 failed) = absurd (no_reason _ _ old new said refusal.cause finished.later failed none)
    by_case (ByMemory is_5) = inr (finished.status_is ∙ is_5)
    by_case (ByStep not_4 not_5 stated) =
        let has = stated told in
        absurd (none-some refusal
        (sym
        (sure_ends (steps_asked typed) (outside_of old) has.acts (outside_of new) (Some refusal) sure has.by_steps)))

run_says : (typed : CommandLine) (tells : RunTells) (old new : RunSeen) (said : SinkSeen)
    (result : Result (Unit {0}) Refusal) (status : ℕ)
    → AskedCarried typed tells old new result → AreStanding typed tells old new result
    → IsUnlinked typed tells old new result → IsFinished tells new.err said result status
    → HasSaid typed tells old (once_said new said) status
run_says typed tells old new said (Ok value) status carries stands unlinked finished = inl (record {
  status_is = finished.status_is;
  quiet = λ no told.
      nothing_said new.err said (finished.written told) ∙ ap (λ (s : SinkSeen). s.written) (carries.quiet no);
  unlinked = unlinked;
})
run_says typed tells old new said (Err refusal) status carries stands unlinked finished =
    inr (refused_run typed tells old new said refusal status carries stands unlinked finished)

ended_unwritten : (uses : Uses) (result : Result (Unit {0}) Refusal) (status : ℕ) (same : Type 0)
    → (uses.changes ≡ false → same)
    → (IsTrue uses.all_or_nothing → IfErr result (λ (refusal : Refusal). status_of refusal.cause ≢ 4 → same))
    → status ≡ end_status (result_err result)
    → (uses.changes ≡ false) ⊎ (IsTrue uses.all_or_nothing × (status ≢ 0) × (status ≢ 4)) → same
ended_unwritten uses result status same reads whole is (inl only) = reads only
ended_unwritten uses (Ok value) status same reads whole is (inr w) = absurd (w.1 is)
ended_unwritten uses (Err refusal) status same reads whole is (inr w) = whole w.0 (λ four. w.2 (is ∙ four))

run_writes : (typed : CommandLine) (tells : RunTells) (old new : RunSeen) (said : SinkSeen)
    (result : Result (Unit {0}) Refusal) (status : ℕ)
    → AskedCarried typed tells old new result → IsFinished tells new.err said result status
    → ((uses_asked typed).changes ≡ false)
    ⊎ (IsTrue (uses_asked typed).all_or_nothing × (status ≢ 0) × (status ≢ 4)) → IsUnwritten old.store new.store
run_writes typed tells old new said result status carries finished case =
    ended_unwritten (uses_asked typed) result status (IsUnwritten old.store new.store) carries.only_reads
    carries.all_or_nothing finished.status_is case

run_later : (typed : CommandLine) (tells : RunTells) (old new : RunSeen) (said : SinkSeen)
    (result : Result (Unit {0}) Refusal) (status : ℕ)
    → AskedCarried typed tells old new result → IsFinished tells new.err said result status
    → IsLater old (once_said new said)
run_later typed tells old new said result status carries finished = record {
  store = carries.later.store;
  input = carries.later.input;
  out = carries.later.out;
  err = omega (arith, carries.later.err, finished.later);
  link = carries.later.link;
}

-- the refusal of a faulty word, or lack of memory
run_words : (typed : CommandLine) (tells : RunTells) (old new : RunSeen) (said : SinkSeen)
    (result : Result (Unit {0}) Refusal) (status : ℕ) (refusal : Refusal)
    → AskedCarried typed tells old new result → IsFinished tells new.err said result status
    → new.err ≡ old.err → IsErrAnd result (λ (answered : Refusal). (answered ≡ refusal) ⊎ (answered.cause ≡ Memory))
    → IsRefusedWord typed tells old (once_said new said) status refusal ⊎ (status ≡ 5)
run_words typed tells old new said (Ok value) status refusal carries finished quiet is = absurd is
run_words typed tells old new said (Err answered) status refusal carries finished quiet (inl same) = inl (record {
  status_is = finished.status_is ∙ ap (λ (r : Refusal). status_of r.cause) same;
  line =
      λ told. subst (λ (r : Refusal).
      AppendsUnless (Rose old.err.faults said.faults) old.err.written said.written (error_line r)) same
      (line_since old.err new.err said (error_line answered) quiet (finished.written told));
})
run_words typed tells old new said (Err answered) status refusal carries finished quiet (inr memory) =
    inr (finished.status_is ∙ ap status_of memory)

-- what else a run keeps
pub run_keeps : (typed : CommandLine) (tells : RunTells) (old new : RunSeen) (said : SinkSeen)
    (result : Result (Unit {0}) Refusal) (status : ℕ)
    → IsCarriedOut (asked typed) typed.invocation tells old new result → AreStanding typed tells old new result
    → IsFinished tells new.err said result status
    → ((uses_asked typed).reads_commands ≡ false → IsErrAnd result (λ (refusal : Refusal). status_of refusal.cause ≡ 2)
    ↔ IsErr (command_of false typed.words))
    → ((refusal : Refusal) → (asked typed).faulty ≡ Some refusal
    → (new.err ≡ old.err) × IsErrAnd result (λ (answered : Refusal). (answered ≡ refusal) ⊎ (answered.cause ≡ Memory)))
    → Keeps typed tells old (once_said new said) status
run_keeps typed tells old new said result status carried stands finished usage words = record {
  done = run_done typed tells old new said result status carried.carries finished;
  stopped = run_stopped typed tells old new said result status carried.carries carried.unfinished carried.unbegun stands
      carried.unlinked finished;
  part = run_part typed tells old new said result carried.carries;
  complete = run_complete typed tells old new said result status carried.carries finished;
  usage = λ no.
      let two = status_2 result status finished.status_is in
      let own = usage no in
      (λ is. own.0 (two.0 is), λ err. two.1 (own.1 err));
  words = λ refusal faulty.
      let own = words refusal faulty in
      run_words typed tells old new said result status refusal carried.carries finished own.0 own.1;
  says = run_says typed tells old new said result status carried.carries stands carried.unlinked finished;
  writes = run_writes typed tells old new said result status carried.carries finished;
  named = run_named (asked typed).replaces
      (λ (file : List ℕ). IsTrue tells.store → new.store.files file ≡ old.store.files file) result status
      finished.status_is carried.named;
  edited =
      run_edited (asked typed).edits
      (λ (s : ℕ) (file : List ℕ). IsTrue tells.store → IsLeftByEdit s old.store.files new.store.files file) result
      status finished.status_is
      (λ file told other. absurd (other refl)) carried.edited;
  unwritten =
      λ said. run_wanting (IsUnwritten old.store new.store) result status finished.status_is (carried.unwritten said);
  within = record {
    files = record { alone = carried.within.files.alone; anew = carried.within.files.anew };
    few = carried.within.few;
  };
  reads = run_held
      (AreReadsTold (uses_asked typed) tells
      → ReadsWithin ((asked typed).most_reads (outside_of old)) old.store new.store) result status
      finished.status_is carried.reads;
  made = run_held (IsTrue tells.store → (asked typed).made typed.invocation (outside_of old) new.store.files) result
      status finished.status_is carried.made;
  synced = λ so told. run_synced result status old.store new.store finished.status_is (carried.synced told) so;
  untaken = λ one. run_untaken (new.link ≡ old.link) result status finished.status_is (carried.untaken one);
  later = run_later typed tells old new said result status carried.carries finished;
}
