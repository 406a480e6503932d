-- Commands one after another, each of which was carried out: all of them were carried out from the start.
use Rattle.std.proofs.Common.{◌≡◌, ℕ, Bool, true, false, List, [], None, Some, Ok, Err, Result, inl, inr, refl, sym}
use Rattle.std.proofs.Common.{subst, ◌∙◌, arith}
use Rattle.std.specs.Prelude.{◌&&◌}
use Rattle.std.specs.Result.{result_err}
use Rattle.std.proofs.lemmas.Bool.{false≢true}
use Rattle.std.proofs.lemmas.Option.{none-some}
use Rattle.std.proofs.lemmas.Result.{IfErr-weaker, on_ok_weaker}
use Rattle.refusals.specs.declared.cause.Cause.{Cause}
use Rattle.refusals.specs.declared.cause.Cause.TheVariants.{StoreFault, SourceFault, SinkFault, LinkFault}
use Rattle.refusals.specs.declared.reason.Refusal.{Refusal}
use Rattle.refusals.specs.Refusals.{in_line, stands_in_line}
use Rattle.refusals.specs.Status.{group_of}
use Rattle.refusals.proofs.GroupLemmas.{by_group}
use Rattle.run_steps.specs.Done.{IsLater, IsUnwritten, IsWorldTold, RunSeen, RunTells}
use Rattle.run_steps.specs.Run.{HasFailed, HasReason, HasSteps, IsPlacedBy, Uses}
use Rattle.run_steps.specs.Carrying.{CarriesOut}
use Rattle.run_steps.specs.Steps.{Before, Finish, InLine, Steps}
use Rattle.run_steps.proofs.OpeningLemmas.{none_done, store_later}
use Rattle.run_steps.proofs.PartLemmas.{carried_whole}
use Rattle.run_steps.proofs.ReasonLemmas.{reason_before, reason_but_stated}
use Rattle.run_steps.proofs.RowLemmas.{part_before, part_in_line, part_stopped, steps_before, steps_in_line}
use Rattle.run_steps.proofs.RowLemmas.{steps_stopped}

-- Moments one after another.

pub later_both : (old middle new : RunSeen) → IsLater old middle → IsLater middle new → IsLater old new
later_both old middle new one two = record {
  store = omega (arith, one.store, two.store);
  input = omega (arith, one.input, two.input);
  out = omega (arith, one.out, two.out);
  err = omega (arith, one.err, two.err);
  link = omega (arith, one.link, two.link);
}

unwritten_both : (old middle new : RunSeen) → IsUnwritten old.store middle.store → IsUnwritten middle.store new.store
    → IsUnwritten old.store new.store
unwritten_both old middle new one two = record { files = two.files ∙ one.files; writes = two.writes ∙ one.writes }

-- Commands one after another.

-- nothing is left to be done
pub finish_carried : (uses : Uses) (may : Cause → List ℕ → Type 0) (tells : RunTells) (old : RunSeen)
    (passed : Unit {0}) → CarriesOut Finish uses may tells old old (Ok passed)
finish_carried uses may tells old passed =
    let same : IsUnwritten old.store old.store = record { files = refl; writes = refl } in
    carried_whole Finish uses may tells old old passed
    (λ told. record {
      acts = [];
      by_steps = record { acts_none = refl; same = refl; ends = refl };
      done = none_done tells old old.store old.input same;
    })
    (λ only. same) (λ no. refl) (store_later old old.store (omega arith))

-- steps were carried out, and then those behind them
pub carried_before : (one others : Steps) (uses : Uses) (may : Cause → List ℕ → Type 0) (tells : RunTells)
    (old middle new : RunSeen) (passed : Unit {0}) (result : Result (Unit {0}) Refusal) → uses.all_or_nothing ≡ false
    → CarriesOut one uses may tells old middle (Ok passed) → CarriesOut others uses may tells middle new result
    → CarriesOut (Before one others) uses may tells old new result
carried_before one others uses may tells old middle new passed result none first then = record {
  done = on_ok_weaker result
      (λ has told. steps_before one others tells None old middle new (first.done told) (has told)) then.done;
  refused = IfErr-weaker result _ _ (λ refusal reason. reason_before uses old middle new _ _ refusal.cause first.later
      (λ stated told. steps_before one others tells (Some refusal) old middle new (first.done told) (stated told))
      reason) then.refused;
  part = λ told.
      part_before one others tells old middle new first.later.out first.later.err (first.done told) (then.part told);
  may_refuse = then.may_refuse;
  placed = then.placed;
  only_reads = λ only. unwritten_both old middle new (first.only_reads only) (then.only_reads only);
  all_or_nothing = λ whole. absurd (false≢true (sym none ∙ whole));
  quiet = λ no. then.quiet no ∙ first.quiet no;
  later = later_both old middle new first.later then.later;
}

-- steps were refused, and those behind them did not come
pub carried_stopped : (one others : Steps) (uses : Uses) (may : Cause → List ℕ → Type 0) (tells : RunTells)
    (old new : RunSeen) (refusal : Refusal)
    → CarriesOut one uses may tells old new (Err refusal)
    → CarriesOut (Before one others) uses may tells old new (Err refusal)
carried_stopped one others uses may tells old new refusal first = record {
  done = tt;
  refused = reason_but_stated uses old new _ _ refusal.cause
      (λ stated told. steps_stopped one others tells refusal old new (stated told)) first.refused;
  part = λ told. part_stopped one others tells old new (first.part told);
  may_refuse = first.may_refuse;
  placed = first.placed;
  only_reads = first.only_reads;
  all_or_nothing = first.all_or_nothing;
  quiet = first.quiet;
  later = first.later;
}

-- Steps in a line of a script.

-- uses that hold for every command that stands in a line of a script
pub record MayUseAll (uses : Uses) : Type 0 where
  pub link : uses.link ≡ true
  pub changes : uses.changes ≡ true
  pub whole : uses.all_or_nothing ≡ false
  pub warns : uses.warns ≡ true
  pub commands : uses.reads_commands ≡ true
  pub edits : uses.reads_edits ≡ true

more_failed : (warns link : Bool) (old new : RunSeen) (cause : Cause) → HasFailed warns link old new cause
    → HasFailed true true old new cause
more_failed warns link old new StoreFault failed = failed
more_failed warns link old new SourceFault failed = failed
more_failed warns link old new SinkFault (inl failed) = inl failed
more_failed warns link old new SinkFault (inr failed) = inr (refl, failed.1)
more_failed warns link old new LinkFault failed = (refl, failed.1)
more_failed warns link old new _ failed = absurd failed

no_edit : (edits stands : Bool) → stands ≡ false → (edits && stands) ≡ false
no_edit true stands is = is
no_edit false stands is = refl

-- the refusal in a line
abbrev pub lined : ℕ → Refusal → Refusal
lined line refusal = record {
  cause = refusal.cause;
  name = refusal.name;
  place = record { line = Some line; input_line = refusal.place.input_line };
}

lined_placed : (line : ℕ) (uses wider : Uses) (refusal : Refusal) → MayUseAll wider → IsPlacedBy uses refusal
    → IsPlacedBy wider (lined line refusal)
lined_placed line uses wider refusal all placed = record {
  line = λ no. absurd (false≢true (sym no ∙ all.commands));
  input_line = λ no. placed.input_line
      (no_edit uses.reads_edits (stands_in_line refusal.cause)
      (subst (λ (b : Bool). (b && stands_in_line refusal.cause) ≡ false) all.edits no));
}

lined_reason : (line : ℕ) (steps : Steps) (uses wider : Uses) (tells : RunTells) (old new : RunSeen) (refusal : Refusal)
    → MayUseAll wider
    → HasReason uses old new (IsWorldTold tells → HasSteps steps tells (Some refusal) old new) refusal.cause
    → HasReason wider old new
    (IsWorldTold tells → HasSteps (InLine line steps) tells (Some (lined line refusal)) old new) refusal.cause
lined_reason line steps uses wider tells old new refusal all reason =
    by_group (group_of refusal.cause) _ _ _ _
    (λ failed. subst (λ (b : Bool). HasFailed b wider.link old new refusal.cause) (sym all.warns)
    (subst (λ (b : Bool). HasFailed true b old new refusal.cause) (sym all.link)
    (more_failed uses.warns uses.link old new refusal.cause failed)))
    (λ stated told. steps_in_line line steps tells (Some refusal) old new (stated told)) reason

lined_err : (line : ℕ) (steps : Steps) (uses wider : Uses) (may : Cause → List ℕ → Type 0) (tells : RunTells)
    (old new : RunSeen) (refusal : Refusal) → MayUseAll wider
    → CarriesOut steps uses may tells old new (Err refusal)
    → CarriesOut (InLine line steps) wider may tells old new (Err (lined line refusal))
lined_err line steps uses wider may tells old new refusal all carries = record {
  done = tt;
  refused = lined_reason line steps uses wider tells old new refusal all carries.refused;
  part = λ told. part_in_line line steps tells old new (carries.part told);
  may_refuse = carries.may_refuse;
  placed = lined_placed line uses wider refusal all carries.placed;
  only_reads = λ only. absurd (false≢true (sym only ∙ all.changes));
  all_or_nothing = λ whole. absurd (false≢true (sym all.whole ∙ whole));
  quiet = λ no. absurd (false≢true (sym no ∙ all.warns));
  later = carries.later;
}

-- steps were carried out, and so were these steps in a line, whose refusal names it
pub carried_in_line : (line : ℕ) (steps : Steps) (uses wider : Uses) (may : Cause → List ℕ → Type 0) (tells : RunTells)
    (old new : RunSeen) (done result : Result (Unit {0}) Refusal) → MayUseAll wider
    → result_err result ≡ in_line line (result_err done) → CarriesOut steps uses may tells old new done
    → CarriesOut (InLine line steps) wider may tells old new result
carried_in_line line steps uses wider may tells old new (Ok passed) (Ok value) all is carries = record {
  done = λ told. steps_in_line line steps tells None old new (carries.done told);
  refused = tt;
  part = λ told. part_in_line line steps tells old new (carries.part told);
  may_refuse = tt;
  placed = tt;
  only_reads = λ only. absurd (false≢true (sym only ∙ all.changes));
  all_or_nothing = λ whole. tt;
  quiet = λ no. absurd (false≢true (sym no ∙ all.warns));
  later = carries.later;
}
carried_in_line line steps uses wider may tells old new (Ok passed) (Err refusal) all is carries =
    absurd (none-some refusal (sym is))
carried_in_line line steps uses wider may tells old new (Err refusal) (Ok value) all is carries =
    absurd (none-some _ is)
carried_in_line line steps uses wider may tells old new (Err refusal) (Err said) all is carries =
    let same : said ≡ lined line refusal = cc in
    subst (λ (r : Refusal). CarriesOut (InLine line steps) wider may tells old new (Err r)) (sym same)
    (lined_err line steps uses wider may tells old new refusal all carries)
