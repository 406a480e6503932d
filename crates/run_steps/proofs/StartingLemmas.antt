-- A link that was started, and other steps behind that.
use Rattle.std.proofs.Common.{◌≡◌, ℕ, ◌≤◌, IsTrue, List, [], ◌∷◌, Option, None, Some, Result, inr, refl, sym, ap, subst}
use Rattle.std.proofs.Common.{◌∙◌, arith, append-nil}
use Rattle.std.proofs.lemmas.Result.{IfErr-weaker, on_ok_weaker}
use Rattle.outside.specs.Seen.{Datagram, LinkSeen, started_at}
use Rattle.refusals.specs.declared.cause.Cause.{Cause}
use Rattle.refusals.specs.declared.reason.Refusal.{Refusal}
use Rattle.run_steps.specs.Act.{Start}
use Rattle.run_steps.specs.Done.{AreDone, IsLater, Outside, RunSeen, RunTells, outside_of}
use Rattle.run_steps.specs.Meaning.{EndsBy, HasBegun}
use Rattle.run_steps.specs.Run.{HasSteps, IsDoneInPart, Uses}
use Rattle.run_steps.specs.Carrying.{CarriesOut}
use Rattle.run_steps.specs.Steps.{Starting, Steps}
use Rattle.run_steps.proofs.CarryingLemmas.{later_both}
use Rattle.run_steps.proofs.ReasonLemmas.{reason_before}
use Rattle.run_steps.proofs.RowLemmas.{LeadsBy, part_led, steps_led}
use Rattle.run_steps.proofs.WritesLemmas.{writes_for-same}

-- what is seen once the link was used
abbrev pub with_start : RunSeen → LinkSeen → RunSeen
with_start seen link = record seen { link = link }

-- A link was started at this port: it took and sent nothing, and its count of faults did not fall.
pub record IsStarted (port : ℕ) (told : Type 0) (old new : LinkSeen) : Type 0 where
  pub left : new.left ≡ old.left
  pub answers : new.answers ≡ old.answers
  pub started : told → new.started ≡ started_at old.started port old.left
  pub later : old.faults ≤ new.faults

-- a start leads to the steps behind it
leads_starting : (port : ℕ) (next : Steps) (here from : Outside) → here ≡ from
    → LeadsBy (Start port from.datagrams ∷ []) next here (Starting port next) from
leads_starting port next here from same = record {
  ends = λ more to ended by. (more, refl, subst (λ (o : Outside). EndsBy next o more to ended) same by);
  begun = λ done hand now by. inr (done, refl, subst (λ (o : Outside). HasBegun next o done hand now) same by);
}

-- where the link took nothing, what is met outside is as it was
outside_started : (old : RunSeen) (link : LinkSeen) → link.left ≡ old.link.left
    → outside_of (with_start old link) ≡ outside_of old
outside_started old link same = ap (λ (left : List Datagram). record (outside_of old) { datagrams = left }) same

-- the start was done
start_done : (port : ℕ) (tells : RunTells) (old : RunSeen) (link : LinkSeen)
    → IsStarted port (IsTrue tells.link) old.link link → IsTrue tells.link
    → AreDone tells (Start port old.link.left ∷ []) old (with_start old link)
start_done port tells old link is told = record {
  files = (old.store.files, refl, refl);
  out = λ told. sym (append-nil old.out.written);
  err = λ told. sym (append-nil old.err.written);
  answered = is.answers ∙ sym (append-nil old.link.answers);
  started = is.started told;
  writes = writes_for-same (Start port old.link.left ∷ []) old.store.writes old.store.writes refl;
}

-- a link was started, and the next steps ended
steps_starting : (port : ℕ) (next : Steps) (tells : RunTells) (ended : Option Refusal) (old : RunSeen) (link : LinkSeen)
    (new : RunSeen) → IsStarted port (IsTrue tells.link) old.link link → IsTrue tells.link
    → HasSteps next tells ended (with_start old link) new → HasSteps (Starting port next) tells ended old new
steps_starting port next tells ended old link new is told has =
    steps_led (Start port old.link.left ∷ []) next (Starting port next) tells ended old (with_start old link) new
    (leads_starting port next (outside_of (with_start old link)) (outside_of old) (outside_started old link is.left))
    (start_done port tells old link is told) has

-- a link was started, and the next steps were done in part
part_starting : {why : Option Cause} (port : ℕ) (next : Steps) (tells : RunTells) (old : RunSeen) (link : LinkSeen)
    (new : RunSeen) → IsStarted port (IsTrue tells.link) old.link link → IsTrue tells.link
    → IsDoneInPart next tells why (with_start old link) new → IsDoneInPart (Starting port next) tells why old new
part_starting port next tells old link new is told part =
    part_led (Start port old.link.left ∷ []) next (Starting port next) tells old (with_start old link) new
    (omega arith) (omega arith)
    (leads_starting port next (outside_of (with_start old link)) (outside_of old) (outside_started old link is.left))
    (start_done port tells old link is told) part

-- a link was started, and the next steps were carried out
pub carries_starting : (port : ℕ) (next : Steps) (uses : Uses) (may : Cause → List ℕ → Type 0) (tells : RunTells)
    (old : RunSeen) (link : LinkSeen) (new : RunSeen) (result : Result (Unit {0}) Refusal)
    → IsStarted port (IsTrue tells.link) old.link link → CarriesOut next uses may tells (with_start old link) new result
    → CarriesOut (Starting port next) uses may tells old new result
carries_starting port next uses may tells old link new result is carries =
    let later : IsLater old (with_start old link) =
    record { store = omega arith; input = omega arith; out = omega arith; err = omega arith; link = is.later } in
    record {
      done = on_ok_weaker result
          (λ has told. steps_starting port next tells None old link new is told.link (has told)) carries.done;
      refused = IfErr-weaker result _ _
          (λ refusal reason. reason_before uses old (with_start old link) new _ _ refusal.cause later
          (λ stated told. steps_starting port next tells (Some refusal) old link new is told.link (stated told)) reason)
          carries.refused;
      part = λ told. part_starting port next tells old link new is told.link (carries.part told);
      may_refuse = carries.may_refuse;
      placed = carries.placed;
      only_reads = carries.only_reads;
      all_or_nothing = carries.all_or_nothing;
      quiet = carries.quiet;
      later = later_both old (with_start old link) new later carries.later;
    }
