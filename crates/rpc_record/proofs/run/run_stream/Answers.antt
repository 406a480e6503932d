use Rattle.std.proofs.Common.{Some, None, [], inl, inr, refl, sym, ◌∙◌, append-nil, arith}
use Rattle.refusals.specs.Status.{group_of}
use Rattle.refusals.proofs.GroupLemmas.{status_in-some}
use Rattle.rpc_record.specs.Run.{seen_of, tells_of}
use Rattle.rpc_record.proofs.RunLemmas.{carried_failed, ends_sure, usage_status}
use Rattle.rpc_record.proofs.run.run_stream.Goals as goal

pub returns-in-Ok-clause-runs : goal.returns-in-Ok-clause-runs
returns-in-Ok-clause-runs g c = record {
  refusal = None;
  carried = c.in-Ok.ensures.carried;
  placed = tt;
  ended = refl;
  err = λ told. record {
    prefix = record { done = []; rest = []; appended = sym (append-nil _); prefix = refl };
    whole = λ no. sym (append-nil _);
  };
}

pub returns-in-Ok-clause-usage : goal.returns-in-Ok-clause-usage
returns-in-Ok-clause-usage g c = (
  λ two. absurd (omega (arith, two)),
  λ is. let two = usage_status _ _ _ _ None c.in-Ok.ensures.carried is in absurd (omega (arith, two)),
)

pub returns-in-Err-clause-usage : goal.returns-in-Err-clause-usage
returns-in-Err-clause-usage g c = (
  λ two. c.in-Err.ensures.worded (sym c.refuse.ensures.status ∙ two),
  λ is. c.refuse.ensures.status ∙ usage_status _ _ _ _ (Some c.in-Err.refusal) c.in-Err.ensures.carried is,
)

pub returns-in-Ok-clause-accepted : goal.returns-in-Ok-clause-accepted
returns-in-Ok-clause-accepted g c = λ asked exported is told are unfailed heard. inl refl

pub returns-in-Err-clause-accepted : goal.returns-in-Err-clause-accepted
returns-in-Err-clause-accepted g c = λ asked exported is told are unfailed heard.
    let S = g.S.Store in
    let C = g.C.Conns in
    rw c.refuse.ensures.status
    (ends_sure asked (tells_of S.tells C.tells) (seen_of (S.seen c.args.store.now) (C.seen c.args.conns.now))
    (seen_of (S.seen c.carry_words.new.store) (C.seen c.carry_words.new.conns)) (Some c.in-Err.refusal) exported
    told are unfailed heard (rw is at c.in-Err.ensures.carried))

pub returns-in-Ok-clause-failed : goal.returns-in-Ok-clause-failed
returns-in-Ok-clause-failed g c = λ four. absurd (omega (arith, four))

pub returns-in-Err-clause-failed : goal.returns-in-Err-clause-failed
returns-in-Err-clause-failed g c =
    λ four. carried_failed _ _ _ _ c.in-Err.refusal (sym c.refuse.ensures.status ∙ four) c.in-Err.ensures.carried

pub returns-in-Ok-clause-synced : goal.returns-in-Ok-clause-synced
returns-in-Ok-clause-synced g c = λ so. (c.in-Ok.ensures.synced.synced (inl refl)).none

pub returns-in-Err-clause-synced : goal.returns-in-Err-clause-synced
returns-in-Err-clause-synced g c = λ so.
    elim so [
      | inl none ↦ absurd (status_in-some (group_of c.in-Err.refusal.cause) (sym c.refuse.ensures.status ∙ none))
      | inr unfailed ↦ (c.in-Err.ensures.synced.synced (inr unfailed)).none
    ]
