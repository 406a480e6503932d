-- Commands in a row, and two commands that stand each in its line of a script: how far they have begun, how they end,
-- and that they are sure.
use Rattle.std.proofs.Common.{inl, inr, ℕ, List, [], ◌∷◌, ◌++◌, Option, None, Some, refl, sym, ap, subst, ◌∙◌}
use Rattle.std.proofs.Common.{append_assoc, append-nil}
use Rattle.std.proofs.lemmas.Option.{none-some}
use Rattle.refusals.specs.declared.reason.Refusal.{Refusal}
use Rattle.refusals.specs.Refusals.{in_line}
use Rattle.run_steps.specs.Act.{Act}
use Rattle.run_steps.specs.Done.{Outside}
use Rattle.run_steps.specs.Meaning.{EndsBy, HasBegun, IsSure}
use Rattle.run_steps.specs.Row.{IsBegunAt, IsRefusedAtOne, next_of}
use Rattle.run_steps.specs.Steps.{Steps, Before, InLine, Finish}
use Rattle.run_steps.specs.Carrying.{InARow}
use Rattle.run_steps.proofs.MeaningLemmas.{none_in_line}

-- a row has begun where its first commands ended, and the next one has begun from what they left
pub row_begun : (first : List Steps) (next : Steps) (others : List Steps) (old : Outside) (acts : List Act)
    (middle : Outside) (done hand : List Act) (now : Outside)
    → EndsBy (InARow first) old acts middle None → HasBegun next middle done hand now
    → HasBegun (InARow (first ++ next ∷ others)) old (acts ++ done) hand now
row_begun [] next others old acts middle done hand now ends begun =
    inl (subst (λ (a : List Act). HasBegun next old (a ++ done) hand now) (sym ends.acts_none)
    (subst (λ (o : Outside). HasBegun next o done hand now) ends.same begun))
row_begun (one ∷ first) next others old acts middle done hand now (inl stopped) begun =
    absurd (none-some stopped.0 stopped.1)
row_begun (one ∷ first) next others old acts middle done hand now (inr passed) begun = inr (
  passed.0,
  passed.1,
  passed.2 ++ done,
  ap (λ (a : List Act). a ++ done) passed.3 ∙ append_assoc passed.0 passed.2 done,
  passed.4,
  row_begun first next others passed.1 passed.2 middle done hand now passed.5 begun,
)

-- none of a list ended yet
none_ended : (list : List Steps) (old : Outside) (done hand : List Act) (now : Outside)
    → HasBegun (next_of list) old done hand now
    → IsBegunAt list old done hand now
none_ended list old done hand now begun = record {
  first = [];
  rest = list;
  whole = refl;
  acts = [];
  middle = old;
  ended = record { acts_none = refl; same = refl; ends = refl };
  more = done;
  all = refl;
  begun = begun;
}

-- and only so
pub row_only_begun : (list : List Steps) (old : Outside) (done hand : List Act) (now : Outside)
    → HasBegun (InARow list) old done hand now → IsBegunAt list old done hand now
row_only_begun [] old done hand now begun = none_ended [] old done hand now begun
row_only_begun (one ∷ others) old done hand now (inl begun) = none_ended (one ∷ others) old done hand now begun
row_only_begun (one ∷ others) old done hand now (inr by) =
    let at = row_only_begun others by.1 by.2 hand now by.5 in
    record {
      first = one ∷ at.first;
      rest = at.rest;
      whole = ap (λ (l : List Steps). one ∷ l) at.whole;
      acts = by.0 ++ at.acts;
      middle = at.middle;
      ended = inr (by.0, by.1, at.acts, refl, by.4, at.ended);
      more = at.more;
      all = by.3 ∙ ap (λ (a : List Act). by.0 ++ a) at.all ∙ sym (append_assoc by.0 at.acts at.more);
      begun = at.begun;
    }

-- a row ends as its first commands and then the others do
pub row_ends : (first others : List Steps) (old : Outside) (acts : List Act) (middle : Outside) (more : List Act)
    (new : Outside) (refusal : Option Refusal)
    → EndsBy (InARow first) old acts middle None → EndsBy (InARow others) middle more new refusal
    → EndsBy (InARow (first ++ others)) old (acts ++ more) new refusal
row_ends [] others old acts middle more new refusal ends by =
    subst (λ (a : List Act). EndsBy (InARow others) old (a ++ more) new refusal) (sym ends.acts_none)
    (subst (λ (o : Outside). EndsBy (InARow others) o more new refusal) ends.same by)
row_ends (one ∷ first) others old acts middle more new refusal (inl stopped) by = absurd (none-some stopped.0 stopped.1)
row_ends (one ∷ first) others old acts middle more new refusal (inr passed) by = inr (
  passed.0,
  passed.1,
  passed.2 ++ more,
  ap (λ (a : List Act). a ++ more) passed.3 ∙ append_assoc passed.0 passed.2 more,
  passed.4,
  row_ends first others passed.1 passed.2 middle more new refusal passed.5 by,
)

-- one that is refused ends it
pub row_refused : (first : List Steps) (one : Steps) (others : List Steps) (old : Outside) (acts : List Act)
    (middle : Outside) (own : List Act) (new : Outside) (refusal : Refusal)
    → EndsBy (InARow first) old acts middle None → EndsBy one middle own new (Some refusal)
    → EndsBy (InARow (first ++ one ∷ others)) old (acts ++ own) new (Some refusal)
row_refused first one others old acts middle own new refusal ends by =
    row_ends first (one ∷ others) old acts middle own new (Some refusal) ends (inl (refusal, refl, by))

-- and a row is refused only so
pub row_only_refused : (list : List Steps) (old : Outside) (acts : List Act) (new : Outside) (refusal : Refusal)
    → EndsBy (InARow list) old acts new (Some refusal) → IsRefusedAtOne list old acts new refusal
row_only_refused [] old acts new refusal ends = absurd (none-some refusal (sym ends.ends))
row_only_refused (one ∷ others) old acts new refusal (inl stopped) = record {
  first = [];
  one = one;
  others = others;
  whole = refl;
  before = [];
  middle = old;
  ended = record { acts_none = refl; same = refl; ends = refl };
  own = acts;
  all = refl;
  refused = subst (λ (r : Option Refusal). EndsBy one old acts new r) (sym stopped.1) stopped.2;
}
row_only_refused (one ∷ others) old acts new refusal (inr passed) =
    let at = row_only_refused others passed.1 passed.2 new refusal passed.5 in
    record {
      first = one ∷ at.first;
      one = at.one;
      others = at.others;
      whole = ap (λ (l : List Steps). one ∷ l) at.whole;
      before = passed.0 ++ at.before;
      middle = at.middle;
      ended = inr (passed.0, passed.1, at.before, refl, passed.4, at.ended);
      own = at.own;
      all = passed.3 ∙ ap (λ (a : List Act). passed.0 ++ a) at.all ∙ sym (append_assoc passed.0 at.before at.own);
      refused = at.refused;
    }

-- a row is sure where each of its commands is, in all that the ones before it may leave
pub row_sure : (first : List Steps) (others : List Steps) (old : Outside) → IsSure (InARow first) old
    → ((acts : List Act) (middle : Outside) → EndsBy (InARow first) old acts middle None
    → IsSure (InARow others) middle) → IsSure (InARow (first ++ others)) old
row_sure [] others old sure later = later [] old (record { acts_none = refl; same = refl; ends = refl })
row_sure (one ∷ first) others old sure later = (
  sure.0,
  λ acts middle ends. row_sure first others middle (sure.1 acts middle ends)
      (λ more last by. later (acts ++ more) last (inr (acts, middle, more, refl, ends, by))),
)

-- Two commands, each in its line of a script.

-- what comes last in a row ends it
last_ends : (steps : Steps) (old : Outside) (acts : List Act) (new : Outside) (refusal : Option Refusal)
    → EndsBy steps old acts new refusal → EndsBy (Before steps Finish) old acts new refusal
last_ends steps old acts new None ends =
    inr (acts, new, [], sym (append-nil acts), ends, record { acts_none = refl; same = refl; ends = refl })
last_ends steps old acts new (Some refusal) ends = inl (refusal, refl, ends)

pub lines_both : (one other : Steps) (line next : ℕ) (old middle new : Outside) (first rest : List Act)
    (refusal : Option Refusal) → EndsBy one old first middle None → EndsBy other middle rest new refusal
    → EndsBy (InARow (InLine line one ∷ InLine next other ∷ [])) old (first ++ rest) new (in_line next refusal)
lines_both one other line next old middle new first rest refusal ends others =
    inr (
      first,
      middle,
      rest,
      refl,
      (None, refl, ends),
      last_ends (InLine next other) middle rest new (in_line next refusal) (refusal, refl, others),
    )

pub lines_stopped : (one other : Steps) (line next : ℕ) (old new : Outside) (acts : List Act) (refusal : Refusal)
    → EndsBy one old acts new (Some refusal)
    → EndsBy (InARow (InLine line one ∷ InLine next other ∷ [])) old acts new (in_line line (Some refusal))
lines_stopped one other line next old new acts refusal ends = inl (_, refl, (Some refusal, refl, ends))

pub lines_sure : (one other : Steps) (line next : ℕ) (old : Outside) → IsSure one old
    → ((acts : List Act) (middle : Outside) → EndsBy one old acts middle None → IsSure other middle)
    → IsSure (InARow (InLine line one ∷ InLine next other ∷ [])) old
lines_sure one other line next old sure later = (
  sure,
  λ acts middle ends. (
    later acts middle
        (subst (λ (r : Option Refusal). EndsBy one old acts middle r) (none_in_line line ends.0 ends.1) ends.2),
    λ more last by. refl,
  ),
)
