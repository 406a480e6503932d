-- Laws of what steps mean.
use Rattle.std.proofs.Common.{◌≡◌, ◌⊎◌, inl, inr, ℕ, Bool, true, false, IsTrue, List, [], ◌∷◌, ◌++◌}
use Rattle.std.proofs.Common.{take, Option, None, Some, Ok, refl, sym, ap, subst, ◌∙◌}
use Rattle.std.specs.Prelude.{◌&&◌}
use Rattle.std.proofs.lemmas.Bool.{false≢true}
use Rattle.std.proofs.lemmas.Option.{none-some}
use Rattle.quota_types.specs.declared.file_kind.Kind.{Kind}
use Rattle.outside.specs.Seen.{Datagram}
use Rattle.outside.specs.World.{World}
use Rattle.quota_value.specs.QuotaValue.{QuotaValue}
use Rattle.quota_map.specs.Asked.{Asked}
use Rattle.quota_map.specs.View.{IsView}
use Rattle.quota_map.proofs.SeenLemmas.{view_or_refused}
use Rattle.refusals.specs.declared.reason.Refusal.{Refusal}
use Rattle.refusals.specs.Refusals.{in_line}
use Rattle.run_steps.specs.Act.{Act, Change, Replace, Start, Follows, FollowsAct}
use Rattle.run_steps.specs.Done.{Outside}
use Rattle.run_steps.specs.Meaning.{EndsBy, HasBegun, IsSure}
use Rattle.run_steps.specs.OneCommand.{AreSameSteps, IsFirstPart, LooksFirst, LooksFirstBy, RestsOnNone}
use Rattle.run_steps.specs.OneCommand.{UnlessFull, leaves_files}
use Rattle.run_steps.specs.Steps.{Steps, Ending, Doing, Looking, Opening, Reading, Starting, Receiving, Before, InLine}
use Rattle.run_steps.proofs.ActLemmas.{follows-append}
use Rattle.run_steps.proofs.RoomLemmas.{full_begun, full_ended, full_in_line, strictly, unless_full}
use Rattle.quota_map.proofs.SeenOnceLemmas.{seen_once}

-- What has ended has begun.

-- steps that have ended have begun, with all their acts, and none is at hand
pub ended_begun : (steps : Steps) (old : Outside) (acts : List Act) (new : Outside) (refusal : Option Refusal)
    → EndsBy steps old acts new refusal → HasBegun steps old acts [] new
ended_begun (Ending stated) old acts new refusal is =
    record { done_none = is.acts_none; at_hand = refl; same = is.same }
ended_begun (Doing act next) old acts new refusal by =
    inr (by.0, by.1, by.2, by.3, ended_begun next (record old { files = by.1 }) by.0 new refusal by.4)
ended_begun (Looking next) old acts new refusal by = ended_begun (next old.files) old acts new refusal by
ended_begun (Opening kind asked name next) old acts new refusal (inl seen) =
    inr (seen.0, seen.1, ended_begun (next seen.0) old acts new refusal seen.2)
ended_begun (Opening kind asked name next) old acts new refusal (inr bad) =
    inl (record { done_none = bad.2.acts_none; at_hand = refl; same = bad.2.same })
ended_begun (Reading whole next) old acts new refusal by =
    inr (by.0, by.1, ended_begun (next old.input) (record old { input = by.0 }) acts new refusal by.2)
ended_begun (Starting port next) old acts new refusal by = inr (by.0, by.1, ended_begun next old by.0 new refusal by.2)
ended_begun (Receiving next) old acts new refusal by =
    inr (by.0, by.1, by.2, ended_begun (next by.0) (record old { datagrams = by.1 }) acts new refusal by.3)
ended_begun (Before one others) old acts new refusal (inl stopped) =
    inl (ended_begun one old acts new (Some stopped.0) stopped.2)
ended_begun (Before one others) old acts new refusal (inr passed) =
    inr (passed.0, passed.1, passed.2, passed.3, passed.4, ended_begun others passed.1 passed.2 new refusal passed.5)
ended_begun (InLine line steps) old acts new refusal by = ended_begun steps old acts new by.0 by.2

-- steps of which nothing was done have begun
pub unbegun : (steps : Steps) (old : Outside) → (hand : List Act) × HasBegun steps old [] hand old
unbegun (Ending stated) old = ([], record { done_none = refl; at_hand = refl; same = refl })
unbegun (Doing act next) old = (act ∷ [], inl (record { done_none = refl; at_hand = refl; same = refl }))
unbegun (Looking next) old = unbegun (next old.files) old
unbegun (Opening kind asked name next) old = ([], inl (record { done_none = refl; at_hand = refl; same = refl }))
unbegun (Reading whole next) old = ([], inl (record { done_none = refl; at_hand = refl; same = refl }))
unbegun (Starting port next) old = ([], inl (record { done_none = refl; at_hand = refl; same = refl }))
unbegun (Receiving next) old = ([], inl (record { done_none = refl; at_hand = refl; same = refl }))
unbegun (Before one others) old = let first = unbegun one old in (first.0, inl first.1)
unbegun (InLine line steps) old = unbegun steps old

-- Files follow the acts.

none_follow : (acts : List Act) (old new : Outside) → acts ≡ [] → new ≡ old → Follows acts old.files new.files
none_follow acts old new none same =
    subst (λ (a : List Act). Follows a old.files new.files) (sym none) (ap (λ (o : Outside). o.files) same)

pub begun_follow : (steps : Steps) (old : Outside) (done hand : List Act) (now : Outside)
    → HasBegun steps old done hand now → Follows done old.files now.files
begun_follow (Ending stated) old done hand now is = none_follow done old now is.done_none is.same
begun_follow (Doing act next) old done hand now (inl is) = none_follow done old now is.done_none is.same
begun_follow (Doing act next) old done hand now (inr by) =
    subst (λ (a : List Act). Follows a old.files now.files) (sym by.2)
    (by.1, by.3, begun_follow next (record old { files = by.1 }) by.0 hand now by.4)
begun_follow (Looking next) old done hand now by = begun_follow (next old.files) old done hand now by
begun_follow (Opening kind asked name next) old done hand now (inl is) = none_follow done old now is.done_none is.same
begun_follow (Opening kind asked name next) old done hand now (inr by) = begun_follow (next by.0) old done hand now by.2
begun_follow (Reading whole next) old done hand now (inl is) = none_follow done old now is.done_none is.same
begun_follow (Reading whole next) old done hand now (inr by) =
    begun_follow (next old.input) (record old { input = by.0 }) done hand now by.2
begun_follow (Starting port next) old done hand now (inl is) = none_follow done old now is.done_none is.same
begun_follow (Starting port next) old done hand now (inr by) =
    subst (λ (a : List Act). Follows a old.files now.files) (sym by.1)
    (old.files, refl, begun_follow next old by.0 hand now by.2)
begun_follow (Receiving next) old done hand now (inl is) = none_follow done old now is.done_none is.same
begun_follow (Receiving next) old done hand now (inr by) =
    begun_follow (next by.0) (record old { datagrams = by.1 }) done hand now by.3
begun_follow (Before one others) old done hand now (inl by) = begun_follow one old done hand now by
begun_follow (Before one others) old done hand now (inr by) =
    subst (λ (a : List Act). Follows a old.files now.files) (sym by.3)
    (follows-append by.0 by.2 old.files by.1.files now.files
    (begun_follow one old by.0 [] by.1 (ended_begun one old by.0 by.1 None by.4))
    (begun_follow others by.1 by.2 hand now by.5))
begun_follow (InLine line steps) old done hand now by = begun_follow steps old done hand now by

pub ends_follow : (steps : Steps) (old : Outside) (acts : List Act) (new : Outside) (refusal : Option Refusal)
    → EndsBy steps old acts new refusal → Follows acts old.files new.files
ends_follow steps old acts new refusal by =
    begun_follow steps old acts [] new (ended_begun steps old acts new refusal by)

-- Steps that are sure.

-- they end with no refusal
pub sure_ends : (steps : Steps) (old : Outside) (acts : List Act) (new : Outside) (refusal : Option Refusal)
    → IsSure steps old → EndsBy steps old acts new refusal → refusal ≡ None
sure_ends (Ending stated) old acts new refusal sure is = is.ends ∙ sure
sure_ends (Doing act next) old acts new refusal sure by =
    sure_ends next (record old { files = by.1 }) by.0 new refusal (sure by.1 by.3) by.4
sure_ends (Looking next) old acts new refusal sure by = sure_ends (next old.files) old acts new refusal sure by
sure_ends (Opening kind asked name next) old acts new refusal sure (inl seen) =
    sure_ends (next seen.0) old acts new refusal (sure.1 seen.0 seen.1) seen.2
sure_ends (Opening kind asked name next) old acts new refusal sure (inr bad) = absurd (sure.0 bad.0 bad.1)
sure_ends (Reading whole next) old acts new refusal sure by =
    sure_ends (next old.input) (record old { input = by.0 }) acts new refusal (sure by.0 by.1) by.2
sure_ends (Starting port next) old acts new refusal sure by = sure_ends next old by.0 new refusal sure by.2
sure_ends (Receiving next) old acts new refusal sure by =
    sure_ends (next by.0) (record old { datagrams = by.1 }) acts new refusal (sure by.0 by.1 by.2) by.3
sure_ends (Before one others) old acts new refusal sure (inl stopped) =
    absurd (none-some stopped.0 (sym (sure_ends one old acts new (Some stopped.0) sure.0 stopped.2)))
sure_ends (Before one others) old acts new refusal sure (inr passed) =
    sure_ends others passed.1 passed.2 new refusal (sure.1 passed.0 passed.1 passed.4) passed.5
sure_ends (InLine line steps) old acts new refusal sure by =
    by.1 ∙ ap (in_line line) (sure_ends steps old acts new by.0 sure by.2)

-- steps are sure where they end with no refusal, whatever is chosen
pub unrefused_sure : (steps : Steps) (old : Outside)
    → ((acts : List Act) (new : Outside) (refusal : Refusal) → ¬ EndsBy steps old acts new (Some refusal))
    → IsSure steps old
unrefused_sure (Ending None) old never = refl
unrefused_sure (Ending (Some refusal)) old never =
    absurd (never [] old refusal (record { acts_none = refl; same = refl; ends = refl }))
unrefused_sure (Doing act next) old never = λ middle follows.
    unrefused_sure next (record old { files = middle })
    (λ acts new refusal by. never (act ∷ acts) new refusal (acts, middle, refl, follows, by))
unrefused_sure (Looking next) old never = unrefused_sure (next old.files) old never
unrefused_sure (Opening kind asked name next) old never = (
  λ fault view. never [] old _ (inr (fault, view, record { acts_none = refl; same = refl; ends = refl })),
  λ value view. unrefused_sure (next value) old (λ acts new refusal by. never acts new refusal (inl (value, view, by))),
)
unrefused_sure (Reading whole next) old never = λ left taken.
    unrefused_sure (next old.input) (record old { input = left })
    (λ acts new refusal by. never acts new refusal (left, taken, by))
unrefused_sure (Starting port next) old never =
    unrefused_sure next old
    (λ acts new refusal by. never (Start port old.datagrams ∷ acts) new refusal (acts, refl, by))
unrefused_sure (Receiving next) old never = λ datagram left is.
    unrefused_sure (next datagram) (record old { datagrams = left })
    (λ acts new refusal by. never acts new refusal (datagram, left, is, by))
unrefused_sure (Before one others) old never = (
  unrefused_sure one old (λ acts new refusal by. never acts new refusal (inl (refusal, refl, by))),
  λ first middle ends. unrefused_sure others middle
      (λ acts new refusal by. never (first ++ acts) new refusal (inr (first, middle, acts, refl, ends, by))),
)
unrefused_sure (InLine line steps) old never =
    unrefused_sure steps old (λ acts new refusal by. never acts new _ (Some refusal, refl, by))

-- One command.

first_none : (done hand acts : List Act) → done ≡ [] → hand ≡ [] → IsFirstPart done hand acts
first_none done hand acts none is =
    record { rest = acts; whole = ap (λ (d : List Act). d ++ acts) (sym none); next = inl is }

-- files that may still be looked at are the same after the same act
same_after : (looks : Bool) (act : Act) (one other one' other' : World) → (IsTrue looks → one ≡ other)
    → FollowsAct act one one' → FollowsAct act other other'
    → IsTrue (looks && leaves_files act) → one' ≡ other'
same_after false act one other one' other' same first second is = absurd (false≢true is)
same_after true (Change way name value) one other one' other' same first second is = absurd (false≢true is)
same_after true (Replace name value) one other one' other' same first second is = absurd (false≢true is)
same_after true _ one other one' other' same first second is = first ∙ same refl ∙ sym second

-- what is outside is the same as far as steps may still look at it
pub record LooksSame (looks takes : Bool) (one other : Outside) : Type 0 where
  pub files : IsTrue looks → one.files ≡ other.files
  pub input : IsTrue takes → one.input ≡ other.input
  pub datagrams : one.datagrams ≡ other.datagrams

same_done : (looks takes : Bool) (act : Act) (one other : Outside) (one' other' : World)
    → LooksSame looks takes one other → FollowsAct act one.files one' → FollowsAct act other.files other'
    → LooksSame (looks && leaves_files act) takes (record one { files = one' }) (record other { files = other' })
same_done looks takes act one other one' other' same first second = record {
  files = same_after looks act one.files other.files one' other' same.files first second;
  input = same.input;
  datagrams = same.datagrams;
}

same_taken : (looks takes : Bool) (one other : Outside) (one' other' : List ℕ) → LooksSame looks takes one other
    → LooksSame looks false (record one { input = one' }) (record other { input = other' })
same_taken looks takes one other one' other' same =
    record { files = same.files; input = λ no. absurd (false≢true no); datagrams = same.datagrams }

same_received : (looks takes : Bool) (one other : Outside) (datagram datagram' : Datagram) (one' other' : List Datagram)
    → LooksSame looks takes one other
    → one.datagrams ≡ datagram ∷ one' → other.datagrams ≡ datagram' ∷ other'
    → (datagram ≡ datagram')
    × LooksSame looks takes (record one { datagrams = one' }) (record other { datagrams = other' })
same_received looks takes one other datagram datagram' one' other' same first second =
    let both : (datagram ∷ one') ≡ (datagram' ∷ other') = sym first ∙ same.datagrams ∙ second in
    let left : one' ≡ other' = cc in
    (cc, record { files = same.files; input = same.input; datagrams = left })

-- where files were looked at, one that is seen as a value is seen so in both
seen_both : (kind : Kind) (asked : Asked) (name : List ℕ) (one other : World) (value value' : QuotaValue) → one ≡ other
    → IsView (one name) kind asked (Ok value) → IsView (other name) kind asked (Ok value') → value ≡ value'
seen_both kind asked name one other value value' same view view' =
    seen_once (other name) kind asked value value'
    (subst (λ (w : World). IsView (w name) kind asked (Ok value)) same view) view'

-- the same steps come of a look at files that are the same, and of one that rests on none, except for lack of room
pub same_looked : (rooms looks : Bool) (next : World → Steps) (one other : World)
    → IsTrue looks ⊎ RestsOnNone rooms next → (IsTrue looks → one ≡ other) → AreSameSteps rooms (next one) (next other)
same_looked rooms looks next one other (inl may) same = inl (ap next (same may))
same_looked rooms looks next one other (inr rests) same = rests one other

-- what has begun of a look, and an end of it
looked_part : (rooms : Bool) (here there : Steps) (one other : Outside) (done hand acts : List Act) (now new : Outside)
    (refusal : Option Refusal) → AreSameSteps rooms here there
    → HasBegun here one done hand now → EndsBy there other acts new refusal
    → (HasBegun there one done hand now → UnlessFull rooms refusal (IsFirstPart done hand acts))
    → UnlessFull rooms refusal (IsFirstPart done hand acts)
looked_part rooms here there one other done hand acts now new refusal (inl same) begun ends rest =
    rest (subst (λ (s : Steps). HasBegun s one done hand now) same begun)
looked_part rooms here there one other done hand acts now new refusal (inr (is, inl full)) begun ends rest =
    let at = full_begun here one done hand now full begun in
    inl (first_none done hand acts at.done_none at.at_hand)
looked_part rooms here there one other done hand acts now new refusal (inr (is, inr full)) begun ends rest =
    inr (is, full_ended there other acts new refusal full ends)

-- what has begun is a first part of every end of the same steps, except for ends for lack of room
pub first_part : (rooms looks takes : Bool) (steps : Steps) (one other : Outside) (done hand acts : List Act)
    (now new : Outside) (refusal : Option Refusal)
    → LooksFirstBy rooms looks takes steps → LooksSame looks takes one other → HasBegun steps one done hand now
    → EndsBy steps other acts new refusal
    → UnlessFull rooms refusal (IsFirstPart done hand acts)
first_part rooms looks takes (Ending stated) one other done hand acts now new refusal first same begun ends =
    inl (first_none done hand acts begun.done_none begun.at_hand)
first_part rooms looks takes (Doing act next) one other done hand acts now new refusal first same (inl is) ends =
    inl (record {
      rest = acts;
      whole = ap (λ (d : List Act). d ++ acts) (sym is.done_none);
      next = inr (is.at_hand ∙ ap (λ (a : List Act). take 1 a) (sym ends.2));
    })
first_part rooms looks takes (Doing act next) one other done hand acts now new refusal first same (inr by) ends =
    unless_full rooms refusal refusal (λ full. full) (λ (part : IsFirstPart by.0 hand ends.0). record {
      rest = part.rest;
      whole = ends.2 ∙ ap (λ (a : List Act). act ∷ a) part.whole ∙ ap (λ (d : List Act). d ++ part.rest) (sym by.2);
      next = part.next;
    })
    (first_part rooms (looks && leaves_files act) takes next (record one { files = by.1 })
    (record other { files = ends.1 }) by.0 hand ends.0 now new refusal first
    (same_done looks takes act one other by.1 ends.1 same by.3 ends.3) by.4 ends.4)
first_part rooms looks takes (Looking next) one other done hand acts now new refusal first same begun ends =
    looked_part rooms (next one.files) (next other.files) one other done hand acts now new refusal
    (same_looked rooms looks next one.files other.files first.0 same.files) begun ends
    (λ from. first_part rooms looks takes (next other.files) one other done hand acts now new refusal
    (first.1 other.files) same from ends)
first_part rooms looks takes (Opening kind asked name next) one other done hand acts now new refusal first same (inl is)
    ends = inl (first_none done hand acts is.done_none is.at_hand)
first_part rooms looks takes (Opening kind asked name next) one other done hand acts now new refusal first same
    (inr by) (inl seen) =
    first_part rooms looks takes (next seen.0) one other done hand acts now new refusal (first.1 seen.0) same
    (subst (λ (v : QuotaValue). HasBegun (next v) one done hand now)
    (seen_both kind asked name one.files other.files by.0 seen.0 (same.files first.0) by.1 seen.1) by.2) seen.2
first_part rooms looks takes (Opening kind asked name next) one other done hand acts now new refusal first same
    (inr by) (inr bad) =
    absurd (view_or_refused (other.files name) kind asked by.0 bad.0
    (subst (λ (w : World). IsView (w name) kind asked (Ok by.0)) (same.files first.0) by.1) bad.1)
first_part rooms looks takes (Reading whole next) one other done hand acts now new refusal first same (inl is) ends =
    inl (first_none done hand acts is.done_none is.at_hand)
first_part rooms looks takes (Reading whole next) one other done hand acts now new refusal first same (inr by) ends =
    first_part rooms looks false (next other.input) (record one { input = by.0 }) (record other { input = ends.0 }) done
    hand acts now new refusal (first.1 other.input)
    (same_taken looks takes one other by.0 ends.0 same)
    (subst (λ (b : List ℕ). HasBegun (next b) (record one { input = by.0 }) done hand now) (same.input first.0) by.2)
    ends.2
first_part rooms looks takes (Starting port next) one other done hand acts now new refusal first same (inl is) ends =
    inl (first_none done hand acts is.done_none is.at_hand)
first_part rooms looks takes (Starting port next) one other done hand acts now new refusal first same (inr by) ends =
    unless_full rooms refusal refusal (λ full. full) (λ (part : IsFirstPart by.0 hand ends.0). record {
      rest = part.rest;
      whole = ends.1 ∙ ap (λ (a : List Act). Start port other.datagrams ∷ a) part.whole
          ∙ ap (λ (d : List Datagram). Start port d ∷ (by.0 ++ part.rest)) (sym same.datagrams)
          ∙ ap (λ (d : List Act). d ++ part.rest) (sym by.1);
      next = part.next;
    })
    (first_part rooms looks takes next one other by.0 hand ends.0 now new refusal first same by.2 ends.2)
first_part rooms looks takes (Receiving next) one other done hand acts now new refusal first same (inl is) ends =
    inl (first_none done hand acts is.done_none is.at_hand)
first_part rooms looks takes (Receiving next) one other done hand acts now new refusal first same (inr by) ends =
    let left = same_received looks takes one other by.0 ends.0 by.1 ends.1 same by.2 ends.2 in
    first_part rooms looks takes (next ends.0) (record one { datagrams = by.1 }) (record other { datagrams = ends.1 })
    done hand acts now new refusal (first ends.0) left.1
    (subst (λ (d : Datagram). HasBegun (next d) (record one { datagrams = by.1 }) done hand now) left.0 by.3) ends.3
first_part rooms looks takes (Before first_steps others) one other done hand acts now new refusal first same begun
    ends = absurd first
first_part rooms looks takes (InLine line steps) one other done hand acts now new refusal first same begun ends =
    unless_full rooms ends.0 refusal (full_in_line line ends.0 refusal ends.1)
    (λ (part : IsFirstPart done hand acts). part)
    (first_part rooms looks takes steps one other done hand acts now new ends.0 first same begun ends.2)

-- where room may count, steps that look first do so all the more
pub looks_wider : (rooms more looks takes : Bool) (steps : Steps) → (IsTrue rooms → IsTrue more)
    → LooksFirstBy rooms looks takes steps → LooksFirstBy more looks takes steps
looks_wider rooms more looks takes (Ending stated) wider first = tt
looks_wider rooms more looks takes (Doing act next) wider first =
    looks_wider rooms more (looks && leaves_files act) takes next wider first
looks_wider rooms more looks takes (Looking next) wider first =
    (looks_or_rests first.0, λ files. looks_wider rooms more looks takes (next files) wider (first.1 files))
  where
    rests_wider : (one other : Steps) → AreSameSteps rooms one other → AreSameSteps more one other
    rests_wider one other (inl same) = inl same
    rests_wider one other (inr full) = inr (wider full.0, full.1)

    looks_or_rests : IsTrue looks ⊎ RestsOnNone rooms next → IsTrue looks ⊎ RestsOnNone more next
    looks_or_rests (inl may) = inl may
    looks_or_rests (inr rests) = inr (λ one other. rests_wider (next one) (next other) (rests one other))
looks_wider rooms more looks takes (Opening kind asked name next) wider first =
    (first.0, λ value. looks_wider rooms more looks takes (next value) wider (first.1 value))
looks_wider rooms more looks takes (Reading whole next) wider first =
    (first.0, λ bytes. looks_wider rooms more looks false (next bytes) wider (first.1 bytes))
looks_wider rooms more looks takes (Starting port next) wider first =
    looks_wider rooms more looks takes next wider first
looks_wider rooms more looks takes (Receiving next) wider first =
    λ datagram. looks_wider rooms more looks takes (next datagram) wider (first datagram)
looks_wider rooms more looks takes (Before one others) wider first = absurd first
looks_wider rooms more looks takes (InLine line steps) wider first =
    looks_wider rooms more looks takes steps wider first

-- a refusal in a line is none where there is none
pub none_in_line : (line : ℕ) (own : Option Refusal) → None ≡ in_line line own → own ≡ None
none_in_line line None is = refl
none_in_line line (Some refusal) is = absurd (none-some _ is)

-- where one end has no refusal, the steps are sure
pub passed_sure : (looks takes : Bool) (steps : Steps) (one other : Outside) (acts : List Act) (new : Outside)
    → LooksFirst looks takes steps → LooksSame looks takes one other → EndsBy steps one acts new None
    → IsSure steps other
passed_sure looks takes (Ending stated) one other acts new first same ends = sym ends.ends
passed_sure looks takes (Doing act next) one other acts new first same ends = λ middle follows.
    passed_sure (looks && leaves_files act) takes next (record one { files = ends.1 }) (record other { files = middle })
    ends.0 new first
    (same_done looks takes act one other ends.1 middle same ends.3 follows) ends.4
passed_sure looks takes (Looking next) one other acts new first same ends =
    passed_sure looks takes (next other.files) one other acts new (first.1 other.files) same
    (subst (λ (s : Steps). EndsBy s one acts new None)
    (strictly (next one.files) (next other.files)
    (same_looked false looks next one.files other.files first.0 same.files)) ends)
passed_sure looks takes (Opening kind asked name next) one other acts new first same (inl seen) = (
  λ fault view. view_or_refused (other.files name) kind asked seen.0 fault
      (subst (λ (w : World). IsView (w name) kind asked (Ok seen.0)) (same.files first.0) seen.1) view,
  λ value view. passed_sure looks takes (next value) one other acts new (first.1 value) same
      (subst (λ (v : QuotaValue). EndsBy (next v) one acts new None)
      (seen_both kind asked name one.files other.files seen.0 value (same.files first.0) seen.1 view) seen.2),
)
passed_sure looks takes (Opening kind asked name next) one other acts new first same (inr bad) =
    absurd (none-some _ bad.2.ends)
passed_sure looks takes (Reading whole next) one other acts new first same ends = λ left taken.
    passed_sure looks false (next other.input) (record one { input = ends.0 }) (record other { input = left }) acts new
    (first.1 other.input)
    (same_taken looks takes one other ends.0 left same)
    (subst (λ (b : List ℕ). EndsBy (next b) (record one { input = ends.0 }) acts new None) (same.input first.0) ends.2)
passed_sure looks takes (Starting port next) one other acts new first same ends =
    passed_sure looks takes next one other ends.0 new first same ends.2
passed_sure looks takes (Receiving next) one other acts new first same ends = λ datagram left is.
    let rest = same_received looks takes one other ends.0 datagram ends.1 left same ends.2 is in
    passed_sure looks takes (next datagram) (record one { datagrams = ends.1 }) (record other { datagrams = left }) acts
    new (first datagram) rest.1
    (subst (λ (d : Datagram). EndsBy (next d) (record one { datagrams = ends.1 }) acts new None) rest.0 ends.3)
passed_sure looks takes (Before first_steps others) one other acts new first same ends = absurd first
passed_sure looks takes (InLine line steps) one other acts new first same ends =
    passed_sure looks takes steps one other acts new first same
    (subst (λ (r : Option Refusal). EndsBy steps one acts new r) (none_in_line line ends.0 ends.1) ends.2)

-- nothing is outside that differs
pub looks_same : (looks takes : Bool) (old : Outside) → LooksSame looks takes old old
looks_same looks takes old = record { files = λ is. refl; input = λ is. refl; datagrams = refl }
