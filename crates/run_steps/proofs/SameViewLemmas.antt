-- Steps of one command that see the same in two worlds do the same.
use Rattle.std.proofs.Common.{◌≡◌, ◌⊎◌, inl, inr, ℕ, Bool, true, false, if◌then◌else◌, IsTrue, List, [], ◌∷◌, Option}
use Rattle.std.proofs.Common.{Some, Ok, Err, refl, sym, ap, subst, ◌∙◌}
use Rattle.std.specs.Prelude.{◌&&◌, ⊤}
use Rattle.std.proofs.lemmas.Bool.{false≢true}
use Rattle.outside.specs.Seen.{Datagram}
use Rattle.outside.specs.World.{KeepsOthers, World, with_file}
use Rattle.quota_value.specs.QuotaValue.{QuotaValue}
use Rattle.opened_file.specs.declared.quota_file.OpenFault.{OpenFault}
use Rattle.outside.proofs.WorldLemmas.{bytes_eq-ne, bytes_eq-same}
use Rattle.quota_map.specs.Asked.{InFormat}
use Rattle.quota_map.specs.View.{IsView}
use Rattle.refusals.specs.declared.reason.Refusal.{Refusal}
use Rattle.refusals.specs.Refusals.{in_line, refusal_of}
use Rattle.run_steps.specs.Act.{Act, Change, Replace, Start, FollowsAct, IsSeenAs}
use Rattle.run_steps.specs.Done.{Outside}
use Rattle.run_steps.specs.Meaning.{EndsBy}
use Rattle.run_steps.specs.OneCommand.{AreSameSteps, IsFull, LooksFirstBy, RestsOnNone, UnlessOneFull, leaves_files}
use Rattle.run_steps.specs.Opening.{opening_cause}
use Rattle.run_steps.specs.SameViews.{EndsAlso, FileAsked, IsFileAlike, IsSeenAlike, LooksAlikeBy, MeetsSame, Opens}
use Rattle.run_steps.specs.Steps.{Steps, Ending, Doing, Looking, Opening, Reading, Starting, Receiving, Before, InLine}
use Rattle.run_steps.proofs.RoomLemmas.{full_ended, full_ends, full_in_line, unless_one_full}
use Rattle.run_steps.proofs.SeenAlikeLemmas.{not_both, same_fault, same_first, same_value, seen_same, seen_too}

-- What steps see.

-- Steps of one command see the same in the files of the one, from what is outside at their start, and in those of the
-- other, except for lack of room where they may rest on that.
abbrev SeesSame : (rooms : Bool) → Outside → World → Steps → Type 0
SeesSame rooms one other (Ending stated) = ⊤
SeesSame rooms one other (Doing act next) = SeesSame rooms one other next
SeesSame rooms one other (Looking next) =
    AreSameSteps rooms (next one.files) (next other) × SeesSame rooms one other (next one.files)
SeesSame rooms one other (Opening kind asked name next) =
    IsSeenAlike kind asked (one.files name) (other name)
    × ((value : QuotaValue) → IsView (one.files name) kind asked (Ok value) → SeesSame rooms one other (next value))
SeesSame rooms one other (Reading whole next) = SeesSame rooms one other (next one.input)
SeesSame rooms one other (Starting port next) = SeesSame rooms one other next
SeesSame rooms one other (Receiving next) =
    (datagram : Datagram) (left : List Datagram) → one.datagrams ≡ datagram ∷ left
    → SeesSame rooms (record one { datagrams = left }) other (next datagram)
SeesSame rooms one other (Before first others) = ⊥
SeesSame rooms one other (InLine line steps) = SeesSame rooms one other steps

-- they see the same where their looks are alike, and so are the files that they come to open
sees_same : (rooms : Bool) (steps : Steps) (one : Outside) (other : World) → LooksAlikeBy rooms one.files other steps
    → ((file : FileAsked) → Opens steps one file → IsFileAlike one.files other file)
    → SeesSame rooms one other steps
sees_same rooms (Ending stated) one other looks opened = tt
sees_same rooms (Doing act next) one other looks opened = sees_same rooms next one other looks opened
sees_same rooms (Looking next) one other looks opened =
    (looks.0, sees_same rooms (next one.files) one other looks.1 opened)
sees_same rooms (Opening kind asked name next) one other looks opened = (
  opened (record { kind = kind; asked = asked; name = name }) (inl refl),
  λ value seen.
      sees_same rooms (next value) one other (looks value) (λ file opens. opened file (inr (value, seen, opens))),
)
sees_same rooms (Reading whole next) one other looks opened =
    sees_same rooms (next one.input) one other (looks one.input) opened
sees_same rooms (Starting port next) one other looks opened = sees_same rooms next one other looks opened
sees_same rooms (Receiving next) one other looks opened =
    λ datagram left is. sees_same rooms (next datagram) (record one { datagrams = left }) other (looks datagram)
    (λ file opens. opened file (datagram, left, is, opens))
sees_same rooms (Before first others) one other looks opened = looks
sees_same rooms (InLine line steps) one other looks opened = sees_same rooms steps one other looks opened

-- What is outside, while steps go on.

-- what is outside here and there is as it was at the start in the one world and in the other, as far as steps may still
-- look at it
record GoesOn (looks takes : Bool) (one : Outside) (other : World) (here there : Outside) : Type 0 where
  in_one : IsTrue looks → here.files ≡ one.files
  in_other : IsTrue looks → there.files ≡ other
  input_here : IsTrue takes → here.input ≡ one.input
  input_there : IsTrue takes → there.input ≡ one.input
  datagrams_here : here.datagrams ≡ one.datagrams
  datagrams_there : there.datagrams ≡ one.datagrams

-- files that may still be looked at after an act are those from before it
left_by : (looks : Bool) (act : Act) (world old new : World) → (IsTrue looks → old ≡ world) → FollowsAct act old new
    → IsTrue (looks && leaves_files act) → new ≡ world
left_by false act world old new same follows is = absurd (false≢true is)
left_by true (Change way name value) world old new same follows is = absurd (false≢true is)
left_by true (Replace name value) world old new same follows is = absurd (false≢true is)
left_by true _ world old new same follows is = follows ∙ same refl

done_on : (looks takes : Bool) (one : Outside) (other : World) (here there : Outside) (act : Act)
    (in_one in_other : World) → GoesOn looks takes one other here there
    → FollowsAct act here.files in_one → FollowsAct act there.files in_other
    → GoesOn (looks && leaves_files act) takes one other (record here { files = in_one })
    (record there { files = in_other })
done_on looks takes one other here there act in_one in_other on first second = record {
  in_one = left_by looks act one.files here.files in_one on.in_one first;
  in_other = left_by looks act other there.files in_other on.in_other second;
  input_here = on.input_here;
  input_there = on.input_there;
  datagrams_here = on.datagrams_here;
  datagrams_there = on.datagrams_there;
}

taken_on : (looks takes : Bool) (one : Outside) (other : World) (here there : Outside) (left rest : List ℕ)
    → GoesOn looks takes one other here there
    → GoesOn looks false one other (record here { input = left }) (record there { input = rest })
taken_on looks takes one other here there left rest on = record {
  in_one = on.in_one;
  in_other = on.in_other;
  input_here = λ no. absurd (false≢true no);
  input_there = λ no. absurd (false≢true no);
  datagrams_here = on.datagrams_here;
  datagrams_there = on.datagrams_there;
}

received_on : (looks takes : Bool) (one : Outside) (other : World) (here there : Outside) (left rest : List Datagram)
    → GoesOn looks takes one other here there
    → rest ≡ left → GoesOn looks takes (record one { datagrams = left }) other (record here { datagrams = left })
    (record there { datagrams = rest })
received_on looks takes one other here there left rest on same = record {
  in_one = on.in_one;
  in_other = on.in_other;
  input_here = on.input_here;
  input_there = on.input_there;
  datagrams_here = refl;
  datagrams_there = same;
}

-- What is seen where steps may still look: at an act, and at a look.

-- what may be looked at behind an act may be looked at before it
looked_before : (looks leaves : Bool) → IsTrue (looks && leaves) → IsTrue looks
looked_before true leaves is = refl
looked_before false leaves is = absurd (false≢true is)

-- of a look in both worlds the same steps come
looks_same : (rooms looks takes : Bool) (one : Outside) (other : World) (next : World → Steps) (here there : Outside)
    → IsTrue looks ⊎ RestsOnNone rooms next
    → (IsTrue looks → SeesSame rooms one other (Looking next)) → GoesOn looks takes one other here there
    → AreSameSteps rooms (next here.files) (next there.files)
looks_same rooms looks takes one other next here there (inr rests) sees on = rests here.files there.files
looks_same rooms looks takes one other next here there (inl may) sees on =
    subst (λ (w : World). AreSameSteps rooms (next w) (next there.files)) (sym (on.in_one may))
    (subst (λ (w : World). AreSameSteps rooms (next one.files) (next w)) (sym (on.in_other may)) (sees may).0)

-- and what they see is the same, as far as they may still look
sees_behind : (rooms looks takes : Bool) (one : Outside) (other : World) (next : World → Steps) (here there : Outside)
    → (IsTrue looks → SeesSame rooms one other (Looking next))
    → GoesOn looks takes one other here there → IsTrue looks → SeesSame rooms one other (next here.files)
sees_behind rooms looks takes one other next here there sees on may =
    subst (λ (w : World). SeesSame rooms one other (next w)) (sym (on.in_one may)) (sees may).1

-- However they end in both worlds, they do the same.

-- the acts and the refusals are the same, unless there is not enough room
abbrev pub AreSameEnds : (rooms : Bool) → (acts more : List Act) → (refusal stop : Option Refusal) → Type 0
AreSameEnds rooms acts more refusal stop = UnlessOneFull rooms refusal stop ((acts ≡ more) × (refusal ≡ stop))

-- so are those of steps that are the same, unless there is not enough room
same_looks : (rooms : Bool) (one_steps others : Steps) (here there : Outside) (acts : List Act) (new : Outside)
    (refusal : Option Refusal) (more : List Act) (to : Outside) (stop : Option Refusal)
    → AreSameSteps rooms one_steps others → EndsBy one_steps here acts new refusal → EndsBy others there more to stop
    → (EndsBy one_steps there more to stop → AreSameEnds rooms acts more refusal stop)
    → AreSameEnds rooms acts more refusal stop
same_looks rooms one_steps others here there acts new refusal more to stop (inl same) ends also rest =
    rest (subst (λ (s : Steps). EndsBy s there more to stop) (sym same) also)
same_looks rooms one_steps others here there acts new refusal more to stop (inr (is, inl full)) ends also rest =
    inr (is, inl (full_ended one_steps here acts new refusal full ends))
same_looks rooms one_steps others here there acts new refusal more to stop (inr (is, inr full)) ends also rest =
    inr (is, inr (full_ended others there more to stop full also))

same_acts : (rooms looks takes : Bool) (one : Outside) (other : World) (steps : Steps) (here there : Outside)
    (acts : List Act) (new : Outside) (refusal : Option Refusal) (more : List Act) (to : Outside)
    (stop : Option Refusal)
    → LooksFirstBy rooms looks takes steps → (IsTrue looks → SeesSame rooms one other steps)
    → GoesOn looks takes one other here there
    → EndsBy steps here acts new refusal → EndsBy steps there more to stop → AreSameEnds rooms acts more refusal stop
same_acts rooms looks takes one other (Ending stated) here there acts new refusal more to stop first sees on ends also =
    inl (ends.acts_none ∙ sym also.acts_none, ends.ends ∙ sym also.ends)
same_acts rooms looks takes one other (Doing act next) here there acts new refusal more to stop first
    sees on ends also =
    unless_one_full rooms refusal stop refusal stop (λ full. full) (λ full. full)
    (λ (rest : (ends.0 ≡ also.0) × (refusal ≡ stop)). (
      ends.2 ∙ ap (λ (a : List Act). act ∷ a) rest.0 ∙ sym also.2,
      rest.1,
    ))
    (same_acts rooms (looks && leaves_files act) takes one other next (record here { files = ends.1 })
    (record there { files = also.1 }) ends.0 new refusal also.0 to stop first
    (λ may. sees (looked_before looks (leaves_files act) may))
    (done_on looks takes one other here there act ends.1 also.1 on ends.3 also.3) ends.4 also.4)
same_acts rooms looks takes one other (Looking next) here there acts new refusal more to stop first sees on ends also =
    same_looks rooms (next here.files) (next there.files) here there acts new refusal more to stop
    (looks_same rooms looks takes one other next here there first.0 sees on) ends also
    (λ from. same_acts rooms looks takes one other (next here.files) here there acts new refusal more to stop
    (first.1 here.files)
    (sees_behind rooms looks takes one other next here there sees on) on ends from)
same_acts rooms looks takes one other (Opening kind asked name next) here there acts new refusal more to stop first sees
    on (inl seen) (inl also) =
    let view = subst (λ (w : World). IsView (w name) kind asked (Ok seen.0)) (on.in_one first.0) seen.1 in
    let same = seen_same kind asked (one.files name) (other name) (Ok seen.0) (Ok also.0) (sees first.0).0 view
    (subst (λ (w : World). IsView (w name) kind asked (Ok also.0)) (on.in_other first.0) also.1) in
    same_acts rooms looks takes one other (next seen.0) here there acts new refusal more to stop (first.1 seen.0)
    (λ may. (sees may).1 seen.0 view) on seen.2
    (subst (λ (v : QuotaValue). EndsBy (next v) there more to stop) (sym (same_value seen.0 also.0 same)) also.2)
same_acts rooms looks takes one other (Opening kind asked name next) here there acts new refusal more to stop first sees
    on (inl seen) (inr bad) =
    absurd
    (not_both seen.0 bad.0 (seen_same kind asked (one.files name) (other name) (Ok seen.0) (Err bad.0) (sees first.0).0
    (subst (λ (w : World). IsView (w name) kind asked (Ok seen.0)) (on.in_one first.0) seen.1)
    (subst (λ (w : World). IsView (w name) kind asked (Err bad.0)) (on.in_other first.0) bad.1)))
same_acts rooms looks takes one other (Opening kind asked name next) here there acts new refusal more to stop first sees
    on (inr bad) (inl also) =
    absurd (not_both also.0 bad.0
    (sym (seen_same kind asked (one.files name) (other name) (Err bad.0) (Ok also.0) (sees first.0).0
    (subst (λ (w : World). IsView (w name) kind asked (Err bad.0)) (on.in_one first.0) bad.1)
    (subst (λ (w : World). IsView (w name) kind asked (Ok also.0)) (on.in_other first.0) also.1))))
same_acts rooms looks takes one other (Opening kind asked name next) here there acts new refusal more to stop first sees
    on (inr bad) (inr also) =
    let same = seen_same kind asked (one.files name) (other name) (Err bad.0) (Err also.0) (sees first.0).0
    (subst (λ (w : World). IsView (w name) kind asked (Err bad.0)) (on.in_one first.0) bad.1)
    (subst (λ (w : World). IsView (w name) kind asked (Err also.0)) (on.in_other first.0) also.1) in
    inl (
      bad.2.acts_none ∙ sym also.2.acts_none,
      bad.2.ends ∙ ap (λ (f : OpenFault). Some (refusal_of (opening_cause f) name)) (same_fault bad.0 also.0 same)
          ∙ sym also.2.ends,
    )
same_acts rooms looks takes one other (Reading whole next) here there acts new refusal more to stop first
    sees on ends also =
    same_acts rooms looks false one other (next one.input) (record here { input = ends.0 })
    (record there { input = also.0 }) acts new refusal more to stop (first.1 one.input) sees
    (taken_on looks takes one other here there ends.0 also.0 on)
    (subst (λ (b : List ℕ). EndsBy (next b) (record here { input = ends.0 }) acts new refusal)
    (on.input_here first.0) ends.2)
    (subst (λ (b : List ℕ). EndsBy (next b) (record there { input = also.0 }) more to stop)
    (on.input_there first.0) also.2)
same_acts rooms looks takes one other (Starting port next) here there acts new refusal more to stop first
    sees on ends also =
    unless_one_full rooms refusal stop refusal stop (λ full. full) (λ full. full)
    (λ (rest : (ends.0 ≡ also.0) × (refusal ≡ stop)). (
      ends.1 ∙ ap (λ (a : List Act). Start port here.datagrams ∷ a) rest.0
          ∙ ap (λ (d : List Datagram). Start port d ∷ also.0) (on.datagrams_here ∙ sym on.datagrams_there) ∙ sym also.1,
      rest.1,
    ))
    (same_acts rooms looks takes one other next here there ends.0 new refusal also.0 to stop first sees
    on ends.2 also.2)
same_acts rooms looks takes one other (Receiving next) here there acts new refusal more to stop first
    sees on ends also =
    let both = sym also.2 ∙ on.datagrams_there ∙ sym on.datagrams_here ∙ ends.2 in
    let same = same_first also.0 ends.0 also.1 ends.1 both in
    same_acts rooms looks takes (record one { datagrams = ends.1 }) other (next ends.0)
    (record here { datagrams = ends.1 }) (record there { datagrams = also.1 }) acts new refusal more to
    stop (first ends.0)
    (λ may. sees may ends.0 ends.1 (sym on.datagrams_here ∙ ends.2))
    (received_on looks takes one other here there ends.1 also.1 on same.1) ends.3
    (subst (λ (d : Datagram). EndsBy (next d) (record there { datagrams = also.1 }) more to stop) same.0 also.3)
same_acts rooms looks takes one other (Before one_steps others) here there acts new refusal more to stop first sees on
    ends also = absurd first
same_acts rooms looks takes one other (InLine line steps) here there acts new refusal more to stop first
    sees on ends also =
    unless_one_full rooms ends.0 also.0 refusal stop (full_in_line line ends.0 refusal ends.1)
    (full_in_line line also.0 stop also.1)
    (λ (own : (acts ≡ more) × (ends.0 ≡ also.0)). (own.0, ends.1 ∙ ap (in_line line) own.1 ∙ sym also.1))
    (same_acts rooms looks takes one other steps here there acts new ends.0 more to also.0 first sees on ends.2 also.2)

-- As they end in one world, they may end in the other.

-- a file that is seen as a value in one world may be seen so in the other: it gets the same bytes
seen_as_too : (name : List ℕ) (value : QuotaValue) (new from : World) → IsSeenAs name value new
    → (to : World) × (IsSeenAs name value to × KeepsOthers name from to)
seen_as_too name value new from seen = (
  with_file from name (new name),
  (
    subst (λ (f : Option (List ℕ)). IsView f value.kind (InFormat value.format) (Ok value))
        (sym (ap (λ (b : Bool). if b then new name else from name) (bytes_eq-same name))) seen,
    λ other differ.
        ap (λ (b : Bool). if b then new name else from other) (bytes_eq-ne name other (λ is. differ (sym is))),
  ),
)

-- files that follow an act in one world may follow it in the other
follow_too : (act : Act) (old new from : World) → FollowsAct act old new → (to : World) × FollowsAct act from to
follow_too (Change way name value) old new from follows = seen_as_too name value new from follows.0
follow_too (Replace name value) old new from follows =
    let to = seen_as_too name value new from follows.0 in
    (to.0, (to.1.0, λ other differ differs. to.1.1 other differ))
follow_too _ old new from follows = (from, refl)

-- steps end so from there too, unless there is not enough room; and so do other steps, whose ends follow from theirs
ends_more : (rooms : Bool) (inner outer : Steps) (there from : Outside) (acts all : List Act)
    (own refusal : Option Refusal) (behind : List Act → List Act) (in_it : Option Refusal → Option Refusal)
    → all ≡ behind acts → refusal ≡ in_it own → ((stop : Option Refusal) → IsFull stop → IsFull (in_it stop))
    → ((more : List Act) (to : Outside) (stop : Option Refusal) → EndsBy inner there more to stop
    → EndsBy outer from (behind more) to (in_it stop))
    → EndsAlso rooms inner there acts own → EndsAlso rooms outer from all refusal
ends_more rooms inner outer there from acts all own refusal behind in_it whole is full leads (inl wanting) =
    inl (wanting.0, subst (λ (r : Option Refusal). IsFull r) (sym is) (full own wanting.1))
ends_more rooms inner outer there from acts all own refusal behind in_it whole is full leads
    (inr (more, to, stop, ends, same)) = inr (
      behind more,
      to,
      in_it stop,
      leads more to stop ends,
      unless_one_full rooms own stop refusal (in_it stop)
          (λ wanting. subst (λ (r : Option Refusal). IsFull r) (sym is) (full own wanting)) (full stop)
          (λ (both : (acts ≡ more) × (own ≡ stop)). (whole ∙ ap behind both.0, is ∙ ap in_it both.1)) same,
    )

-- the same acts and the same refusal
ends_only : (rooms : Bool) (inner outer : Steps) (there from : Outside) (acts : List Act) (refusal : Option Refusal)
    → ((more : List Act) (to : Outside) (stop : Option Refusal) → EndsBy inner there more to stop
    → EndsBy outer from more to stop) → EndsAlso rooms inner there acts refusal → EndsAlso rooms outer from acts refusal
ends_only rooms inner outer there from acts refusal leads also =
    ends_more rooms inner outer there from acts acts refusal refusal (λ (a : List Act). a) (λ (r : Option Refusal). r)
    refl refl (λ stop full. full) leads also

-- they end just so
ends_so : (rooms : Bool) (steps : Steps) (there : Outside) (acts : List Act) (to : Outside) (refusal : Option Refusal)
    → EndsBy steps there acts to refusal → EndsAlso rooms steps there acts refusal
ends_so rooms steps there acts to refusal ends = inr (acts, to, refusal, ends, inl (refl, refl))

-- steps that are the same end alike, unless there is not enough room
ends_looked : (rooms : Bool) (one_steps others : Steps) (here there : Outside) (acts : List Act) (new : Outside)
    (refusal : Option Refusal) → AreSameSteps rooms one_steps others
    → EndsBy one_steps here acts new refusal → EndsAlso rooms one_steps there acts refusal
    → EndsAlso rooms others there acts refusal
ends_looked rooms one_steps others here there acts new refusal (inl same) ends also =
    subst (λ (s : Steps). EndsAlso rooms s there acts refusal) same also
ends_looked rooms one_steps others here there acts new refusal (inr (is, inl full)) ends also =
    inl (is, full_ended one_steps here acts new refusal full ends)
ends_looked rooms one_steps others here there acts new refusal (inr (is, inr full)) ends also =
    let end = full_ends others there full in
    inr ([], there, end.0, end.2, inr (is, inr end.1))

ends_too : (rooms looks takes : Bool) (one : Outside) (other : World) (steps : Steps) (here there : Outside)
    (acts : List Act) (new : Outside) (refusal : Option Refusal)
    → LooksFirstBy rooms looks takes steps → (IsTrue looks → SeesSame rooms one other steps)
    → GoesOn looks takes one other here there
    → EndsBy steps here acts new refusal → EndsAlso rooms steps there acts refusal
ends_too rooms looks takes one other (Ending stated) here there acts new refusal first sees on ends =
    ends_so rooms (Ending stated) there acts there refusal
    (record { acts_none = ends.acts_none; same = refl; ends = ends.ends })
ends_too rooms looks takes one other (Doing act next) here there acts new refusal first sees on ends =
    let follows = follow_too act here.files ends.1 there.files ends.3 in
    ends_more rooms next (Doing act next) (record there { files = follows.0 }) there ends.0 acts refusal refusal
    (λ (a : List Act). act ∷ a) (λ (r : Option Refusal). r) ends.2 refl (λ stop full. full)
    (λ more to stop by. (more, follows.0, refl, follows.1, by))
    (ends_too rooms (looks && leaves_files act) takes one other next (record here { files = ends.1 })
    (record there { files = follows.0 }) ends.0 new refusal first
    (λ may. sees (looked_before looks (leaves_files act) may))
    (done_on looks takes one other here there act ends.1 follows.0 on ends.3 follows.1) ends.4)
ends_too rooms looks takes one other (Looking next) here there acts new refusal first sees on ends =
    ends_only rooms (next there.files) (Looking next) there there acts refusal (λ more to stop by. by)
    (ends_looked rooms (next here.files) (next there.files) here there acts new refusal
    (looks_same rooms looks takes one other next here there first.0 sees on) ends
    (ends_too rooms looks takes one other (next here.files) here there acts new refusal (first.1 here.files)
    (sees_behind rooms looks takes one other next here there sees on) on ends))
ends_too rooms looks takes one other (Opening kind asked name next) here there acts new refusal first
    sees on (inl seen) =
    let view = subst (λ (w : World). IsView (w name) kind asked (Ok seen.0)) (on.in_one first.0) seen.1 in
    let too = seen_too kind asked (one.files name) (other name) (Ok seen.0) (sees first.0).0 view in
    ends_only rooms (next seen.0) (Opening kind asked name next) there there acts refusal
    (λ more to stop by. inl (
      seen.0,
      subst (λ (w : World). IsView (w name) kind asked (Ok seen.0)) (sym (on.in_other first.0)) too,
      by,
    ))
    (ends_too rooms looks takes one other (next seen.0) here there acts new refusal (first.1 seen.0)
    (λ may. (sees may).1 seen.0 view) on seen.2)
ends_too rooms looks takes one other (Opening kind asked name next) here there acts new refusal first
    sees on (inr bad) =
    let view = subst (λ (w : World). IsView (w name) kind asked (Err bad.0)) (on.in_one first.0) bad.1 in
    let too = seen_too kind asked (one.files name) (other name) (Err bad.0) (sees first.0).0 view in
    ends_so rooms (Opening kind asked name next) there acts there refusal (inr (
      bad.0,
      subst (λ (w : World). IsView (w name) kind asked (Err bad.0)) (sym (on.in_other first.0)) too,
      record { acts_none = bad.2.acts_none; same = refl; ends = bad.2.ends },
    ))
ends_too rooms looks takes one other (Reading whole next) here there acts new refusal first sees on ends =
    let same = on.input_here first.0 ∙ sym (on.input_there first.0) in
    ends_only rooms (next one.input) (Reading whole next) (record there { input = ends.0 }) there acts refusal
    (λ more to stop by. (
      ends.0,
      record {
        taken = ends.1.taken;
        behind = sym same ∙ ends.1.behind;
        all = λ is. ends.1.all (subst (λ (b : List ℕ). IsTrue (whole b)) (sym same) is);
      },
      subst (λ (b : List ℕ). EndsBy (next b) (record there { input = ends.0 }) more to stop)
          (sym (on.input_there first.0)) by,
    ))
    (ends_too rooms looks false one other (next one.input) (record here { input = ends.0 })
    (record there { input = ends.0 }) acts new refusal (first.1 one.input) sees
    (taken_on looks takes one other here there ends.0 ends.0 on)
    (subst (λ (b : List ℕ). EndsBy (next b) (record here { input = ends.0 }) acts new refusal)
    (on.input_here first.0) ends.2))
ends_too rooms looks takes one other (Starting port next) here there acts new refusal first sees on ends =
    ends_more rooms next (Starting port next) there there ends.0 acts refusal refusal
    (λ (a : List Act). Start port there.datagrams ∷ a) (λ (r : Option Refusal). r)
    (ends.1 ∙ ap (λ (d : List Datagram). Start port d ∷ ends.0) (on.datagrams_here ∙ sym on.datagrams_there)) refl
    (λ stop full. full)
    (λ more to stop by. (more, refl, by))
    (ends_too rooms looks takes one other next here there ends.0 new refusal first sees on ends.2)
ends_too rooms looks takes one other (Receiving next) here there acts new refusal first sees on ends =
    let is = sym on.datagrams_here ∙ ends.2 in
    ends_only rooms (next ends.0) (Receiving next) (record there { datagrams = ends.1 }) there acts refusal
    (λ more to stop by. (ends.0, ends.1, on.datagrams_there ∙ is, by))
    (ends_too rooms looks takes (record one { datagrams = ends.1 }) other (next ends.0)
    (record here { datagrams = ends.1 }) (record there { datagrams = ends.1 }) acts new refusal (first ends.0)
    (λ may. sees may ends.0 ends.1 is) (received_on looks takes one other here there ends.1 ends.1 on refl) ends.3)
ends_too rooms looks takes one other (Before one_steps others) here there acts new refusal first sees on ends =
    absurd first
ends_too rooms looks takes one other (InLine line steps) here there acts new refusal first sees on ends =
    ends_more rooms steps (InLine line steps) there there acts acts ends.0 refusal (λ (a : List Act). a) (in_line line)
    refl ends.1 (λ stop full. full_in_line line stop (in_line line stop) refl full)
    (λ more to stop by. (stop, refl, by))
    (ends_too rooms looks takes one other steps here there acts new ends.0 first sees on ends.2)

-- Steps that meet the same outside.

goes_on : (rooms : Bool) (steps : Steps) (one other : Outside) → MeetsSame rooms steps one other
    → GoesOn true true one other.files one other
goes_on rooms steps one other same = record {
  in_one = λ is. refl;
  in_other = λ is. refl;
  input_here = λ is. refl;
  input_there = λ is. same.input;
  datagrams_here = refl;
  datagrams_there = same.datagrams;
}

pub both_end_so : (rooms : Bool) (steps : Steps) (one other new to : Outside) (acts more : List Act)
    (refusal stop : Option Refusal) → LooksFirstBy rooms true true steps → MeetsSame rooms steps one other
    → EndsBy steps one acts new refusal → EndsBy steps other more to stop → AreSameEnds rooms acts more refusal stop
both_end_so rooms steps one other new to acts more refusal stop first same ends also =
    same_acts rooms true true one other.files steps one other acts new refusal more to stop first
    (λ may. sees_same rooms steps one other.files same.looks same.opened) (goes_on rooms steps one other same) ends also

pub other_ends_so : (rooms : Bool) (steps : Steps) (one other new : Outside) (acts : List Act)
    (refusal : Option Refusal) → LooksFirstBy rooms true true steps → MeetsSame rooms steps one other
    → EndsBy steps one acts new refusal → EndsAlso rooms steps other acts refusal
other_ends_so rooms steps one other new acts refusal first same ends =
    ends_too rooms true true one other.files steps one other acts new refusal first
    (λ may. sees_same rooms steps one other.files same.looks same.opened) (goes_on rooms steps one other same) ends
