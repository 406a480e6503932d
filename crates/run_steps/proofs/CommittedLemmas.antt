-- What a command commits, by what its parts commit.
use Rattle.std.proofs.Common.{◌≡◌, inl, inr, ℕ, Bool, false, IsTrue, List, [], ◌∷◌, ◌++◌, Option, None, Some, Ok, refl}
use Rattle.std.proofs.Common.{sym, subst, ◌∙◌}
use Rattle.std.proofs.lemmas.Bool.{false≢true}
use Rattle.std.proofs.lemmas.List.Elements.{All-append, All-cons, All-nil, All-weaker}
use Rattle.quota_types.specs.declared.file_kind.Kind.{Kind}
use Rattle.outside.specs.World.{World}
use Rattle.quota_value.specs.QuotaValue.{QuotaValue}
use Rattle.quota_map.specs.Asked.{Asked}
use Rattle.quota_map.specs.View.{IsView}
use Rattle.refusals.specs.Outcome.{Outcome, Passed}
use Rattle.refusals.specs.declared.reason.Refusal.{Refusal}
use Rattle.run_steps.specs.Act.{Act, FollowsAct}
use Rattle.run_steps.specs.Committed.{ComesTo, CommitsSteps}
use Rattle.run_steps.specs.Done.{Outside}
use Rattle.run_steps.specs.Meaning.{EndsBy, IsTaken}
use Rattle.run_steps.specs.Steps.{Steps, Before, Doing, InLine, Looking, Opening, Reading, Then}
use Rattle.run_steps.specs.Taking.{Taking, file_said, input_said, reads_whole}
use Rattle.run_steps.proofs.MeaningLemmas.{ended_begun, unbegun}
use Rattle.run_steps.proofs.PhaseLemmas.{LeadsTo, leads_looking}
use Rattle.run_steps.proofs.TakingLemmas.{HasTaken}

-- Files that steps come to.

-- those of the start
pub comes_first : (steps : Steps) (old : Outside) → ComesTo steps old old.files
comes_first steps old =
    let at = unbegun steps old in
    record { done = []; hand = at.0; now = old; begun = at.1; there = refl }

-- those of the end
pub comes_last : (steps : Steps) (old : Outside) (acts : List Act) (new : Outside) (refusal : Option Refusal)
    → EndsBy steps old acts new refusal → ComesTo steps old new.files
comes_last steps old acts new refusal by =
    record { done = acts; hand = []; now = new; begun = ended_begun steps old acts new refusal by; there = refl }

-- those behind an act, and what comes behind it
pub comes_behind : (act : Act) (next : Steps) (old : Outside) (middle files : World) → FollowsAct act old.files middle
    → ComesTo next (record old { files = middle }) files
    → ComesTo (Doing act next) old files
comes_behind act next old middle files follows to =
    record {
      done = act ∷ to.done;
      hand = to.hand;
      now = to.now;
      begun = inr (to.done, middle, refl, follows, to.begun);
      there = to.there;
    }

-- those that come of the value of an opened file
pub comes_opened : (kind : Kind) (asked : Asked) (name : List ℕ) (next : QuotaValue → Steps) (old : Outside)
    (value : QuotaValue) (files : World)
    → IsView (old.files name) kind asked (Ok value) → ComesTo (next value) old files
    → ComesTo (Opening kind asked name next) old files
comes_opened kind asked name next old value files view to =
    record { done = to.done; hand = to.hand; now = to.now; begun = inr (value, view, to.begun); there = to.there }

-- those that come of what is read of the input
pub comes_read : (whole : List ℕ → Bool) (next : List ℕ → Steps) (old : Outside) (left : List ℕ) (files : World)
    → IsTaken (whole old.input) old.input left → ComesTo (next old.input) (record old { input = left }) files
    → ComesTo (Reading whole next) old files
comes_read whole next old left files taken to =
    record { done = to.done; hand = to.hand; now = to.now; begun = inr (left, taken, to.begun); there = to.there }

-- those that the first of two come to, and those that the second one comes to behind it
pub comes_before : (one others : Steps) (old : Outside) (files : World) → ComesTo one old files
    → ComesTo (Before one others) old files
comes_before one others old files to =
    record { done = to.done; hand = to.hand; now = to.now; begun = inl to.begun; there = to.there }

pub comes_then : (one others : Steps) (old middle : Outside) (first : List Act) (files : World)
    → EndsBy one old first middle None → ComesTo others middle files
    → ComesTo (Before one others) old files
comes_then one others old middle first files ends to =
    record {
      done = first ++ to.done;
      hand = to.hand;
      now = to.now;
      begun = inr (first, middle, to.done, refl, ends, to.begun);
      there = to.there;
    }

-- those in a line of a script
pub comes_in_line : (line : ℕ) (steps : Steps) (old : Outside) (files : World) → ComesTo steps old files
    → ComesTo (InLine line steps) old files
comes_in_line line steps old files to =
    record { done = to.done; hand = to.hand; now = to.now; begun = to.begun; there = to.there }

-- the same ones
pub comes_same : (steps : Steps) (old : Outside) (files same : World) → ComesTo steps old files → same ≡ files
    → ComesTo steps old same
comes_same steps old files same to is =
    record { done = to.done; hand = to.hand; now = to.now; begun = to.begun; there = is ∙ to.there }

-- those to which the steps come that they lead to
pub comes_led : (next : Steps) (start : Outside) (steps : Steps) (from : Outside) (files : World)
    → LeadsTo next start steps from → ComesTo next start files → ComesTo steps from files
comes_led next start steps from files leads to =
    record {
      done = to.done;
      hand = to.hand;
      now = to.now;
      begun = leads.begun to.done to.hand to.now to.begun;
      there = to.there;
    }

-- those that come of a step with one answer
pub comes_passed : {V : Type 0} (outcome : Outcome V) (value : V) (next : V → Steps) (old : Outside) (files : World)
    → outcome ≡ Passed value → ComesTo (next value) old files → ComesTo (Then outcome next) old files
comes_passed outcome value next old files is to = subst (λ (o : Outcome _). ComesTo (Then o next) old files) (sym is) to

-- those that come of a look at the files
pub comes_looked : (next : World → Steps) (old : Outside) (files : World) → ComesTo (next old.files) old files
    → ComesTo (Looking next) old files
comes_looked next old files to =
    comes_led (next old.files) old (Looking next) old files (leads_looking (next old.files) next old refl) to

-- those that come of the value of an input
pub comes_taking : {V : Type 0} (from : Option (List ℕ)) (is_whole : V → Bool) (read : List ℕ → Outcome V)
    (next : V → Steps) (value : V) (old : Outside) (left : List ℕ) (files : World)
    → input_said from read old.files old.input ≡ Passed value → HasTaken from (is_whole value) old.input left
    → ComesTo (next value) (record old { input = left }) files
    → ComesTo (Taking from is_whole read next) old files
comes_taking None is_whole read next value old left files said taken to =
    comes_read (λ (bytes : List ℕ). reads_whole is_whole (read bytes))
    (λ (bytes : List ℕ). Then (read bytes) next) old left files
    (subst (λ (o : Outcome _). IsTaken (reads_whole is_whole o) old.input left) (sym said) taken)
    (comes_passed (read old.input) value next (record old { input = left }) files said to)
comes_taking (Some name) is_whole read next value old left files said same to =
    comes_looked (λ (files : World). Then (file_said name read (files name)) next) old files
    (comes_passed (file_said name read (old.files name)) value next old files said
    (subst (λ (l : List ℕ). ComesTo (next value) (record old { input = l }) files) same to))

-- What is committed.

-- the files of one moment
pub one_committed : (once : Type 0) (ended : Bool) (steps : Steps) (allowed : World → Type 0) (old : Outside)
    (new world : World) (commits : List World → Type 0)
    → commits (world ∷ []) → ComesTo steps old world → allowed world → (IsTrue ended → world ≡ new)
    → CommitsSteps once ended steps allowed old new commits
one_committed once ended steps allowed old new world commits it to may told =
    record {
      worlds = world ∷ [];
      commits_them = it;
      reached = All-cons (ComesTo steps old) world [] to (All-nil (ComesTo steps old));
      within = All-cons allowed world [] may (All-nil allowed);
      one = λ single. (world, refl, told);
    }

-- what was only looked at: the files are those of the start
pub looked_committed : (once : Type 0) (ended : Bool) (steps : Steps) (allowed : World → Type 0) (old : Outside)
    (new : World) (commits : List World → Type 0)
    → ((worlds : List World) → commits [] → commits worlds) → commits [] → new ≡ old.files → allowed old.files
    → CommitsSteps once ended steps allowed old new commits
looked_committed once ended steps allowed old new commits more none same may =
    one_committed once ended steps allowed old new old.files commits (more (old.files ∷ []) none)
    (comes_first steps old) may (λ well. sym same)

-- what was only looked at where steps are refused
pub unended_committed : (once : Type 0) (steps : Steps) (allowed : World → Type 0) (old : Outside) (new : World)
    (commits : List World → Type 0)
    → ((worlds : List World) → commits [] → commits worlds) → commits [] → allowed old.files
    → CommitsSteps once false steps allowed old new commits
unended_committed once steps allowed old new commits more none may =
    one_committed once false steps allowed old new old.files commits (more (old.files ∷ []) none)
    (comes_first steps old) may (λ well. absurd (false≢true well))

-- What steps within others commit is committed by these: at one moment where they are at one, and of what is said to
-- have ended well no less.
pub committed_within : (once also : Type 0) (ended last : Bool) (inner outer : Steps) (allowed may : World → Type 0)
    (at old : Outside) (new : World) (commits wider : List World → Type 0)
    → (also → once) → (IsTrue last → IsTrue ended)
    → ((worlds : List World) → commits worlds → wider worlds)
    → ((world : World) → ComesTo inner at world → ComesTo outer old world)
    → ((world : World) → allowed world → may world)
    → CommitsSteps once ended inner allowed at new commits → CommitsSteps also last outer may old new wider
committed_within once also ended last inner outer allowed may at old new commits wider single well more comes allows
    those = record {
      worlds = those.worlds;
      commits_them = more those.worlds those.commits_them;
      reached = All-weaker (ComesTo inner at) (ComesTo outer old) comes those.worlds those.reached;
      within = All-weaker allowed may allows those.worlds those.within;
      one = λ is. let moment = those.one (single is) in (moment.0, moment.1, λ ends. moment.2 (well ends));
    }

-- what is committed along two parts, in a row
pub committed_on : (ended first : Bool) (one other steps : Steps) (allowed : World → Type 0) (old middle at : Outside)
    (between new : World) (former latter commits : List World → Type 0)
    → ((worlds more : List World) → former worlds → latter more → commits (worlds ++ more))
    → ((world : World) → ComesTo one old world → ComesTo steps at world)
    → ((world : World) → ComesTo other middle world → ComesTo steps at world)
    → CommitsSteps ⊥ first one allowed old between former → CommitsSteps ⊥ ended other allowed middle new latter
    → CommitsSteps ⊥ ended steps allowed at new commits
committed_on ended first one other steps allowed old middle at between new former latter commits on comes behind those
    these = record {
      worlds = those.worlds ++ these.worlds;
      commits_them = on those.worlds these.worlds those.commits_them these.commits_them;
      reached =
          All-append (ComesTo steps at) those.worlds these.worlds
          (All-weaker (ComesTo one old) (ComesTo steps at) comes those.worlds those.reached)
          (All-weaker (ComesTo other middle) (ComesTo steps at) behind these.worlds these.reached);
      within = All-append allowed those.worlds these.worlds those.within these.within;
      one = λ single. absurd single;
    }
