-- A look at the files, and acts that are done before other steps.
use Rattle.std.proofs.Common.{inl, inr, ℕ, Bool, true, List, [], ◌∷◌, ◌++◌, Option, None, Some, Result, refl, ap, subst}
use Rattle.std.specs.Prelude.{◌&&◌}
use Rattle.outside.specs.World.{World}
use Rattle.outside.proofs.FrameLemmas.{only_reads-none}
use Rattle.refusals.specs.declared.cause.Cause.{Cause}
use Rattle.refusals.specs.declared.reason.Refusal.{Refusal}
use Rattle.refusals.specs.Outcome.{Outcome, Passed, Refused}
use Rattle.run_steps.specs.Act.{Act, Follows}
use Rattle.run_steps.specs.Done.{Outside, RunSeen, RunTells, outside_of}
use Rattle.run_steps.specs.Meaning.{EndsBy, HasBegun, IsSure}
use Rattle.run_steps.specs.OneCommand.{LooksFirstBy, ReadsToEnd, leaves_files}
use Rattle.run_steps.specs.Run.{HasSteps, IsDoneInPart, Uses}
use Rattle.run_steps.specs.Carrying.{CarriesOut}
use Rattle.run_steps.specs.SameViews.{FileAsked, LooksAlikeBy, Opens}
use Rattle.run_steps.specs.Steps.{DoingAll, Ending, Looking, Steps, Then}
use Rattle.run_steps.proofs.PartLemmas.{part_from}
use Rattle.run_steps.proofs.PhaseLemmas.{carries_on, leads_looking}
use Rattle.run_steps.proofs.RowLemmas.{LeadsBy}

-- what was carried out of the steps that come of a look was carried out of the look and these steps
pub carries_looking : (next : World → Steps) (uses : Uses) (may : Cause → List ℕ → Type 0) (tells : RunTells)
    (old new : RunSeen) (result : Result (Unit {0}) Refusal)
    → CarriesOut (next old.store.files) uses may tells old new result
    → CarriesOut (Looking next) uses may tells old new result
carries_looking next uses may tells old new result carries =
    carries_on {done = true} [] (next old.store.files) (Looking next) uses may may tells old old.store new result
    (only_reads-none [] old.store)
    (λ told. leads_looking (next old.store.files) next (outside_of old) refl) (λ cause said allowed. allowed) carries

-- Acts that are done, and then other steps.

-- acts that were done lead to the steps behind them
pub leads_doing : (acts : List Act) (next : Steps) (from : Outside) (files : World) → Follows acts from.files files
    → LeadsBy acts next (record from { files = files }) (DoingAll acts next) from
leads_doing [] next from files same = record {
  ends = λ more to ended by. subst (λ (w : World). EndsBy next (record from { files = w }) more to ended) same by;
  begun = λ done hand now by. subst (λ (w : World). HasBegun next (record from { files = w }) done hand now) same by;
}
leads_doing (act ∷ acts) next from files follows =
    let rest = leads_doing acts next (record from { files = follows.0 }) files follows.2 in
    record {
      ends = λ more to ended by. (acts ++ more, follows.0, refl, follows.1, rest.ends more to ended by);
      begun = λ done hand now by. inr (acts ++ done, follows.0, refl, follows.1, rest.begun done hand now by);
    }

pub alike_doing : (rooms : Bool) (one other : World) (acts : List Act) (next : Steps)
    → LooksAlikeBy rooms one other next → LooksAlikeBy rooms one other (DoingAll acts next)
alike_doing rooms one other [] next alike = alike
alike_doing rooms one other (act ∷ acts) next alike = alike_doing rooms one other acts next alike

-- they look first where the steps behind them do, even if no file may be looked at then
pub looks_doing : (rooms looks takes : Bool) (acts : List Act) (next : Steps)
    → ((may : Bool) → LooksFirstBy rooms may takes next) → LooksFirstBy rooms looks takes (DoingAll acts next)
looks_doing rooms looks takes [] next each = each looks
looks_doing rooms looks takes (act ∷ acts) next each =
    looks_doing rooms (looks && leaves_files act) takes acts next each

-- the standard input is read to its end where the steps behind them do so
pub reads_doing : (acts : List Act) (next : Steps) → ReadsToEnd next → ReadsToEnd (DoingAll acts next)
reads_doing [] next reads = reads
reads_doing (act ∷ acts) next reads = reads_doing acts next reads

-- they open the files of the steps behind them
pub opens_doing : (acts : List Act) (next : Steps) (old : Outside) (file : FileAsked)
    → Opens (DoingAll acts next) old file → Opens next old file
opens_doing [] next old file opens = opens
opens_doing (act ∷ acts) next old file opens = opens_doing acts next old file opens

-- they are sure where the steps behind them are, whatever files the acts leave
pub sure_doing : (acts : List Act) (next : Steps) (old : Outside)
    → ((files : World) → Follows acts old.files files → IsSure next (record old { files = files }))
    → IsSure (DoingAll acts next) old
sure_doing [] next old each = each old.files refl
sure_doing (act ∷ acts) next old each = λ middle follows.
    sure_doing acts next (record old { files = middle }) (λ files more. each files (middle, follows, more))

-- Steps that are the same but for what comes behind them.

-- the first of two refusals
abbrev pub first_of : Option Refusal → Option Refusal → Option Refusal
first_of (Some refusal) other = Some refusal
first_of None other = other

-- Other steps do what these do, and where these pass, they end with this refusal, if there is one.
pub record AddsEnd (behind : Option Refusal) (steps other : Steps) : Type 0 where
  pub ends : (old : Outside) (acts : List Act) (new : Outside) (refusal : Option Refusal)
      → EndsBy steps old acts new refusal → EndsBy other old acts new (first_of refusal behind)
  pub begun : (old : Outside) (done hand : List Act) (now : Outside) → HasBegun steps old done hand now
      → HasBegun other old done hand now

-- where nothing is left to be done
pub adds_none : (behind : Option Refusal) → AddsEnd behind (Ending None) (Ending behind)
adds_none behind = record {
  ends = λ old acts new refusal is. record {
    acts_none = is.acts_none;
    same = is.same;
    ends = ap (λ (r : Option Refusal). first_of r behind) is.ends;
  };
  begun = λ old done hand now is. is;
}

-- behind acts
adds_doing : (behind : Option Refusal) (acts : List Act) (steps other : Steps) → AddsEnd behind steps other
    → AddsEnd behind (DoingAll acts steps) (DoingAll acts other)
adds_doing behind [] steps other adds = adds
adds_doing behind (act ∷ acts) steps other adds =
    let rest = adds_doing behind acts steps other adds in
    record {
      ends = λ old all new refusal by.
          (by.0, by.1, by.2, by.3, rest.ends (record old { files = by.1 }) by.0 new refusal by.4);
      begun = λ old done hand now begun. elim begun [
        | inl is ↦ inl is
        | inr by ↦ inr (by.0, by.1, by.2, by.3, rest.begun (record old { files = by.1 }) by.0 hand now by.4)
      ];
    }

-- behind the acts of a step that passed
pub adds_then : (behind : Option Refusal) (outcome : Outcome (List Act)) (steps other : Steps)
    → AddsEnd behind steps other
    → AddsEnd behind (Then outcome (λ (acts : List Act). DoingAll acts steps))
    (Then outcome (λ (acts : List Act). DoingAll acts other))
adds_then behind (Passed acts) steps other adds = adds_doing behind acts steps other adds
adds_then behind (Refused stop) steps other adds = record {
  ends = λ old acts new refusal is. record {
    acts_none = is.acts_none;
    same = is.same;
    ends = ap (λ (r : Option Refusal). first_of r behind) is.ends;
  };
  begun = λ old done hand now is. is;
}

-- behind a look
pub adds_looking : (behind : Option Refusal) (next also : World → Steps)
    → ((files : World) → AddsEnd behind (next files) (also files)) → AddsEnd behind (Looking next) (Looking also)
adds_looking behind next also each = record {
  ends = λ old acts new refusal by. (each old.files).ends old acts new refusal by;
  begun = λ old done hand now by. (each old.files).begun old done hand now by;
}

-- what was done whole
pub steps_adding : (behind : Option Refusal) (steps other : Steps) (tells : RunTells) (ended : Option Refusal)
    (old new : RunSeen) → AddsEnd behind steps other → HasSteps steps tells ended old new
    → HasSteps other tells (first_of ended behind) old new
steps_adding behind steps other tells ended old new adds has = record {
  acts = has.acts;
  by_steps = adds.ends (outside_of old) has.acts (outside_of new) ended has.by_steps;
  done = has.done;
}

-- and what was done in part
pub part_adding : {why : Option Cause} (behind : Option Refusal) (steps other : Steps) (tells : RunTells)
    (old new : RunSeen) → AddsEnd behind steps other → IsDoneInPart steps tells why old new
    → IsDoneInPart other tells why old new
part_adding behind steps other tells old new adds part =
    part_from steps other tells old old.store old.input new refl (adds.begun (outside_of old)) part
