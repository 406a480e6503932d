use Rattle.std.proofs.Common.{◌≡◌, false, refl, ap, arith, ◌∙◌, sym, subst}
use Rattle.memory_objects.specs.declared.name_set.NameSet.{NameSet}
use Rattle.memory_objects.specs.NameSet.{names_in}
use Rattle.outside.specs.Unsynced.{with_name, AddsNone, UnsyncedNames}
use Rattle.outside.proofs.UnsyncedLemmas.{with_name-adds_none, with_name-others_is}
use Rattle.disk_in_memory.specs.Told.{names_of, left_unsynced, present_of}
use Rattle.disk.proofs.TakesStepLemmas.{step_wider, sync_keeps, sync_nothing}
use Rattle.disk_in_memory.proofs.ToldLemmas.{told_nothing}
use Rattle.disk_in_memory.proofs.NamesLemmas.{adds_none-put}
use Rattle.disk_in_memory.proofs.recorded.RecordedFiles.sync.Goals as goal
use Rattle.disk_in_memory.proofs.recorded.RecordedFiles.sync.Goals.{After-remove}

names_now : (c : After-remove)
    → names_in c.remove.new.self.names.items
    ≡ with_name (names_in c.args.self.now.unsynced.names.items) c.args.name.now false
names_now c =
    c.remove.ensures
    ∙ ap (λ (set : NameSet). with_name (names_in set.names.items) c.args.name.now false) c.make.ensures.unsynced

pub returns-in_err-call-clause-leaves : goal.returns-in_err-call-clause-leaves
returns-in_err-call-clause-leaves c = λ failed later less. told_nothing _ _ _ _ _ _ _ _ failed later refl refl refl less

pub returns-in_err-make-clause-leaves : goal.returns-in_err-make-clause-leaves
returns-in_err-make-clause-leaves c = λ failed later less. c.in_err-make.ensures.err _ _ failed later less

pub returns-clause-kept : goal.returns-clause-kept
returns-clause-kept c =
    λ failed.
    sync_keeps c.args.name.now _ _ (c.in_ok-make.ensures.files ∙ c.in_ok-call.ensures.done _)
    (step_wider _ _ _ _ (λ before after makes. (c.in_ok-call.ensures.left _ before after).0 makes)
    (c.in_ok-make.ensures.ok (names_of c.args.self.now) (names_of c.args.self.now) failed failed (omega arith)))

pub returns-clause-none : goal.returns-clause-none
returns-clause-none c = with_name-adds_none _ _ _ (names_now (goal.at.returns-clause-none c).After-remove)

pub returns-clause-others : goal.returns-clause-others
returns-clause-others c = with_name-others_is _ _ _ _ (names_now (goal.at.returns-clause-others c).After-remove)

pub returns-clause-leaves : goal.returns-clause-leaves
returns-clause-leaves c =
    λ failed later less.
    sync_nothing c.args.name.now _ _ (c.in_ok-make.ensures.files ∙ c.in_ok-call.ensures.done _)
    (step_wider _ _ _ _ (λ before after makes. (c.in_ok-call.ensures.left _ before after).0 makes)
    (c.in_ok-make.ensures.ok _ _ failed later less))

pub returns-clause-any : goal.returns-clause-any
returns-clause-any c =
    λ failed later before after left step.
    c.in_ok-make.ensures.any failed later before after left ((c.in_ok-call.ensures.left _ before after).1 step)

pub invariant_of-self : goal.invariant_of-self
invariant_of-self c =
    let self = c.args.self.now in
    let final : names_in c.remove.new.self.names.items ≡ with_name (names_of self) c.args.name.now false =
    c.remove.ensures
    ∙ ap (λ (set : NameSet). with_name (names_in set.names.items) c.args.name.now false) c.make.ensures.unsynced in
    let left : left_unsynced c.make.new.self ≡ with_name (left_unsynced self) c.args.name.now false =
    c.in_ok-make.ensures.left ∙ c.in_ok-call.ensures.names (present_of self) (left_unsynced self) in
    record {
      replayed = c.make.new.self.replayed;
      named = subst (λ (names : UnsyncedNames). AddsNone names (left_unsynced c.make.new.self)) (sym final)
          (subst
          (λ (names : UnsyncedNames). AddsNone (with_name (names_of self) c.args.name.now false) names) (sym left)
          (adds_none-put (names_of self) (left_unsynced self) c.args.name.now false self.named));
    }
