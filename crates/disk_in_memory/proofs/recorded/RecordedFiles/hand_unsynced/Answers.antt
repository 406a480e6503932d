use Rattle.std.proofs.Common.{◌≤◌, ℕ, refl, true, ap, sym, subst, ◌∙◌, ◌≡◌}
use Rattle.disk.specs.DiskSeen.{ChangesNothing}
use Rattle.disk_in_memory.specs.Told.{told_of, told_with, present_of, names_of, left_unsynced}
use Rattle.disk_in_memory.proofs.ToldLemmas.{on_err_any, told_nothing}
use Rattle.memory_objects.specs.declared.name_set.NameSet.{NameSet}
use Rattle.memory_objects.specs.NameSet.{names_in}
use Rattle.disk_in_memory.specs.Unsynced.{unsynced_by}
use Rattle.outside.specs.Unsynced.{AddsNone, UnsyncedNames, with_name, with_handed}
use Rattle.outside.proofs.UnsyncedLemmas.{handed, handed-others, with_name-others}
use Rattle.disk_in_memory.proofs.NamesLemmas.{adds_none-widened, handed_where-some, adds_none-handed, adds_none-added}
use Rattle.disk_in_memory.proofs.recorded.RecordedFiles.hand_unsynced.Goals as goal

pub returns-in_err-add-clause-err : goal.returns-in_err-add-clause-err
returns-in_err-add-clause-err c =
    let same : (failed later : ℕ) → failed ≤ later
    → ChangesNothing (told_of c.args.self.now failed)
    (told_with c.args.self.now (names_in c.add.new.self.names.items) later) =
    λ failed later less. told_nothing _ _ _ _ _ _ _ _ failed later refl refl refl less in
    on_err_any _ same

pub returns-in_err-add-clause-others : goal.returns-in_err-add-clause-others
returns-in_err-add-clause-others c =
    λ other differ differs. ap (λ (names : UnsyncedNames). names other) c.in_err-add.ensures.err

pub make-requires : goal.make-requires
make-requires c =
    let self = c.args.self.now in
    subst (λ (names : UnsyncedNames). AddsNone names (unsynced_by c.args.call (present_of self) (left_unsynced self)))
    (sym c.in_ok-add.ensures.ok)
    (subst (λ (left : UnsyncedNames). AddsNone (with_name (names_of self) c.args.to.now true) left)
    (sym (c.requires.hands (present_of self) (left_unsynced self)
    ∙ handed_where-some (present_of self) (left_unsynced self) c.args.from.now c.args.to.now c.requires.there))
    (adds_none-widened (names_of self) (left_unsynced self) c.args.from.now c.args.to.now self.named))

pub returns-in_err-make-clause-err : goal.returns-in_err-make-clause-err
returns-in_err-make-clause-err c =
    let same : (failed later : ℕ) → failed ≤ later
    → ChangesNothing (told_of c.args.self.now failed) (told_of c.make.new.self later) =
    λ failed later less. c.in_err-make.ensures.err _ _ failed later less in
    on_err_any _ same

pub returns-in_err-make-clause-others : goal.returns-in_err-make-clause-others
returns-in_err-make-clause-others c =
    λ other differ differs.
    ap (λ (names : UnsyncedNames). names other)
    (ap (λ (set : NameSet). names_in set.names.items) c.make.ensures.unsynced ∙ c.in_ok-add.ensures.ok)
    ∙ with_name-others (names_of c.args.self.now) c.args.to.now true other differs

pub returns-clause-unsynced : goal.returns-clause-unsynced
returns-clause-unsynced c =
    handed _ _ _ c.args.from.now c.args.to.now true c.requires.is
    (ap (λ (set : NameSet). names_in set.names.items) c.make.ensures.unsynced ∙ c.in_ok-add.ensures.ok) c.remove.ensures
    c.requires.differ

pub returns-clause-others : goal.returns-clause-others
returns-clause-others c =
    handed-others _ _ _ _ _ _
    (handed _ _ _ c.args.from.now c.args.to.now true c.requires.is
    (ap (λ (set : NameSet). names_in set.names.items) c.make.ensures.unsynced ∙ c.in_ok-add.ensures.ok) c.remove.ensures
    c.requires.differ)

pub invariant_of-self : goal.invariant_of-self
invariant_of-self c =
    let self = c.args.self.now in
    record {
      replayed = self.replayed;
      named = adds_none-added c.add.result (names_of self) (names_in c.add.new.self.names.items) (left_unsynced self)
          c.args.to.now c.add.ensures.ok c.add.ensures.err self.named;
    }

pub invariant_of-self-2 : goal.invariant_of-self-2
invariant_of-self-2 c =
    let self = c.args.self.now in
    let final : names_in c.remove.new.self.names.items ≡ with_handed (names_of self) c.args.from.now c.args.to.now =
    handed _ _ _ c.args.from.now c.args.to.now true c.requires.is
    (ap (λ (set : NameSet). names_in set.names.items) c.make.ensures.unsynced ∙ c.in_ok-add.ensures.ok) c.remove.ensures
    c.requires.differ in
    let left : left_unsynced c.make.new.self ≡ with_handed (left_unsynced self) c.args.from.now c.args.to.now =
    c.in_ok-make.ensures.left ∙ c.requires.hands (present_of self) (left_unsynced self)
    ∙ handed_where-some (present_of self) (left_unsynced self) c.args.from.now c.args.to.now c.requires.there in
    record {
      replayed = c.make.new.self.replayed;
      named = subst (λ (names : UnsyncedNames). AddsNone names (left_unsynced c.make.new.self)) (sym final)
          (subst (λ (names : UnsyncedNames).
          AddsNone (with_handed (names_of self) c.args.from.now c.args.to.now) names) (sym left)
          (adds_none-handed (names_of self) (left_unsynced self) c.args.from.now c.args.to.now self.named));
    }
