use Rattle.std.proofs.Common.{◌≤◌, ℕ, false, ap, ◌∙◌, ◌≡◌, sym, subst}
use Rattle.disk.specs.DiskSeen.{ChangesNothing}
use Rattle.disk_in_memory.specs.Told.{told_of, left_unsynced, names_of, present_of}
use Rattle.disk_in_memory.proofs.ToldLemmas.{on_err_any}
use Rattle.memory_objects.specs.declared.name_set.NameSet.{NameSet}
use Rattle.memory_objects.specs.NameSet.{names_in}
use Rattle.outside.specs.Unsynced.{UnsyncedNames, with_name, AddsNone, with_handed}
use Rattle.outside.proofs.UnsyncedLemmas.{handed, handed-others}
use Rattle.disk_in_memory.proofs.NamesLemmas.{adds_none-handed, handed_where-some}
use Rattle.disk_in_memory.proofs.recorded.RecordedFiles.hand_synced.Goals as goal

pub returns-in_err-make-clause-err : goal.returns-in_err-make-clause-err
returns-in_err-make-clause-err c =
    let same : (failed later : ℕ) → failed ≤ later
    → ChangesNothing (told_of c.args.self.now failed) (told_of c.make.new.self later) =
    λ failed later less. c.in_err-make.ensures.err _ _ failed later less in
    on_err_any _ same

pub returns-clause-unsynced : goal.returns-clause-unsynced
returns-clause-unsynced c =
    handed _ _ _ c.args.from.now c.args.to.now false c.requires.is
    (c.remove.ensures
    ∙ ap (λ (set : NameSet). with_name (names_in set.names.items) c.args.to.now false) c.make.ensures.unsynced)
    c.remove-2.ensures c.requires.differ

pub returns-clause-others : goal.returns-clause-others
returns-clause-others c =
    handed-others _ _ _ _ _ _
    (handed _ _ _ c.args.from.now c.args.to.now false c.requires.is
    (c.remove.ensures
    ∙ ap (λ (set : NameSet). with_name (names_in set.names.items) c.args.to.now false) c.make.ensures.unsynced)
    c.remove-2.ensures c.requires.differ)

pub invariant_of-self : goal.invariant_of-self
invariant_of-self c =
    let self = c.args.self.now in
    let final : names_in c.remove-2.new.self.names.items ≡ with_handed (names_of self) c.args.from.now c.args.to.now =
    handed _ _ _ c.args.from.now c.args.to.now false c.requires.is
    (c.remove.ensures
    ∙ ap (λ (set : NameSet). with_name (names_in set.names.items) c.args.to.now false) c.make.ensures.unsynced)
    c.remove-2.ensures c.requires.differ in
    let left : left_unsynced c.make.new.self ≡ with_handed (left_unsynced self) c.args.from.now c.args.to.now =
    c.in_ok-make.ensures.left ∙ c.requires.hands (present_of self) (left_unsynced self)
    ∙ handed_where-some (present_of self) (left_unsynced self) c.args.from.now c.args.to.now c.requires.there in
    record {
      replayed = c.make.new.self.replayed;
      named = subst (λ (names : UnsyncedNames). AddsNone names (left_unsynced c.make.new.self)) (sym final)
          (subst (λ (names : UnsyncedNames).
          AddsNone (with_handed (names_of self) c.args.from.now c.args.to.now) names) (sym left)
          (adds_none-handed (names_of self) (left_unsynced self) c.args.from.now c.args.to.now self.named));
    }
