use Rattle.std.proofs.Common.{◌≤◌, ℕ, refl, ap, ◌∙◌, true, sym, subst}
use Rattle.memory_objects.specs.declared.name_set.NameSet.{NameSet}
use Rattle.memory_objects.specs.NameSet.{names_in}
use Rattle.outside.proofs.FrameLemmas.{keeps_others-same}
use Rattle.outside.proofs.UnsyncedLemmas.{with_name-others_is}
use Rattle.disk.specs.DiskSeen.{ChangesNothing}
use Rattle.disk_in_memory.specs.Told.{told_of, told_with, left_unsynced, names_of, present_of}
use Rattle.disk_in_memory.proofs.ToldLemmas.{on_err_any, told_nothing}
use Rattle.disk_in_memory.specs.Unsynced.{unsynced_by}
use Rattle.outside.specs.Unsynced.{AddsNone, UnsyncedNames, with_name}
use Rattle.disk_in_memory.proofs.NamesLemmas.{adds_none-put, adds_none-added}
use Rattle.disk_in_memory.proofs.recorded.RecordedFiles.change.Goals as goal

pub returns-in_err-add-clause-err : goal.returns-in_err-add-clause-err
returns-in_err-add-clause-err c =
    let same : (failed later : ℕ) → failed ≤ later
    → ChangesNothing (told_of c.args.self.now failed)
    (told_with c.args.self.now (names_in c.add.new.self.names.items) later) =
    λ failed later less. told_nothing _ _ _ _ _ _ _ _ failed later refl refl refl less in
    on_err_any _ same

pub returns-in_err-add-clause-others : goal.returns-in_err-add-clause-others
returns-in_err-add-clause-others c = keeps_others-same c.args.name.now _ _ c.in_err-add.ensures.err

pub returns-in_err-make-clause-err : goal.returns-in_err-make-clause-err
returns-in_err-make-clause-err c =
    let same : (failed later : ℕ) → failed ≤ later
    → ChangesNothing (told_of c.args.self.now failed) (told_of c.make.new.self later) =
    λ failed later less. c.in_err-make.ensures.err _ _ failed later less in
    on_err_any _ same

pub returns-in_err-make-clause-others : goal.returns-in_err-make-clause-others
returns-in_err-make-clause-others c =
    with_name-others_is _ _ _ _
    (ap (λ (set : NameSet). names_in set.names.items) c.make.ensures.unsynced ∙ c.in_ok-add.ensures.ok)

pub returns-clause-others : goal.returns-clause-others
returns-clause-others c =
    with_name-others_is _ _ _ _
    (ap (λ (set : NameSet). names_in set.names.items) c.make.ensures.unsynced ∙ c.in_ok-add.ensures.ok)

pub make-requires : goal.make-requires
make-requires c =
    let self = c.args.self.now in
    subst (λ (names : UnsyncedNames). AddsNone names (unsynced_by c.args.call (present_of self) (left_unsynced self)))
    (sym c.in_ok-add.ensures.ok)
    (subst (λ (left : UnsyncedNames). AddsNone (with_name (names_of self) c.args.name.now true) left)
    (sym (c.requires (present_of self) (left_unsynced self)))
    (adds_none-put (names_of self) (left_unsynced self) c.args.name.now true self.named))

pub invariant_of-self : goal.invariant_of-self
invariant_of-self c =
    let self = c.args.self.now in
    record {
      replayed = self.replayed;
      named = adds_none-added c.add.result (names_of self) (names_in c.add.new.self.names.items) (left_unsynced self)
          c.args.name.now c.add.ensures.ok c.add.ensures.err self.named;
    }
