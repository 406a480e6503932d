use Rattle.std.proofs.Common.{[], ◌∷◌, ◌≡◌, false, refl, ap, ◌∙◌}
use Rattle.outside.specs.World.{KeepsOtherTwo, World, with_new_name}
use Rattle.outside.proofs.WorldLemmas.{with_new_name-others}
use Rattle.journal_store.specs.Calls.{ReplacesFile}
use Rattle.journal_store.specs.Commits.{Commits}
use Rattle.journal_store.specs.JournalStore.{told_of}
use Rattle.journal_store.proofs.SeenLemmas.{adds_none-seen, as_told, by_result, changes_two-seen}
use Rattle.journal_store.proofs.journal_store.JournalStoreStore.rename.Goals as goal

pub returns-clause-leaves : goal.returns-clause-leaves
returns-clause-leaves g c =
    let old = (told_of c.args.self.now.journal) in
    let new = told_of c.rename-done.new.self in
    changes_two-seen g.D.Disk.tells c.args.from.now c.args.to.now old new _ _ _ _ _ _
    (λ told.
    by_result c.rename-done.result (KeepsOtherTwo c.args.from.now c.args.to.now old.files new.files)
    c.rename-done.ensures.ok c.rename-done.ensures.fault
    (λ ok. λ other one_differs two_differs. ap (λ (f : World). f other) (ok told)
    ∙ with_new_name-others old.files c.args.from.now c.args.to.now other one_differs two_differs)
    (λ fault. λ other one_differs two_differs. ap (λ (f : World). f other) (fault told)))
    c.rename-done.ensures.names c.count_fault.ensures.later refl

pub returns-clause-absent : goal.returns-clause-absent
returns-clause-absent g c =
    adds_none-seen g.D.Disk.tells c.rename-done.result c.args.from.now (told_of c.args.self.now.journal)
    (told_of c.rename-done.new.self) c.rename-done.ensures.absent

pub returns-clause-commits : goal.returns-clause-commits
returns-clause-commits g c synced told =
    as_told g.D.Disk.tells (told_of c.args.self.now.journal) 0 0 0
    (λ names files. names c.args.from.now ≡ false
    → Commits (with_new_name files c.args.from.now c.args.to.now ∷ []) (g.D.Disk.seen c.args.self.now.journal.disk)
    (g.D.Disk.seen c.rename-done.new.self.disk)) told (c.rename-done.ensures.moments told).commits synced

pub returns-clause-moments : goal.returns-clause-moments
returns-clause-moments g c told =
    as_told g.D.Disk.tells (told_of c.args.self.now.journal) 0 0 0
    (λ names files. ReplacesFile c.args.from.now c.args.to.now names files (g.D.Disk.seen c.args.self.now.journal.disk)
    (g.D.Disk.seen c.rename-done.new.self.disk) c.rename-done.result) told (c.rename-done.ensures.moments told)
