use Rattle.std.proofs.Common.{[], ◌∷◌, refl, sym, subst}
use Rattle.outside.specs.World.{World}
use Rattle.journal_store.specs.Calls.{SyncsFile}
use Rattle.journal_store.specs.Commits.{Commits}
use Rattle.journal_store.specs.JournalStore.{told_of}
use Rattle.journal_store.proofs.KindLemmas.{replacement-is_new}
use Rattle.journal_store.proofs.SeenLemmas.{as_told, counted-rose, only_reads-seen}
use Rattle.journal_store.proofs.journal_store.JournalStoreStore.sync.Goals as goal

pub returns-clause-leaves : goal.returns-clause-leaves
returns-clause-leaves g c =
    only_reads-seen g.D.Disk.tells c.sync-done.result c.args.name.now (told_of c.args.self.now.journal)
    (told_of c.sync-done.new.self) _ _ _ _ _ _ c.sync-done.ensures.leaves
    c.count_fault.ensures.later refl (counted-rose c.sync-done.result _ _ c.count_fault.ensures.err)

pub returns-clause-moments : goal.returns-clause-moments
returns-clause-moments g c told =
    as_told g.D.Disk.tells (told_of c.args.self.now.journal) 0 0 0
    (λ names files. SyncsFile c.args.name.now files (g.D.Disk.seen c.args.self.now.journal.disk)
    (g.D.Disk.seen c.sync-done.new.self.disk) c.sync-done.result) told (c.sync-done.ensures.moments told)

pub returns-clause-commits : goal.returns-clause-commits
returns-clause-commits g c told =
    as_told g.D.Disk.tells (told_of c.sync-done.new.self) 0 0 0
    (λ names files.
    Commits (files ∷ []) (g.D.Disk.seen c.args.self.now.journal.disk) (g.D.Disk.seen c.sync-done.new.self.disk)) told
    (subst (λ (w : World). Commits (w ∷ []) (g.D.Disk.seen c.args.self.now.journal.disk)
    (g.D.Disk.seen c.sync-done.new.self.disk)) (sym (c.sync-done.ensures.leaves told).files)
    (c.sync-done.ensures.moments told).commits)

pub returns-clause-beside : goal.returns-clause-beside
returns-clause-beside g c base is told =
    (c.sync-done.ensures.moments told).beside (replacement-is_new c.args.name.now base is)
