use Rattle.std.proofs.Common.{refl}
use Rattle.journal_store.specs.JournalStore.{told_of}
use Rattle.journal_store.proofs.SeenLemmas.{counted-rose, only_reads-seen}
use Rattle.journal_store.proofs.journal_store.JournalStoreStore.size.Goals as goal

pub returns-clause-leaves : goal.returns-clause-leaves
returns-clause-leaves g c =
    only_reads-seen g.D.Disk.tells c.size-done.result c.args.name.now (told_of c.args.self.now.journal)
    (told_of c.size-done.new.self) _ _ _ _ _ _ c.size-done.ensures.leaves
    c.count_fault.ensures.later refl (counted-rose c.size-done.result _ _ c.count_fault.ensures.err)

pub returns-clause-commits : goal.returns-clause-commits
returns-clause-commits g c told =
    (c.size-done.ensures.moments told).commits
