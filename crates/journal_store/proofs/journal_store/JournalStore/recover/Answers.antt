use Rattle.std.proofs.Common.{refl}
use Rattle.journal_store.specs.JournalStore.{told_of}
use Rattle.journal_store.proofs.SeenLemmas.{counted-rose, only_reads-seen}
use Rattle.journal_store.proofs.journal_store.JournalStore.recover.Goals as goal

pub returns-clause-leaves : goal.returns-clause-leaves
returns-clause-leaves g c =
    only_reads-seen g.D.Disk.tells c.recover-done.result c.args.name.now (told_of c.args.self.now.journal)
    (told_of c.recover-done.new.self) _ _ _ _ _ _ c.recover-done.ensures.leaves
    c.count_fault.ensures.later refl (counted-rose c.recover-done.result _ _ c.count_fault.ensures.err)
