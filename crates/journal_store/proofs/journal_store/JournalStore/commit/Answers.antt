use Rattle.std.proofs.Common.{⊎_elim, length, refl, sym, ap, ◌∙◌, arith}
use Rattle.outside.specs.Count.{Rose}
use Rattle.edit_journal.proofs.RecoveryCallLemmas.{on_ok-then}
use Rattle.journal_store.specs.Calls.{CommitsFile}
use Rattle.journal_store.specs.JournalStore.{told_of}
use Rattle.journal_store.specs.Kinds.{kind_of}
use Rattle.journal_store.proofs.KindLemmas.{plain-barred}
use Rattle.journal_store.proofs.SeenLemmas.{as_told, counted-rose, only_reads-seen, unrefused}
use Rattle.journal_store.proofs.journal_store.JournalStore.commit.Goals as goal

pub returns-clause-leaves : goal.returns-clause-leaves
returns-clause-leaves g c =
    only_reads-seen g.D.Disk.tells c.sync-done.result c.args.name.now (told_of c.args.self.now.journal)
    (told_of c.sync-done.new.self) _ _ _ _ _ _ c.sync-done.ensures.leaves
    c.count_fault.ensures.later refl (counted-rose c.sync-done.result _ _ c.count_fault.ensures.err)

pub returns-clause-moments : goal.returns-clause-moments
returns-clause-moments g c told =
    as_told g.D.Disk.tells (told_of c.args.self.now.journal) 0 0 0
    (λ names files. CommitsFile c.args.name.now files (g.D.Disk.seen c.args.self.now.journal.disk)
    (g.D.Disk.seen c.sync-done.new.self.disk) c.sync-done.result) told
    ((c.sync-done.ensures.moments told).plain (ap kind_of (sym c.requires.0) ∙ c.args.self.now.journal.plain))

pub returns-clause-given : goal.returns-clause-given
returns-clause-given g c =
    on_ok-then c.sync-done.result c.sync-done.ensures.given (λ none pending. absurd (omega (
      arith,
      ap length (none (ap kind_of (sym c.requires.0) ∙ c.args.self.now.journal.plain)),
      pending.1,
    )))

pub returns-clause-only : goal.returns-clause-only
returns-clause-only g c =
    record {
      cause = unrefused
          (Rose (g.D.Disk.seen c.args.self.now.journal.disk).faults (g.D.Disk.seen c.sync-done.new.self.disk).faults)
          c.sync-done.result c.sync-done.ensures.refuses.only
          (λ refused. ⊎_elim
          (λ barred. plain-barred c.args.name.now (ap kind_of (sym c.requires.0) ∙ c.args.self.now.journal.plain)
          barred) (λ second. second.1.1 c.requires.0) refused);
      counted = c.sync-done.ensures.refuses.counted;
    }
