use Rattle.journal_store.specs.JournalStore.{disk_in}
use Rattle.run_steps.proofs.CommittedLemmas.{committed_within}
use Rattle.stop_laws.proofs.StopsLemmas.{leave_old_or}
use Rattle.stop_laws.proofs.run_over_a_journal.Goals as goal

pub returns : goal.returns
returns g c = λ told.
    committed_within _ _ _ _ _ _ _ _ _ _ _ _ _ (λ single. single) (λ well. well)
    (λ worlds those. leave_old_or worlds _ _ _
    (λ image. (g.met.D.Disk.present_is_now (disk_in c.args.store.now) image).0) (those told.store))
    (λ world to. to) (λ world may. may)
    (c.run.ensures.commits told)
