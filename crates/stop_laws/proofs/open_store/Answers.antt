use Rattle.std.proofs.Common.{[], sym, subst}
use Rattle.outside.specs.World.{World}
use Rattle.edit_journal.specs.UndoName.{undo_name}
use Rattle.journal_store.specs.JournalStore.{disk_seen}
use Rattle.journal_store.specs.Told.{told_files}
use Rattle.stop_laws.specs.Stops.{IsKept}
use Rattle.stop_laws.proofs.StopsLemmas.{synced_kept}
use Rattle.stop_laws.proofs.open_store.Goals as goal

pub returns : goal.returns
returns g c = λ told name plain synced undo.
    let D = g.D.Disk in
    let files : World = told_files (D.seen c.args.disk).files [] [] in
    let kept : IsKept files name (D.seen c.args.disk) =
    synced_kept (D.seen c.args.disk) name plain (g.met.D.Disk.synced_is_kept c.args.disk name told synced)
    (g.met.D.Disk.synced_is_kept c.args.disk (undo_name name) told undo) in
    subst (λ (w : World). IsKept w name (disk_seen c.new.result)) (sym (c.new.ensures.told told))
    (subst (λ d. IsKept files name (D.seen d)) (sym c.new.ensures.disk) kept)
