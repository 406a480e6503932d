use Rattle.std.proofs.Common.{inr, refl}
use Rattle.outside.specs.World.{KeepsOthers, with_bytes}
use Rattle.outside.proofs.WorldLemmas.{KeepsOthers-with_file}
use Rattle.journal_store.specs.JournalStore.{told_of}
use Rattle.journal_store.proofs.SeenLemmas.{by_result, changes_one-seen, keeps-either}
use Rattle.journal_store.proofs.journal_store.JournalStoreStore.write.Goals as goal

pub returns-clause-leaves : goal.returns-clause-leaves
returns-clause-leaves g c =
    let old = (told_of c.args.self.now.journal) in
    let new = told_of c.write-done.new.self in
    let others = KeepsOthers-with_file old.files c.args.name.now _ in
    changes_one-seen g.D.Disk.tells c.args.name.now old new _ _ _ _ _ _
    (λ told.
    by_result c.write-done.result (KeepsOthers c.args.name.now old.files new.files) c.write-done.ensures.ok
    c.write-done.ensures.fault
    (λ ok. keeps-either old.files new.files (with_bytes old.files c.args.name.now c.args.at c.args.bytes.now)
    c.args.name.now others (inr (ok told)))
    (λ fault. keeps-either old.files new.files (with_bytes old.files c.args.name.now c.args.at c.args.bytes.now)
    c.args.name.now others (fault told)))
    c.write-done.ensures.names c.count_fault.ensures.later refl

pub returns-clause-commits : goal.returns-clause-commits
returns-clause-commits g c told =
    (c.write-done.ensures.moments told).commits
