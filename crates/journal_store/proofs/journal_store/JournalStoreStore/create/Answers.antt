use Rattle.std.proofs.Common.{inr, [], Some, refl}
use Rattle.outside.specs.World.{KeepsOthers, with_file}
use Rattle.outside.proofs.WorldLemmas.{KeepsOthers-with_file}
use Rattle.journal_store.specs.JournalStore.{told_of}
use Rattle.journal_store.proofs.KindLemmas.{replacement-is_new}
use Rattle.journal_store.proofs.SeenLemmas.{by_result, changes_one-seen, keeps-either}
use Rattle.journal_store.proofs.journal_store.JournalStoreStore.create.Goals as goal

pub returns-clause-leaves : goal.returns-clause-leaves
returns-clause-leaves g c =
    let old = (told_of c.args.self.now.journal) in
    let new = told_of c.create-done.new.self in
    let others = KeepsOthers-with_file old.files c.args.name.now (Some []) in
    changes_one-seen g.D.Disk.tells c.args.name.now old new _ _ _ _ _ _
    (λ told.
    by_result c.create-done.result (KeepsOthers c.args.name.now old.files new.files) c.create-done.ensures.ok
    c.create-done.ensures.fault
    (λ ok. keeps-either old.files new.files (with_file old.files c.args.name.now (Some [])) c.args.name.now others
    (inr (ok told)))
    (λ fault. keeps-either old.files new.files (with_file old.files c.args.name.now (Some [])) c.args.name.now
    others (fault told)))
    c.create-done.ensures.names c.count_fault.ensures.later refl

pub returns-clause-commits : goal.returns-clause-commits
returns-clause-commits g c base is told =
    (c.create-done.ensures.moments told).commits (replacement-is_new c.args.name.now base is)
