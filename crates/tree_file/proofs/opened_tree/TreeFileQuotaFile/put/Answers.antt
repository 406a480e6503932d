use Rattle.std.proofs.Common.{Ok, refl, ap, arith}
use Rattle.opened_file.specs.FileChange.{Put}
use Rattle.quota_pages.specs.Pages.{name_of}
use Rattle.tree_file.specs.Opened.{with_heads}
use Rattle.tree_file.specs.TreeCalls.{tree_at}
use Rattle.tree_file.proofs.ChangedLemmas.{put_keeps}
use Rattle.tree_file.proofs.InPlaceLemmas.{changed_as, changes_ended, changes_made, stands_so}
use Rattle.tree_file.proofs.PutLemmas.{put_few, put_lacks}
use Rattle.opened_file.proofs.CommittedLemmas.{once_then}
use Rattle.tree_file.proofs.opened_tree.TreeFileQuotaFile.put.Goals as goal

pub returns-in-Ok-clause-changes : goal.returns-in-Ok-clause-changes
returns-in-Ok-clause-changes g c =
    let S = g.S.Store in
    let was = c.args.self.now in
    let done = c.in-Ok.ensures in
    let now = c.has_changed.new.self in
    changed_as S.tells (Put c.args.id c.args.rec)
    (tree_at S.tells (name_of was.pages) was.opened was.header was.coming was.limit (S.seen c.args.store.now))
    (name_of c.put_in.new.pages) (name_of now.pages) was.opened now.opened (with_heads was.header c.in-Ok.heads)
    now.header now.coming was.limit now.limit (S.seen c.put_in.new.store) (Ok tt)
    (ap name_of c.has_changed.ensures.pages) c.has_changed.ensures.opened c.has_changed.ensures.header
    c.has_changed.ensures.limit
    (changes_made S.tells (Put c.args.id c.args.rec) was.limit (name_of was.pages) (S.seen c.args.store.now) was.opened
    was.header was.coming (put_keeps c.args.id c.args.rec)
    c.in-Ok.heads (S.seen c.put_in.new.store) (name_of c.put_in.new.pages) c.has_changed.new.self.coming tt done.name
    c.has_changed.ensures.coming done.done
    (λ value holds. put_few c.args.id S.tells (name_of was.pages) (S.seen c.args.store.now) (S.seen c.put_in.new.store)
    was.header was.coming was.limit done.known done.writes value holds)
    done.synced done.leaves (record { reads = done.reads; writes = done.writes }))

pub returns-in-Err-clause-changes : goal.returns-in-Err-clause-changes
returns-in-Err-clause-changes g c =
    let S = g.S.Store in
    let was = c.args.self.now in
    let failed = c.in-Err.ensures in
    rw c.refused.ensures.same (rw c.file_fault.ensures
    (changes_ended S.tells (Put c.args.id c.args.rec) was.limit (name_of was.pages) (S.seen c.args.store.now) was.opened
    was.header was.coming (put_keeps c.args.id c.args.rec)
    (S.seen c.put_in.new.store) (name_of c.put_in.new.pages) c.refused.new.self _ c.in-Err.fault
    failed.name failed.refused
    (λ blocks most full. put_lacks c.args.id c.args.rec S.tells was.limit (name_of was.pages) (S.seen c.args.store.now)
    was.opened was.header was.coming blocks most (omega arith) full)
    (λ blocks most full value holds. refl)
    failed.ended (λ n. rw c.file_fault.ensures at (c.refused.ensures.counted n was.header.format was.limit))
    failed.leaves (record { reads = failed.reads; writes = failed.writes })))

pub returns-in-Ok-clause-commits : goal.returns-in-Ok-clause-commits
returns-in-Ok-clause-commits g c =
    let S = g.S.Store in
    let was = c.args.self.now in
    once_then S.commits _ _ _ _ _ c.put_in.ensures.commits
    (λ made value holds. stands_so S.tells (Put c.args.id c.args.rec) was.limit (name_of was.pages)
    (S.seen c.args.store.now) was.opened was.header was.coming (put_keeps c.args.id c.args.rec)
    (made holds.told).0 (S.seen c.put_in.new.store).files (λ told. (made holds.told).1) value holds)

pub returns-in-Err-clause-commits : goal.returns-in-Err-clause-commits
returns-in-Err-clause-commits g c =
    let S = g.S.Store in
    let was = c.args.self.now in
    once_then S.commits _ _ _ _ _ c.put_in.ensures.commits
    (λ made value holds. stands_so S.tells (Put c.args.id c.args.rec) was.limit (name_of was.pages)
    (S.seen c.args.store.now) was.opened was.header was.coming (put_keeps c.args.id c.args.rec)
    (made holds.told).0 (S.seen c.put_in.new.store).files (λ told. (made holds.told).1) value holds)
