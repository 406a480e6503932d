use Rattle.std.proofs.Common.{Ok, ap}
use Rattle.opened_file.specs.FileChange.{Remove}
use Rattle.quota_pages.specs.Pages.{name_of}
use Rattle.tree_file.specs.Opened.{with_heads}
use Rattle.tree_file.specs.TreeCalls.{tree_at}
use Rattle.tree_file.proofs.ChangedLemmas.{remove_keeps}
use Rattle.tree_file.proofs.InPlaceLemmas.{changed_as, changes_ended, changes_made, stands_so}
use Rattle.tree_file.proofs.RemoveLemmas.{changes_absent, ended_within, never_full, written_within}
use Rattle.opened_file.proofs.CommittedLemmas.{once_then}
use Rattle.tree_file.proofs.opened_tree.TreeFileQuotaFile.remove.Goals as goal

pub returns-in-Ok-Some-clause-changes : goal.returns-in-Ok-Some-clause-changes
returns-in-Ok-Some-clause-changes g c =
    let S = g.S.Store in
    let was = c.args.self.now in
    let done = c.in-Ok-Some.ensures in
    let now = c.has_changed.new.self in
    changed_as S.tells (Remove c.args.id)
    (tree_at S.tells (name_of was.pages) was.opened was.header was.coming was.limit (S.seen c.args.store.now))
    (name_of c.remove_in.new.pages) (name_of now.pages) was.opened now.opened (with_heads was.header c.in-Ok-Some.heads)
    now.header now.coming was.limit now.limit (S.seen c.remove_in.new.store) (Ok tt)
    (ap name_of c.has_changed.ensures.pages) c.has_changed.ensures.opened
    (rw c.in-Ok-Some.field-0-is at c.has_changed.ensures.header) c.has_changed.ensures.limit
    (changes_made S.tells (Remove c.args.id) was.limit (name_of was.pages) (S.seen c.args.store.now) was.opened
    was.header was.coming (remove_keeps c.args.id)
    c.in-Ok-Some.heads (S.seen c.remove_in.new.store) (name_of c.remove_in.new.pages) c.has_changed.new.self.coming tt
    done.name c.has_changed.ensures.coming
    (λ told. written_within c.args.id was.limit was.header c.in-Ok-Some.heads _ _ _ was.few
    ((rw c.in-Ok-Some.field-0-is at done.done) told)) (λ value holds. done.writes) done.synced done.leaves
    (record { reads = done.reads; writes = done.writes }))

pub returns-in-Ok-None-clause-changes : goal.returns-in-Ok-None-clause-changes
returns-in-Ok-None-clause-changes g c =
    let S = g.S.Store in
    let was = c.args.self.now in
    let done = c.in-Ok-None.ensures in
    changes_absent c.args.id S.tells (name_of was.pages) (name_of c.remove_in.new.pages) (S.seen c.args.store.now)
    (S.seen c.remove_in.new.store) was.opened was.header was.coming was.limit
    done.name (rw c.in-Ok-None.field-0-is at done.found) (done.absent c.in-Ok-None.field-0-is) done.reads tt

pub returns-in-Err-clause-changes : goal.returns-in-Err-clause-changes
returns-in-Err-clause-changes g c =
    let S = g.S.Store in
    let was = c.args.self.now in
    let failed = c.in-Err.ensures in
    rw c.refused.ensures.same (rw c.file_fault.ensures
    (changes_ended S.tells (Remove c.args.id) was.limit (name_of was.pages) (S.seen c.args.store.now) was.opened
    was.header was.coming (remove_keeps c.args.id)
    (S.seen c.remove_in.new.store) (name_of c.remove_in.new.pages) c.refused.new.self _ c.in-Err.fault
    failed.name failed.refused
    (λ blocks most full. absurd full) (λ blocks most full. absurd full)
    (ended_within c.args.id was.limit was.header S.tells (name_of was.pages) (S.seen c.args.store.now)
    (S.seen c.remove_in.new.store) c.in-Err.fault was.few failed.ended)
    (λ n. rw c.file_fault.ensures at (c.refused.ensures.counted n was.header.format was.limit)) failed.leaves
    (record { reads = failed.reads; writes = failed.writes })))

pub returns-in-Err-clause-never_full : goal.returns-in-Err-clause-never_full
returns-in-Err-clause-never_full g c =
    rw c.refused.ensures.same (rw c.file_fault.ensures (never_full _ _ _ c.in-Err.fault c.in-Err.ensures.refused))

pub returns-in-Ok-Some-clause-commits : goal.returns-in-Ok-Some-clause-commits
returns-in-Ok-Some-clause-commits g c =
    let S = g.S.Store in
    let was = c.args.self.now in
    once_then S.commits _ _ _ _ _ c.remove_in.ensures.commits
    (λ made value holds. stands_so S.tells (Remove c.args.id) was.limit (name_of was.pages) (S.seen c.args.store.now)
    was.opened was.header was.coming (remove_keeps c.args.id)
    (made holds.told).0 (S.seen c.remove_in.new.store).files
    (λ told. written_within c.args.id was.limit was.header (made holds.told).0 _ _ _ was.few (made holds.told).1)
    value holds)

pub returns-in-Ok-None-clause-commits : goal.returns-in-Ok-None-clause-commits
returns-in-Ok-None-clause-commits g c =
    let S = g.S.Store in
    let was = c.args.self.now in
    once_then S.commits _ _ _ _ _ c.remove_in.ensures.commits
    (λ made value holds. stands_so S.tells (Remove c.args.id) was.limit (name_of was.pages) (S.seen c.args.store.now)
    was.opened was.header was.coming (remove_keeps c.args.id)
    (made holds.told).0 (S.seen c.remove_in.new.store).files
    (λ told. written_within c.args.id was.limit was.header (made holds.told).0 _ _ _ was.few (made holds.told).1)
    value holds)

pub returns-in-Err-clause-commits : goal.returns-in-Err-clause-commits
returns-in-Err-clause-commits g c =
    let S = g.S.Store in
    let was = c.args.self.now in
    once_then S.commits _ _ _ _ _ c.remove_in.ensures.commits
    (λ made value holds. stands_so S.tells (Remove c.args.id) was.limit (name_of was.pages) (S.seen c.args.store.now)
    was.opened was.header was.coming (remove_keeps c.args.id)
    (made holds.told).0 (S.seen c.remove_in.new.store).files
    (λ told. written_within c.args.id was.limit was.header (made holds.told).0 _ _ _ was.few (made holds.told).1)
    value holds)
