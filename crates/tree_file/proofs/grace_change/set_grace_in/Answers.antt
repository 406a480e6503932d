use Rattle.std.proofs.Common.{List, ℕ, subst, inl}
use Rattle.file_blocks.specs.Block.{bytes_of}
use Rattle.outside.specs.World.{World}
use Rattle.opened_file.specs.QuotaFile.{ChangesBlocks}
use Rattle.quota_pages.specs.Pages.{name_of}
use Rattle.tree_file.proofs.TornLemmas.{edits_flushed, few_same}
use Rattle.tree_file.proofs.GraceChangeLemmas.{err_then, grace_left, graces_flushed, known_empty, ok_then}
use Rattle.opened_file.proofs.EditsOneLemmas.{edits_one-read}
use Rattle.opened_file.proofs.CommittedLemmas.{once_behind}
use Rattle.tree_file.proofs.grace_change.set_grace_in.Goals as goal

pub returns-in-Ok-clause-graced : goal.returns-in-Ok-clause-graced
returns-in-Ok-clause-graced g c =
    let S = g.S.Store in
    let lent = c.in-Ok.ensures in
    ok_then c.finish.result
    (λ flushed told. graces_flushed c.args.grace (S.seen c.args.store.now) (S.seen c.lend_periods.new.store)
    c.args.pages.now c.lend_periods.new.pages c.requires.empty lent.lends.name lent.lends.leaves.files lent.marked
    (lent.set (known_empty S.tells (S.seen c.args.store.now) c.args.pages.now c.requires.empty told))
    (S.seen c.finish.new.store).files (flushed told))
    c.finish.ensures.flushed

pub returns-in-Ok-clause-torn : goal.returns-in-Ok-clause-torn
returns-in-Ok-clause-torn g c =
    let S = g.S.Store in
    let lent = c.in-Ok.ensures in
    err_then c.finish.result
    (λ torn told. grace_left c.args.grace (S.seen c.args.store.now) (S.seen c.lend_periods.new.store) c.args.pages.now
    c.lend_periods.new.pages c.requires.empty lent.lends.name lent.lends.leaves.files lent.marked
    (lent.set (known_empty S.tells (S.seen c.args.store.now) c.args.pages.now c.requires.empty told))
    (S.seen c.finish.new.store).files (torn told))
    c.finish.ensures.torn

pub returns-in-Ok-clause-few : goal.returns-in-Ok-clause-few
returns-in-Ok-clause-few g c = λ told.
    let S = g.S.Store in
    let lent = c.in-Ok.ensures.lends in
    let new : World = (S.seen c.finish.new.store).files in
    subst (λ (files : World). ChangesBlocks 12 (bytes_of (files (name_of c.args.pages.now)))
    (bytes_of (new (name_of c.args.pages.now)))) lent.leaves.files
    (subst (λ (n : List ℕ). ChangesBlocks 12 (bytes_of ((S.seen c.lend_periods.new.store).files n)) (bytes_of (new n)))
    lent.name (c.finish.ensures.few told))

pub returns-in-Err-clause-few : goal.returns-in-Err-clause-few
returns-in-Err-clause-few g c =
    λ told. few_same (name_of c.args.pages.now) (g.S.Store.seen c.args.store.now).files
    (g.S.Store.seen c.lend_periods.new.store).files c.in-Err.ensures.kept.leaves.files

pub returns-in-Ok-clause-leaves : goal.returns-in-Ok-clause-leaves
returns-in-Ok-clause-leaves g c =
    let S = g.S.Store in
    let lends = c.in-Ok.ensures.lends in
    edits_flushed (name_of c.args.pages.now) (name_of c.lend_periods.new.pages) (S.seen c.args.store.now)
    (S.seen c.lend_periods.new.store) (S.seen c.finish.new.store) lends.name lends.leaves c.finish.ensures.leaves
    c.finish.ensures.written

pub returns-in-Err-clause-leaves : goal.returns-in-Err-clause-leaves
returns-in-Err-clause-leaves g c =
    edits_one-read (name_of c.args.pages.now) (g.S.Store.seen c.args.store.now)
    (g.S.Store.seen c.lend_periods.new.store) c.in-Err.ensures.kept.leaves

pub returns-in-Ok-clause-commits : goal.returns-in-Ok-clause-commits
returns-in-Ok-clause-commits g c =
    let S = g.S.Store in
    let lent = c.in-Ok.ensures in
    once_behind S.commits S.commits_on _ _ _ _ _ _ c.lend_periods.ensures.commits c.finish.ensures.commits
    (λ flushed told. graces_flushed c.args.grace (S.seen c.args.store.now) (S.seen c.lend_periods.new.store)
    c.args.pages.now c.lend_periods.new.pages c.requires.empty lent.lends.name lent.lends.leaves.files lent.marked
    (lent.set (known_empty S.tells (S.seen c.args.store.now) c.args.pages.now c.requires.empty told))
    (S.seen c.finish.new.store).files (flushed told))

pub returns-in-Err-clause-commits : goal.returns-in-Err-clause-commits
returns-in-Err-clause-commits g c =
    inl c.lend_periods.ensures.commits
