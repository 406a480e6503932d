use Rattle.std.proofs.Common.{◌≡◌, true, false, inr, inl}
use Rattle.std.specs.Prelude.{is_none}
use Rattle.std.specs.FinMap.{get}
use Rattle.std.proofs.lemmas.Result.{err_from_is_err_and}
use Rattle.opened_file.specs.FileChange.{Remove}
use Rattle.tree_file.specs.InPlace.{MayChange}
use Rattle.tree_file.proofs.ChangedLemmas.{removed_may}
use Rattle.tree_file.proofs.FlushedLemmas.{damaged_shown, left_so, of_named, written}
use Rattle.tree_file.proofs.GraceChangeLemmas.{known_empty}
use Rattle.opened_file.proofs.EditsOneLemmas.{edits_one-read}
use Rattle.quota_pages.specs.Pages.{name_of}
use Rattle.tree_file.proofs.TornLemmas.{edits_flushed}
use Rattle.opened_file.proofs.CommittedLemmas.{once_behind}
use Rattle.tree_file.proofs.in_place.remove_in.Goals as goal

pub returns-in_ok-finish-in-Ok-Some-clause-done : goal.returns-in_ok-finish-in-Ok-Some-clause-done
returns-in_ok-finish-in-Ok-Some-clause-done g c = λ told.
    let S = g.S.Store in
    let removed = c.in-Ok-Some.ensures in
    let known = known_empty S.tells (S.seen c.args.store.now) c.args.pages.now c.requires.empty told in
    written S.tells true 12 (S.seen c.args.store.now) (S.seen c.remove_record.new.store) c.args.pages.now
    c.remove_record.new.pages c.requires.empty removed.uses
    (MayChange c.args.header.now.blocks (Remove c.args.id) c.args.header.now c.in-Ok-Some.heads)
    (removed_may c.args.header.now c.args.id _ _ c.in-Ok-Some.heads
    ((rw c.in-Ok-Some.field-0-is at removed.shown) known) ((rw c.in-Ok-Some.field-0-is at removed.found) known))
    (S.seen c.finish.new.store).files (c.in_ok-finish-in-Ok-Some.ensures.flushed told)

pub returns-in_err-finish-in-Ok-Some-clause-ended : goal.returns-in_err-finish-in-Ok-Some-clause-ended
returns-in_err-finish-in-Ok-Some-clause-ended g c =
    let S = g.S.Store in
    let removed = c.in-Ok-Some.ensures in
    let p = err_from_is_err_and c.from_residual.result c.from_residual.ensures.1 in
    rw p.1 (inr (
      p.2,
      λ told.
          let known = known_empty S.tells (S.seen c.args.store.now) c.args.pages.now c.requires.empty told in
          left_so S.tells true 12 (S.seen c.args.store.now) (S.seen c.remove_record.new.store) c.args.pages.now
          c.remove_record.new.pages c.requires.empty removed.uses
          (MayChange c.args.header.now.blocks (Remove c.args.id) c.args.header.now) c.in-Ok-Some.heads
          (removed_may c.args.header.now c.args.id _ _ c.in-Ok-Some.heads
          ((rw c.in-Ok-Some.field-0-is at removed.shown) known) ((rw c.in-Ok-Some.field-0-is at removed.found) known))
          (S.seen c.finish.new.store).files (c.in_err-finish-in-Ok-Some.ensures.torn told),
    ))

pub returns-in_ok-finish-in-Ok-Some-clause-found : goal.returns-in_ok-finish-in-Ok-Some-clause-found
returns-in_ok-finish-in-Ok-Some-clause-found g c =
    of_named g.S.Store.tells (g.S.Store.seen c.args.store.now) c.args.pages.now c.requires.empty c.args.header.now
    (λ file value. is_none (get value.records c.args.id) ≡ false)
    (rw c.in-Ok-Some.field-0-is at c.in-Ok-Some.ensures.found)

pub returns-in-Ok-None-clause-found : goal.returns-in-Ok-None-clause-found
returns-in-Ok-None-clause-found g c =
    of_named g.S.Store.tells (g.S.Store.seen c.args.store.now) c.args.pages.now c.requires.empty c.args.header.now
    (λ file value. is_none (get value.records c.args.id) ≡ true)
    (rw c.in-Ok-None.field-0-is at c.in-Ok-None.ensures.found)

pub returns-in-Err-clause-refused : goal.returns-in-Err-clause-refused
returns-in-Err-clause-refused g c =
    let S = g.S.Store in
    damaged_shown S.tells (S.seen c.args.store.now) c.args.pages.now c.requires.empty c.args.header.now
    (S.seen c.remove_record.new.store).faults c.in-Err.fault c.in-Err.ensures.refused

pub returns-in_ok-finish-in-Ok-Some-clause-leaves : goal.returns-in_ok-finish-in-Ok-Some-clause-leaves
returns-in_ok-finish-in-Ok-Some-clause-leaves g c =
    let S = g.S.Store in
    let uses = c.in-Ok-Some.ensures.uses in
    edits_flushed (name_of c.args.pages.now) (name_of c.remove_record.new.pages) (S.seen c.args.store.now)
    (S.seen c.remove_record.new.store) (S.seen c.finish.new.store) uses.name uses.leaves c.finish.ensures.leaves
    c.finish.ensures.written

pub returns-in_err-finish-in-Ok-Some-clause-leaves : goal.returns-in_err-finish-in-Ok-Some-clause-leaves
returns-in_err-finish-in-Ok-Some-clause-leaves g c =
    let S = g.S.Store in
    let uses = c.in-Ok-Some.ensures.uses in
    edits_flushed (name_of c.args.pages.now) (name_of c.remove_record.new.pages) (S.seen c.args.store.now)
    (S.seen c.remove_record.new.store) (S.seen c.finish.new.store) uses.name uses.leaves c.finish.ensures.leaves
    c.finish.ensures.written

pub returns-in-Err-clause-leaves : goal.returns-in-Err-clause-leaves
returns-in-Err-clause-leaves g c =
    edits_one-read (name_of c.args.pages.now) (g.S.Store.seen c.args.store.now)
    (g.S.Store.seen c.remove_record.new.store) c.in-Err.ensures.uses.leaves

pub returns-in-Ok-None-clause-leaves : goal.returns-in-Ok-None-clause-leaves
returns-in-Ok-None-clause-leaves g c =
    edits_one-read (name_of c.args.pages.now) (g.S.Store.seen c.args.store.now)
    (g.S.Store.seen c.remove_record.new.store) c.in-Ok-None.ensures.uses.leaves

pub returns-in_ok-finish-in-Ok-Some-clause-commits : goal.returns-in_ok-finish-in-Ok-Some-clause-commits
returns-in_ok-finish-in-Ok-Some-clause-commits g c =
    let S = g.S.Store in
    let removed = c.in-Ok-Some.ensures in
    once_behind S.commits S.commits_on _ _ _ _ _ _ c.remove_record.ensures.commits c.finish.ensures.commits
    (λ flushed told.
    let known = known_empty S.tells (S.seen c.args.store.now) c.args.pages.now c.requires.empty told in (
      c.in-Ok-Some.heads,
      written S.tells true 12 (S.seen c.args.store.now) (S.seen c.remove_record.new.store) c.args.pages.now
          c.remove_record.new.pages c.requires.empty removed.uses
          (MayChange c.args.header.now.blocks (Remove c.args.id) c.args.header.now c.in-Ok-Some.heads)
          (removed_may c.args.header.now c.args.id _ _ c.in-Ok-Some.heads
          ((rw c.in-Ok-Some.field-0-is at removed.shown) known) ((rw c.in-Ok-Some.field-0-is at removed.found) known))
          (S.seen c.finish.new.store).files (flushed told),
    ))

pub returns-in_err-finish-in-Ok-Some-clause-commits : goal.returns-in_err-finish-in-Ok-Some-clause-commits
returns-in_err-finish-in-Ok-Some-clause-commits g c =
    let S = g.S.Store in
    let removed = c.in-Ok-Some.ensures in
    once_behind S.commits S.commits_on _ _ _ _ _ _ c.remove_record.ensures.commits c.finish.ensures.commits
    (λ flushed told.
    let known = known_empty S.tells (S.seen c.args.store.now) c.args.pages.now c.requires.empty told in (
      c.in-Ok-Some.heads,
      written S.tells true 12 (S.seen c.args.store.now) (S.seen c.remove_record.new.store) c.args.pages.now
          c.remove_record.new.pages c.requires.empty removed.uses
          (MayChange c.args.header.now.blocks (Remove c.args.id) c.args.header.now c.in-Ok-Some.heads)
          (removed_may c.args.header.now c.args.id _ _ c.in-Ok-Some.heads
          ((rw c.in-Ok-Some.field-0-is at removed.shown) known) ((rw c.in-Ok-Some.field-0-is at removed.found) known))
          (S.seen c.finish.new.store).files (flushed told),
    ))

pub returns-in-Ok-None-clause-commits : goal.returns-in-Ok-None-clause-commits
returns-in-Ok-None-clause-commits g c =
    inl c.remove_record.ensures.commits

pub returns-in-Err-clause-commits : goal.returns-in-Err-clause-commits
returns-in-Err-clause-commits g c =
    inl c.remove_record.ensures.commits
