use Rattle.std.proofs.Common.{◌+◌, ◌≤◌, true, inr, arith, inl}
use Rattle.std.specs.Prelude.{IsSome}
use Rattle.std.specs.FinMap.{get}
use Rattle.std.proofs.lemmas.Result.{err_from_is_err_and}
use Rattle.opened_file.specs.FileChange.{Put}
use Rattle.tree_file.specs.InPlace.{MayChange}
use Rattle.tree_file.proofs.ChangedLemmas.{put_changes}
use Rattle.tree_file.proofs.FlushedLemmas.{left_so, of_named, refused_shown, written}
use Rattle.tree_file.proofs.GraceChangeLemmas.{known_empty}
use Rattle.opened_file.proofs.EditsOneLemmas.{edits_one-read}
use Rattle.quota_pages.specs.Pages.{name_of}
use Rattle.tree_file.proofs.TornLemmas.{edits_flushed}
use Rattle.opened_file.proofs.CommittedLemmas.{once_behind}
use Rattle.tree_file.proofs.in_place.put_in.Goals as goal

pub returns-in_ok-finish-in-Ok-clause-done : goal.returns-in_ok-finish-in-Ok-clause-done
returns-in_ok-finish-in-Ok-clause-done g c = λ told.
    let S = g.S.Store in
    let put = c.in-Ok.ensures in
    written S.tells true 12 (S.seen c.args.store.now) (S.seen c.put_record.new.store) c.args.pages.now
    c.put_record.new.pages c.requires.empty put.uses
    (MayChange c.args.limit (Put c.args.id c.args.rec.now) c.args.header.now c.in-Ok.heads)
    (λ of value stands.
    put_changes c.args.limit c.args.id c.args.rec.now value _ _ c.in-Ok.heads (omega arith) stands put.few.1
    (put.shown (known_empty S.tells (S.seen c.args.store.now) c.args.pages.now c.requires.empty told) of value stands))
    (S.seen c.finish.new.store).files (c.in_ok-finish-in-Ok.ensures.flushed told)

pub returns-in_ok-finish-in-Ok-clause-known : goal.returns-in_ok-finish-in-Ok-clause-known
returns-in_ok-finish-in-Ok-clause-known g c =
    let S = g.S.Store in
    of_named S.tells (S.seen c.args.store.now) c.args.pages.now c.requires.empty c.args.header.now
    (λ file value.
    IsSome (get value.records c.args.id) → (S.seen c.finish.new.store).writes ≤ (S.seen c.args.store.now).writes + 1)
    (λ known of value stands there. omega (
      arith,
      c.in-Ok.ensures.known known of value stands there,
      c.in_ok-finish-in-Ok.ensures.writes,
      c.in-Ok.ensures.uses.leaves.writes,
    ))

pub returns-in_err-finish-in-Ok-clause-ended : goal.returns-in_err-finish-in-Ok-clause-ended
returns-in_err-finish-in-Ok-clause-ended g c =
    let S = g.S.Store in
    let put = c.in-Ok.ensures in
    let p = err_from_is_err_and c.from_residual.result c.from_residual.ensures.1 in
    rw p.1 (inr (
      p.2,
      λ told.
          left_so S.tells true 12 (S.seen c.args.store.now) (S.seen c.put_record.new.store) c.args.pages.now
          c.put_record.new.pages c.requires.empty put.uses
          (MayChange c.args.limit (Put c.args.id c.args.rec.now) c.args.header.now) c.in-Ok.heads
          (λ of value stands.
          put_changes c.args.limit c.args.id c.args.rec.now value _ _ c.in-Ok.heads (omega arith) stands put.few.1
          (put.shown (known_empty S.tells (S.seen c.args.store.now) c.args.pages.now c.requires.empty told)
          of value stands))
          (S.seen c.finish.new.store).files (c.in_err-finish-in-Ok.ensures.torn told),
    ))

pub returns-in-Err-clause-refused : goal.returns-in-Err-clause-refused
returns-in-Err-clause-refused g c =
    let S = g.S.Store in
    refused_shown S.tells (S.seen c.args.store.now) c.args.pages.now c.requires.empty c.args.header.now
    (S.seen c.put_record.new.store).faults c.args.limit c.args.id c.in-Err.fault c.in-Err.ensures.refused

pub returns-in_ok-finish-in-Ok-clause-leaves : goal.returns-in_ok-finish-in-Ok-clause-leaves
returns-in_ok-finish-in-Ok-clause-leaves g c =
    let S = g.S.Store in
    let uses = c.in-Ok.ensures.uses in
    edits_flushed (name_of c.args.pages.now) (name_of c.put_record.new.pages) (S.seen c.args.store.now)
    (S.seen c.put_record.new.store) (S.seen c.finish.new.store) uses.name uses.leaves c.finish.ensures.leaves
    c.finish.ensures.written

pub returns-in_err-finish-in-Ok-clause-leaves : goal.returns-in_err-finish-in-Ok-clause-leaves
returns-in_err-finish-in-Ok-clause-leaves g c =
    let S = g.S.Store in
    let uses = c.in-Ok.ensures.uses in
    edits_flushed (name_of c.args.pages.now) (name_of c.put_record.new.pages) (S.seen c.args.store.now)
    (S.seen c.put_record.new.store) (S.seen c.finish.new.store) uses.name uses.leaves c.finish.ensures.leaves
    c.finish.ensures.written

pub returns-in-Err-clause-leaves : goal.returns-in-Err-clause-leaves
returns-in-Err-clause-leaves g c =
    edits_one-read (name_of c.args.pages.now) (g.S.Store.seen c.args.store.now) (g.S.Store.seen c.put_record.new.store)
    c.in-Err.ensures.uses.leaves

pub returns-in_ok-finish-in-Ok-clause-commits : goal.returns-in_ok-finish-in-Ok-clause-commits
returns-in_ok-finish-in-Ok-clause-commits g c =
    let S = g.S.Store in
    let put = c.in-Ok.ensures in
    once_behind S.commits S.commits_on _ _ _ _ _ _ c.put_record.ensures.commits c.finish.ensures.commits
    (λ flushed told. (
      c.in-Ok.heads,
      written S.tells true 12 (S.seen c.args.store.now) (S.seen c.put_record.new.store) c.args.pages.now
          c.put_record.new.pages c.requires.empty put.uses
          (MayChange c.args.limit (Put c.args.id c.args.rec.now) c.args.header.now c.in-Ok.heads)
          (λ of value stands.
          put_changes c.args.limit c.args.id c.args.rec.now value _ _ c.in-Ok.heads (omega arith) stands put.few.1
          (put.shown (known_empty S.tells (S.seen c.args.store.now) c.args.pages.now c.requires.empty told)
          of value stands))
          (S.seen c.finish.new.store).files (flushed told),
    ))

pub returns-in_err-finish-in-Ok-clause-commits : goal.returns-in_err-finish-in-Ok-clause-commits
returns-in_err-finish-in-Ok-clause-commits g c =
    let S = g.S.Store in
    let put = c.in-Ok.ensures in
    once_behind S.commits S.commits_on _ _ _ _ _ _ c.put_record.ensures.commits c.finish.ensures.commits
    (λ flushed told. (
      c.in-Ok.heads,
      written S.tells true 12 (S.seen c.args.store.now) (S.seen c.put_record.new.store) c.args.pages.now
          c.put_record.new.pages c.requires.empty put.uses
          (MayChange c.args.limit (Put c.args.id c.args.rec.now) c.args.header.now c.in-Ok.heads)
          (λ of value stands.
          put_changes c.args.limit c.args.id c.args.rec.now value _ _ c.in-Ok.heads (omega arith) stands put.few.1
          (put.shown (known_empty S.tells (S.seen c.args.store.now) c.args.pages.now c.requires.empty told)
          of value stands))
          (S.seen c.finish.new.store).files (flushed told),
    ))

pub returns-in-Err-clause-commits : goal.returns-in-Err-clause-commits
returns-in-Err-clause-commits g c =
    inl c.put_record.ensures.commits
