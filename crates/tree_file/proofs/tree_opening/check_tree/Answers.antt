use Rattle.std.proofs.Common.{◌∙◌, ℕ, List, ap, sym, subst, arith}
use Rattle.std.proofs.lemmas.Result.{err_from_is_err_and}
use Rattle.outside.specs.World.{World}
use Rattle.file_blocks.specs.Block.{bytes_of}
use Rattle.tree_file.proofs.OpenLemmas.{Begins, are_seen, checked_refused, header_refused, value_seen}
use Rattle.tree_file.proofs.tree_opening.check_tree.Goals as goal

pub returns-in_err-first-clause-refused : goal.returns-in_err-first-clause-refused
returns-in_err-first-clause-refused g c =
    let p = err_from_is_err_and c.from_residual.result c.from_residual.ensures.1 in
    rw p.1 (rw p.2 (c.in_err-first.ensures.refused c.args.order c.args.kind c.args.format c.args.limit))

pub returns-in_err-header-clause-refused : goal.returns-in_err-header-clause-refused
returns-in_err-header-clause-refused g c =
    let p = err_from_is_err_and c.from_residual-in_err-header.result c.from_residual-in_err-header.ensures.1 in
    rw p.1 (rw p.2
    (header_refused c.args.order _ _ c.args.limit g.S.Store.tells _ c.args.kind c.args.format c.in_ok-first.first
    c.in_err-header.field-0.0 c.in_ok-first.ensures.there c.in_ok-first.ensures.bytes
    c.in_err-header.ensures.fits c.in_err-header.ensures.refused))

pub returns-in_err-check-clause-refused : goal.returns-in_err-check-clause-refused
returns-in_err-check-clause-refused g c =
    let p = err_from_is_err_and c.from_residual-in_err-check.result c.from_residual-in_err-check.ensures.1 in
    let begins : Begins c.args.order g.S.Store.tells ((g.S.Store.seen c.args.store.now).files c.args.name.now)
    c.args.kind c.args.format c.args.limit c.in_ok-first.first c.in_ok-header.header = record {
      there = c.in_ok-first.ensures.there;
      is = c.in_ok-first.ensures.bytes;
      are = c.in_ok-header.ensures.numbers;
      accepted = c.in_ok-header.ensures.accepted;
      of_kind = c.in_ok-header.ensures.kind;
      as_asked = c.in_ok-header.ensures.as_asked;
      few = c.in_ok-header.ensures.few;
    } in
    let same = ap (λ (files : World). files c.args.name.now) c.in_ok-first.ensures.leaves.files in
    rw p.1 (rw p.2
    (checked_refused c.args.order _ _ _ g.S.Store.tells _ _ c.args.kind c.args.format c.args.limit c.in_ok-first.first
    c.in_ok-header.header c.in_err-check.field-0.0
    c.in_ok-first.ensures.leaves.later same begins c.in_err-check.ensures.refused))

pub returns-clause-seen : goal.returns-clause-seen
returns-clause-seen g c = λ told.
    let begins : Begins c.args.order g.S.Store.tells ((g.S.Store.seen c.args.store.now).files c.args.name.now)
    c.args.kind c.args.format c.args.limit c.in_ok-first.first c.in_ok-header.header = record {
      there = c.in_ok-first.ensures.there;
      is = c.in_ok-first.ensures.bytes;
      are = c.in_ok-header.ensures.numbers;
      accepted = c.in_ok-header.ensures.accepted;
      of_kind = c.in_ok-header.ensures.kind;
      as_asked = c.in_ok-header.ensures.as_asked;
      few = c.in_ok-header.ensures.few;
    } in
    let same = ap (λ (files : World). files c.args.name.now) c.in_ok-first.ensures.leaves.files in
    value_seen c.args.order g.S.Store.tells _ _ c.args.kind c.args.format c.args.limit c.in_ok-first.first
    c.in_ok-header.header _ begins same told (c.in_ok-check.ensures.checked told)

pub returns-clause-numbers : goal.returns-clause-numbers
returns-clause-numbers g c = λ told.
    are_seen c.args.order c.in_ok-first.first (bytes_of ((g.S.Store.seen c.args.store.now).files c.args.name.now))
    c.in_ok-header.header (c.in_ok-first.ensures.bytes told) c.in_ok-header.ensures.numbers

pub returns-clause-reads : goal.returns-clause-reads
returns-clause-reads g c = λ told.
    let are = are_seen c.args.order c.in_ok-first.first
    (bytes_of ((g.S.Store.seen c.args.store.now).files c.args.name.now))
    c.in_ok-header.header (c.in_ok-first.ensures.bytes told)
    c.in_ok-header.ensures.numbers in
    omega (arith, are.blocks, c.in_ok-first.ensures.reads, c.in_ok-check.ensures.reads)

pub returns-in_err-check-clause-reads : goal.returns-in_err-check-clause-reads
returns-in_err-check-clause-reads g c = λ told.
    let are = are_seen c.args.order c.in_ok-first.first
    (bytes_of ((g.S.Store.seen c.args.store.now).files c.args.name.now))
    c.in_ok-header.header (c.in_ok-first.ensures.bytes told)
    c.in_ok-header.ensures.numbers in
    omega (arith, are.blocks, c.in_ok-first.ensures.reads, c.in_err-check.ensures.reads)
