use Rattle.std.proofs.Common.{ℕ, List, subst}
use Rattle.std.proofs.lemmas.Result.{err_from_is_err_and}
use Rattle.file_blocks.specs.BlockSet.{AreFlagsOf}
use Rattle.byte_order.specs.Words.{in_order}
use Rattle.file_blocks.specs.Block.{bytes_of}
use Rattle.tree_meaning.specs.Compared.{HasEntriesOf, leading_ids, rooms}
use Rattle.tree_check.specs.Groups.{groups_of}
use Rattle.tree_check.proofs.FoundLemmas.{chained, data_refused, filled, list_defect, same_bytes}
use Rattle.free_chains.proofs.WalkLemmas.{walked}
use Rattle.tree_check.proofs.lists.check_lists.Goals as goal

pub returns-in_err-room-clause-refused : goal.returns-in_err-room-clause-refused
returns-in_err-room-clause-refused g c =
    let p = err_from_is_err_and c.from_residual-in_err-room.result c.from_residual-in_err-room.ensures.1 in
    let walk = c.in_ok-listed.ensures in
    let groups : List (List ℕ) = groups_of c.args.header.now.blocks c.args.by_block.now in
    let file : List ℕ = bytes_of ((g.S.Store.seen c.args.store.now).files c.args.name.now) in
    let there : List ℕ = bytes_of ((g.S.Store.seen c.walk_chain.new.store).files c.args.name.now) in
    rw (p.1, p.2) (data_refused (g.S.Store.seen c.args.store.now).faults (g.S.Store.seen c.walk_chain.new.store).faults
    (g.S.Store.seen c.check_data.new.store).faults
    g.S.Store.tells c.args.order c.args.header.now.format file there c.args.header.now.blocks
    c.args.header.now.first groups _
    walk.leaves.later (same_bytes _ _ c.args.name.now walk.leaves.files) c.in_err-room.ensures.refused)

pub returns-in_err-check_listed-clause-refused : goal.returns-in_err-check_listed-clause-refused
returns-in_err-check_listed-clause-refused g c =
    let p =
    err_from_is_err_and c.from_residual-in_err-check_listed.result c.from_residual-in_err-check_listed.ensures.1 in
    let walk = c.in_ok-listed.ensures in
    let blocks = c.args.header.now.blocks in
    let groups : List (List ℕ) = groups_of c.args.header.now.blocks c.args.by_block.now in
    let same = same_bytes ((g.S.Store.seen c.args.store.now).files) _ c.args.name.now walk.leaves.files in
    rw (p.1, p.2) (
      c.in_err-check_listed.ensures.names_id,
      λ told are numbers same_blocks same_first.
          let room = subst
          (λ (f : List ℕ).
          AreFlagsOf blocks c.in_ok-room.room.flags.items
          (rooms c.args.header.now.format (in_order c.args.order f) groups blocks)) same
          (c.in_ok-room.ensures.room told) in
          let linked = walk.links told in
          list_defect c.args.order c.args.header.now.format _ numbers blocks c.args.header.now.first groups
          c.in_ok-listed.listed.links.items _ same_blocks same_first are
          (walked _ blocks c.args.header.now.first c.in_ok-listed.listed.links.items linked walk.walk.marked.distinct
          walk.walk.inside) linked
          (c.in_err-check_listed.ensures.refused _ walk.walk room),
    )

pub returns-clause-chained : goal.returns-clause-chained
returns-clause-chained g c = λ told are.
    let walk = c.in_ok-listed.ensures in
    let blocks = c.args.header.now.blocks in
    let groups : List (List ℕ) = groups_of c.args.header.now.blocks c.args.by_block.now in
    let same = same_bytes ((g.S.Store.seen c.args.store.now).files) _ c.args.name.now walk.leaves.files in
    let room = subst
    (λ (f : List ℕ). AreFlagsOf blocks c.in_ok-room.room.flags.items
    (rooms c.args.header.now.format (in_order c.args.order f) groups blocks))
    same
    (c.in_ok-room.ensures.room told) in
    let linked = walk.links told in
    chained c.args.header.now.format _ blocks c.args.header.now.first groups c.in_ok-listed.listed.links.items are
    (walked _ blocks c.args.header.now.first c.in_ok-listed.listed.links.items linked walk.walk.marked.distinct
    walk.walk.inside) linked
    (c.in_ok-check_listed.ensures.listed _ walk.walk room)

pub returns-clause-filled : goal.returns-clause-filled
returns-clause-filled g c = λ told are not_empty.
    let walk = c.in_ok-listed.ensures in
    let blocks = c.args.header.now.blocks in
    let groups : List (List ℕ) = groups_of c.args.header.now.blocks c.args.by_block.now in
    let same = same_bytes ((g.S.Store.seen c.args.store.now).files) _ c.args.name.now walk.leaves.files in
    filled c.args.order c.args.header.now.format _ blocks groups are
    (λ block low.
    subst (λ (f : List ℕ). HasEntriesOf c.args.order c.args.header.now.format f block (leading_ids groups block)) same
    (c.in_ok-room.ensures.entries told block low))
    not_empty
