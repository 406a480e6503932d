use Rattle.std.proofs.Common.{◌≡◌, ℕ, ◌+◌, ◌<◌, cond, nat_le, List, [], length, Option, rules, ap, subst, arith}
use Rattle.std.proofs.lemmas.Result.{err_from_is_err_and}
use Rattle.outside.proofs.FrameLemmas.{only_reads-then}
use Rattle.file_blocks.specs.BlockSet.{AreFlagsOf}
use Rattle.byte_order.specs.Words.{in_order, words_of}
use Rattle.file_blocks.specs.Block.{bytes_of}
use Rattle.tree_meaning.specs.Compared.{leading_ids, rooms}
use Rattle.tree_check.specs.Groups.{groups_of}
use Rattle.tree_check.proofs.ByBlockLemmas.{all_left, led_here, led_refused, length_groups}
use Rattle.tree_check.proofs.DataLemmas.{entries_more, room_more}
use Rattle.tree_check.proofs.ReadLemmas.{led_first, led_more}
use Rattle.tree_check.proofs.data.check_data.Goals as goal

pub loop-block-init : goal.loop-block-init
loop-block-init g c = record {
  left = all_left c.args.leaves.now c.requires.by_block;
  entries = λ told block low. absurd (omega (arith, low));
  room = λ told. c.in_ok-room.ensures;
  leaves = search rules;
  reads = omega arith;
  commits = g.S.Store.commits_nothing [] _;
}

pub loop-block-preserved : goal.loop-block-preserved
loop-block-preserved g c =
    let kept = c.loop-block.invariant in
    let found = c.in_ok-check_group.ensures in
    let groups : List (List ℕ) = groups_of c.args.blocks c.args.leaves.now in
    let block : ℕ = c.loop-block.block in
    let inside : block < c.args.blocks = c.loop-block-test.true in
    let group : leading_ids groups block ≡ c.as_slice.result.now =
    led_here c.args.blocks c.args.leaves.now _ block _ _ inside (c.part.ensures.here _ kept.left)
    c.in_ok-list_numbers.ensures c.as_slice.ensures.value in
    let same : bytes_of ((g.S.Store.seen c.loop-block.store).files c.args.name.now)
    ≡ bytes_of ((g.S.Store.seen c.args.store.now).files c.args.name.now) =
    ap (λ (files : List ℕ → Option (List ℕ)). bytes_of (files c.args.name.now)) kept.leaves.files in
    record {
      left = c.part.ensures.behind _ kept.left;
      entries =
          λ told.
          entries_more c.args.order c.args.format _ _ groups block c.as_slice.result.now same group (kept.entries told)
          (found.entries told);
      room = λ told. room_more c.args.format _ _ groups block c.args.blocks c.as_slice.result.now _ _
          (ap (in_order c.args.order) same) group inside
          (kept.room told) (found.room told);
      leaves = only_reads-then _ _ _ _ kept.leaves found.leaves;
      reads = omega (
        arith,
        kept.reads,
        found.reads,
        led_more groups block [] (omega (arith, length_groups c.args.blocks c.args.leaves.now, inside)),
        ap {B = ℕ} (λ (ids : List ℕ). cond (nat_le 1 (length ids)) 1 0) group,
      );
      commits = g.S.Store.commits_on [] [] _ _ _ c.loop-block.invariant.commits found.commits;
    }

pub returns-clause-room : goal.returns-clause-room
returns-clause-room g c = λ told.
    let all : c.loop-block.block ≡ c.args.blocks = omega arith in
    subst (λ (n : ℕ). AreFlagsOf c.args.blocks c.loop-block.room.flags.items
    (rooms c.args.format (words_of c.args.order (g.S.Store.seen c.args.store.now).files c.args.name.now)
    (groups_of c.args.blocks c.args.leaves.now) n))
    all (c.loop-block.invariant.room told)

pub returns-in_err-check_group-clause-reads : goal.returns-in_err-check_group-clause-reads
returns-in_err-check_group-clause-reads g c =
    let groups : List (List ℕ) = groups_of c.args.blocks c.args.leaves.now in
    let block : ℕ = c.loop-block.block in
    let inside : block < c.args.blocks = c.loop-block-test.true in
    let group : leading_ids groups block ≡ c.as_slice.result.now =
    led_here c.args.blocks c.args.leaves.now _ block _ _ inside (c.part.ensures.here _ c.loop-block.invariant.left)
    c.in_ok-list_numbers.ensures c.as_slice.ensures.value in
    omega (
      arith,
      c.loop-block.invariant.reads,
      c.in_err-check_group.ensures.reads,
      led_more groups block [] (omega (arith, length_groups c.args.blocks c.args.leaves.now, inside)),
      led_first groups (block + 1),
      ap {B = ℕ} (λ (ids : List ℕ). cond (nat_le 1 (length ids)) 1 0) group,
    )

pub returns-in_err-check_group-clause-refused : goal.returns-in_err-check_group-clause-refused
returns-in_err-check_group-clause-refused g c =
    let p =
    err_from_is_err_and c.from_residual-in_err-check_group.result c.from_residual-in_err-check_group.ensures.1 in
    let kept = c.loop-block.invariant in
    let block : ℕ = c.loop-block.block in
    rw (p.1, p.2) (
    led_refused (g.S.Store.seen c.args.store.now).faults (g.S.Store.seen c.loop-block.store).faults
    (g.S.Store.seen c.check_group.new.store).faults g.S.Store.tells c.args.order c.args.format _ _
    (groups_of c.args.blocks c.args.leaves.now) block c.as_slice.result.now _ kept.leaves.later
    (ap (λ (files : List ℕ → Option (List ℕ)). bytes_of (files c.args.name.now)) kept.leaves.files)
    (led_here c.args.blocks c.args.leaves.now _ block _ _ c.loop-block-test.true (c.part.ensures.here _ kept.left)
    c.in_ok-list_numbers.ensures c.as_slice.ensures.value)
    c.in_err-check_group.ensures.refused
    )
