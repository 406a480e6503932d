use Rattle.std.proofs.Common.{Bool, false, zero, suc, ◌==◌, true≢false, ◌≡◌, ◌+◌, ◌≤◌, ◌++◌, ◌∙◌, min, length, ℕ, sym}
use Rattle.std.proofs.Common.{ap, arith}
use Rattle.tree_build.specs.NewFile.{leaves_in}
use Rattle.tree_build.proofs.DataAddedLemmas.{part_added}
use Rattle.tree_build.proofs.new_data.add_data.Goals as goal

some_left : (count : ℕ) (none : Bool) → none ≡ (count == 0) → none ≡ false → 1 ≤ count
some_left zero none is there = absurd (true≢false (sym is ∙ there))
some_left (suc count) none is there = omega arith

pub loop-rest-preserved : goal.loop-rest-preserved
loop-rest-preserved c =
    let so_far = c.loop-rest.invariant in
    record {
      count = so_far.count + 1;
      blocks = omega (arith, c.in_ok-block.ensures.blocks, so_far.blocks);
      parts =
          part_added c.args.list.now c.args.file.now.bytes.items (record {
            tree = c.requires.tree;
            long = omega arith;
            place = so_far.blocks;
            size = omega arith;
            grown = c.in_ok-block.ensures.bytes;
            some = some_left (length c.loop-rest.rest.now) c.is_empty.result c.is_empty.ensures c.loop-rest-test.true;
            now_is =
                c.min.ensures
                ∙ ap (λ (k : ℕ). min (length c.loop-rest.rest.now) k) c.entries_per_block-per_block.ensures;
            now_so = c.split_at.ensures.front;
            later_so = c.split_at.ensures.back;
            spelled = c.data_block.ensures;
            pushed =
                c.in_ok-add_leaves.ensures.leaves
                ∙ ap (λ (k : ℕ). c.loop-rest.leaves.items
                ++ leaves_in (record { block = k; entries = c.split_at.result.0.now })) c.in_ok-block.ensures.number;
          }) so_far.parts;
      below = c.in_ok-add_leaves.ensures.below so_far.below;
    }
