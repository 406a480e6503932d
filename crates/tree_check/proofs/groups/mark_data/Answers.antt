use Rattle.std.proofs.Common.{◌≡◌, ◌<◌, ℕ, List, [], ◌∷◌, ◌++◌, refl, sym, subst, append-nil, arith}
use Rattle.file_blocks.specs.BlockSet.{AreFlagsOf}
use Rattle.file_blocks.specs.declared.block_set.BlockSet.{BlockSet}
use Rattle.tree_check.specs.Groups.{named_blocks}
use Rattle.tree_check.proofs.ByBlockLemmas.{all_left, count_here}
use Rattle.tree_check.proofs.GroupLemmas.{marked_no, marked_yes, named_twice, none_of, some_of}
use Rattle.tree_check.proofs.groups.mark_data.Goals as goal
use Rattle.tree_check.proofs.groups.mark_data.Goals.{else-not-is_empty-via-then-not-is_empty+else-not-insert}
use Rattle.tree_check.proofs.groups.mark_data.Goals.{else-not-is_empty-via-else-not-is_empty}

pub loop-block-init : goal.loop-block-init
loop-block-init c = record {
  left = all_left c.args.leaves.now c.requires;
  marked = λ led numbers groups are.
      subst (λ (ns : List ℕ). AreFlagsOf c.args.blocks c.args.met.now.flags.items ns) (sym (append-nil numbers)) are;
}

pub returns-then-not-insert-clause-refused : goal.returns-then-not-insert-clause-refused
returns-then-not-insert-clause-refused c = rw c.damage_at.ensures (
    λ led numbers groups are.
    let inside : c.loop-block.block < c.args.blocks = c.loop-block-test.true in
    let count = count_here c.args.blocks led c.args.leaves.now c.part.result.0.now c.loop-block.block groups inside
    (c.part.ensures.here _ c.loop-block.invariant.left) in
    let some = some_of _ c.if-not-is_empty.ensures in
    record {
      kind = refl;
      twice = named_twice c.args.blocks c.loop-block.block led numbers inside (omega (arith, some, count))
          (c.if-not-insert.ensures.added c.args.blocks _ (c.loop-block.invariant.marked led numbers groups are) inside);
      no_id = refl;
    }
    )

pub loop-block-preserved : goal.loop-block-preserved
loop-block-preserved c = record {
  left = c.part.ensures.behind _ c.loop-block.invariant.left;
  marked = λ led numbers groups are.
      let inside : c.loop-block.block < c.args.blocks = c.loop-block-test.true in
      let count = count_here c.args.blocks led c.args.leaves.now c.part.result.0.now c.loop-block.block groups inside
      (c.part.ensures.here _ c.loop-block.invariant.left) in
      let before = c.loop-block.invariant.marked led numbers groups are in
      elim c.else-not-is_empty.branch [
        | else-not-is_empty-via-then-not-is_empty+else-not-insert w ↦
            let some = some_of _ w.if-not-is_empty.ensures in
            marked_yes c.args.blocks c.loop-block.block _ led numbers (omega (arith, some, count))
            (subst (λ (met : BlockSet). AreFlagsOf c.args.blocks met.flags.items
            ((numbers ++ named_blocks c.loop-block.block led) ++ c.loop-block.block ∷ [])) (sym w.met-is)
            (w.if-not-insert.ensures.added c.args.blocks _ before inside).0)
        | else-not-is_empty-via-else-not-is_empty w ↦
            let none = none_of _ w.if-not-is_empty.ensures in
            marked_no c.args.blocks c.loop-block.block _ led numbers (omega (arith, none, count))
            (subst (λ (met : BlockSet). AreFlagsOf c.args.blocks met.flags.items
            (numbers ++ named_blocks c.loop-block.block led)) (sym w.met-is) before)
      ];
}

pub returns-clause-marked : goal.returns-clause-marked
returns-clause-marked c = λ led numbers groups are.
    let all : c.loop-block.block ≡ c.args.blocks = omega arith in
    subst (λ (count : ℕ). AreFlagsOf c.args.blocks c.loop-block.met.flags.items (numbers ++ named_blocks count led)) all
    (c.loop-block.invariant.marked led numbers groups are)
