use Rattle.std.proofs.Common.{◌≡◌, ℕ, ◌+◌, ◌*◌, ◌≤◌, IsTrue, take, true, []}
use Rattle.std.specs.Prelude.{All}
use Rattle.std.specs.List.{flat_map}
use Rattle.outside.specs.Frame.{OnlyReads}
use Rattle.quota_radix.specs.declared.tree_path.TreePath.{TreePath}
use Rattle.byte_order.specs.Words.{words_of}
use Rattle.quota_radix.specs.Levels.{AreWithin, IsWhole}
use Rattle.quota_radix.specs.Tree.{steps}
use Rattle.quota_radix.proofs.levels.next_level.Given as goal

abbrev pub invariant-loop-path : goal.invariant-loop-path
invariant-loop-path g l =
    let S = g.S.Store in
    record {
      next : IsTrue S.tells
          → l.next.items
          ≡ flat_map (steps (words_of l.order (S.seen l.fn.store).files l.name) l.blocks) (take l.path-index l.level);
      whole : IsTrue S.tells
          → All (λ (path : TreePath). IsWhole (words_of l.order (S.seen l.fn.store).files l.name) l.blocks path.block)
          (take l.path-index l.level);
      within : (bound : ℕ) → AreWithin l.blocks bound l.level → AreWithin l.blocks (256 * bound) l.next.items;
      leaves : OnlyReads true l.name (S.seen l.fn.store) (S.seen l.store);
      reads : (S.seen l.store).reads ≤ (S.seen l.fn.store).reads + l.path-index;
      commits : S.commits [] l.fn.store l.store;
    }
