use Rattle.std.proofs.Common.{◌+◌, ◌-◌, ◌≤◌, vec_len, IsTrue, true, []}
use Rattle.outside.specs.Frame.{OnlyReads}
use Rattle.byte_order.specs.Words.{words_of}
use Rattle.free_chains.specs.Walk.{AreLinksTo, IsWalk}
use Rattle.free_chains.proofs.chain.walk_chain.Given as goal

abbrev pub decreases-loop-at : goal.decreases-loop-at
decreases-loop-at g l = l.blocks - vec_len l.walk.links

abbrev pub invariant-loop-at : goal.invariant-loop-at
invariant-loop-at g l =
    let S = g.S.Store in
    record {
      is_walk : IsWalk l.blocks l.walk;
      links : IsTrue S.tells
          → AreLinksTo (words_of l.order (S.seen l.fn.store).files l.name) l.head l.walk.links.items l.at;
      leaves : OnlyReads true l.name (S.seen l.fn.store) (S.seen l.store);
      reads : (S.seen l.store).reads ≤ (S.seen l.fn.store).reads + vec_len l.walk.links;
      commits : S.commits [] l.fn.store l.store;
    }
