use Rattle.std.proofs.Common.{◌≡◌, true, drop, reverse, take, []}
use Rattle.quota_pages.specs.Used.{IsKnown, LendsSome, UsesPages, shown_over}
use Rattle.tree_change.proofs.GivenLemmas.{GivesBut}
use Rattle.tree_change.proofs.unlinking.give_all.Given as goal

abbrev pub invariant-loop-block : goal.invariant-loop-block
invariant-loop-block g l =
    let S = g.S.Store in
    record {
      same : l.heads ≡ l.fn.heads;
      blocks : l.now.blocks ≡ l.fn.heads.blocks;
      first : l.now.first ≡ l.fn.heads.first;
      lends : LendsSome S.tells true 0 l.given (S.seen l.fn.store) (S.seen l.store) l.fn.pages l.pages;
      uses : UsesPages S.tells true 0 (S.seen l.fn.store) (S.seen l.store) l.fn.pages l.pages;
      gives : IsKnown S.tells (S.seen l.fn.store) l.fn.pages
          → GivesBut l.given (drop l.block-index l.given) (reverse (take l.block-index l.given))
          (shown_over (S.seen l.fn.store) l.fn.pages) (shown_over (S.seen l.store) l.pages) l.fn.heads l.now;
      commits : S.commits [] l.fn.store l.store;
    }
