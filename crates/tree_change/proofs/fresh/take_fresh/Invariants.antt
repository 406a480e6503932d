use Rattle.std.proofs.Common.{◌≡◌, ◌≢◌, ◌≤◌, max, true, length, []}
use Rattle.std.specs.Prelude.{⊤}
use Rattle.quota_types.specs.Times.{times}
use Rattle.quota_pages.specs.Pages.{pages_of}
use Rattle.quota_pages.specs.Used.{IsKnown, UsesPages, shown_over}
use Rattle.quota_radix.specs.Link.{AreBuffered}
use Rattle.tree_change.specs.Fresh.{TakesFresh}
use Rattle.tree_change.specs.Putting.{TakesWithin}
use Rattle.tree_change.proofs.fresh.take_fresh.Given as goal

abbrev pub invariant-loop : goal.invariant-loop
invariant-loop g l =
    let S = g.S.Store in
    record {
      long : length l.fresh.items ≡ l.counter;
      most : l.now.blocks ≤ max l.fn.heads.blocks l.fn.limit;
      takes : TakesWithin l.fn.limit ⊤ l.fn.heads l.now l.fn.pages l.pages;
      beside : l.fn.heads.blocks ≢ 0 → times l.fresh.items 0 ≡ 0;
      first : l.now.first ≡ l.fn.heads.first;
      same : l.heads ≡ l.fn.heads;
      brought : AreBuffered (pages_of l.pages) l.fresh.items;
      uses : UsesPages S.tells true l.counter (S.seen l.fn.store) (S.seen l.store) l.fn.pages l.pages;
      taken : IsKnown S.tells (S.seen l.fn.store) l.fn.pages
          → TakesFresh l.fresh.items (shown_over (S.seen l.fn.store) l.fn.pages) (shown_over (S.seen l.store) l.pages)
          l.fn.heads l.now;
      commits : S.commits [] l.fn.store l.store;
    }
