use Rattle.std.proofs.Common.{◌≡◌, ◌-◌, length, []}
use Rattle.quota_radix.specs.Unlink.{lowest_blocks}
use Rattle.quota_radix.proofs.UnlinkStepLemmas.{IsClearedFrom}
use Rattle.quota_radix.proofs.unlinking.clear_refs.Given as goal

abbrev pub invariant-loop-count : goal.invariant-loop-count
invariant-loop-count g l =
    let S = g.S.Store in
    record {
      store : l.store ≡ l.fn.store;
      long : length l.emptied.items ≡ l.count;
      items : l.emptied.items ≡ lowest_blocks l.way l.count;
      cleared : IsClearedFrom (4 - l.count) l.count (lowest_blocks l.way l.count) l.way l.id S.tells (S.seen l.fn.store)
          (S.seen l.store) l.fn.pages l.pages;
      commits : S.commits [] l.fn.store l.store;
    }
