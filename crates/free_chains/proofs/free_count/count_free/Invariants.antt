use Rattle.std.proofs.Common.{◌≡◌, ◌+◌, ◌≤◌, true, length, []}
use Rattle.quota_pages.specs.Pages.{HoldsAsBuffered, pages_of}
use Rattle.quota_pages.specs.Used.{IsKnown, LooksAtSome, missing_among, shown_over}
use Rattle.free_chains.proofs.FreeCountLemmas.{IsBegun}
use Rattle.free_chains.proofs.free_count.count_free.Given as goal

abbrev pub invariant-loop-count : goal.invariant-loop-count
invariant-loop-count g l =
    let S = g.S.Store in
    record {
      long : length l.met.items ≡ l.count;
      few : length (pages_of l.pages) ≤ length (pages_of l.fn.pages) + missing_among (pages_of l.fn.pages) l.met.items;
      looked : LooksAtSome S.tells true l.count (S.seen l.fn.store) (S.seen l.store) l.fn.pages l.pages;
      begun : IsKnown S.tells (S.seen l.fn.store) l.fn.pages
          → IsBegun (shown_over (S.seen l.fn.store) l.fn.pages) l.heads.blocks l.heads.free l.met.items l.at;
      held : HoldsAsBuffered l.pages (λ shown. IsBegun shown l.heads.blocks l.heads.free l.met.items l.at);
      commits : S.commits [] l.fn.store l.store;
    }
