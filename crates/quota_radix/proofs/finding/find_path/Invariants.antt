use Rattle.std.proofs.Common.{true, ◌≡◌, ◌+◌, ◌≤◌, length, get_or, take, []}
use Rattle.quota_pages.specs.Pages.{HoldsAsBuffered, pages_of}
use Rattle.quota_pages.specs.Used.{IsKnown, LooksAtSome, missing_among, shown_over}
use Rattle.quota_radix.specs.Link.{AreBuffered}
use Rattle.quota_radix.proofs.AlongLemmas.{IsAlong}
use Rattle.quota_radix.proofs.WayRoomLemmas.{first_on_way}
use Rattle.quota_radix.proofs.finding.find_path.Given as goal

abbrev pub invariant-loop-digit : goal.invariant-loop-digit
invariant-loop-digit g l =
    let S = g.S.Store in
    record {
      buffered : AreBuffered (pages_of l.pages) (take l.digit-index l.found.items);
      last : get_or l.found.items l.digit-index 0 ≡ l.block;
      root : get_or l.found.items 0 0 ≡ 1;
      within : l.digit-index ≤ 4;
      count : length l.found.items ≡ l.digit-index + 1;
      along : IsKnown S.tells (S.seen l.fn.store) l.fn.pages
          → IsAlong (shown_over (S.seen l.fn.store) l.fn.pages) l.blocks l.id l.digit-index l.block l.found.items;
      held : HoldsAsBuffered l.pages (λ shown. IsAlong shown l.blocks l.id l.digit-index l.block l.found.items);
      few : IsKnown S.tells (S.seen l.fn.store) l.fn.pages
          → length (pages_of l.pages)
          ≤ length (pages_of l.fn.pages)
          + missing_among (pages_of l.fn.pages)
          (first_on_way (shown_over (S.seen l.fn.store) l.fn.pages) l.blocks l.id l.digit-index);
      looked : LooksAtSome S.tells true l.digit-index (S.seen l.fn.store) (S.seen l.store) l.fn.pages l.pages;
      commits : S.commits [] l.fn.store l.store;
    }
