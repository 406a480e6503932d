use Rattle.std.proofs.Common.{true, ◌≡◌, ◌≤◌, length, take, []}
use Rattle.quota_pages.specs.Pages.{pages_of}
use Rattle.quota_pages.specs.Used.{LooksAtSome, missing_among}
use Rattle.quota_radix.specs.Link.{AreBuffered}
use Rattle.quota_radix.proofs.linking.bring_in.Given as goal

abbrev pub invariant-loop-number : goal.invariant-loop-number
invariant-loop-number g l =
    let S = g.S.Store in
    record {
      looked : LooksAtSome S.tells true (missing_among (pages_of l.fn.pages) (take l.number-index l.numbers))
          (S.seen l.fn.store) (S.seen l.store) l.fn.pages l.pages;
      brought : AreBuffered (pages_of l.pages) (take l.number-index l.numbers);
      buffered : AreBuffered (pages_of l.fn.pages) l.numbers → l.store ≡ l.fn.store;
      few : AreBuffered (pages_of l.fn.pages) l.numbers → length (pages_of l.pages) ≤ length (pages_of l.fn.pages);
      commits : S.commits [] l.fn.store l.store;
    }
