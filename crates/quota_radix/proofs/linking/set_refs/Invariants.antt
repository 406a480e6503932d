use Rattle.std.proofs.Common.{true, ◌≡◌, ℕ, suc, ◌-◌, ◌*◌, ◌<◌, ◌≤◌, get_or, []}
use Rattle.quota_pages.specs.Used.{HasWord, IsKnown, LendsSome, shown_over}
use Rattle.quota_radix.specs.Link.{AreDistinct}
use Rattle.quota_radix.specs.Way.{digit_on_way}
use Rattle.quota_radix.proofs.LinkWayLemmas.{stretch}
use Rattle.quota_radix.proofs.linking.set_refs.Given as goal

abbrev pub invariant-loop-place : goal.invariant-loop-place
invariant-loop-place g l =
    let S = g.S.Store in
    record {
      store : l.store ≡ l.fn.store;
      lends : LendsSome S.tells true 0 (stretch l.way l.first (l.place - l.first)) (S.seen l.fn.store) (S.seen l.store)
          l.fn.pages l.pages;
      words : IsKnown S.tells (S.seen l.fn.store) l.fn.pages → AreDistinct (stretch l.way l.first (4 - l.first))
          → (digits : ℕ) → l.first ≤ digits → digits < l.place
          → HasWord (get_or l.way digits 0) (4 * digit_on_way l.id digits) (get_or l.way (suc digits) 0)
          (shown_over (S.seen l.fn.store) l.fn.pages) (shown_over (S.seen l.store) l.pages);
      commits : S.commits [] l.fn.store l.store;
    }
