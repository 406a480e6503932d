use Rattle.std.proofs.Common.{◌≡◌, ℕ, suc, ◌+◌, ◌-◌, ◌*◌, ◌<◌, ◌≤◌, ◌++◌, ◌∷◌, [], List, true, length, get_or, sym, ap}
use Rattle.std.proofs.Common.{subst, ◌∙◌, arith}
use Rattle.quota_pages.specs.Page.{is_buffered}
use Rattle.quota_pages.specs.Pages.{pages_of}
use Rattle.quota_pages.specs.Used.{LendsSome, missing}
use Rattle.quota_pages.proofs.UsedLemmas.{lends_then, missing-there, shown_over-lends}
use Rattle.quota_radix.proofs.LinkWayLemmas.{stretch}
use Rattle.quota_radix.proofs.AlongLemmas.{digit_there}
use Rattle.quota_radix.proofs.LinkWordLemmas.{leads_more, stretch_more}
use Rattle.quota_radix.proofs.linking.set_refs.Goals as goal

pub loop-place-preserved : goal.loop-place-preserved
loop-place-preserved g c =
    let S = g.S.Store in
    let kept = c.loop-place.invariant in
    let set = c.in_ok-set_word.ensures in
    let way : List ℕ = c.args.way.now in
    let first : ℕ = c.args.first in
    let place : ℕ = c.loop-place.place in
    let block : ℕ = get_or way place 0 in
    let few : place < 4 = omega arith in
    let from : first ≤ place = omega arith in
    let five : length way ≡ 5 = omega arith in
    let there : is_buffered (pages_of c.loop-place.pages) block ≡ true =
    kept.lends.stay block (c.requires.buffered place from few) in
    let none : 0 + missing (pages_of c.loop-place.pages) block ≡ 0 =
    omega (arith, missing-there (pages_of c.loop-place.pages) block there) in
    let next : place + 1 ≡ suc place = omega arith in
    record {
      store = (set.buffered there).1 ∙ kept.store;
      lends =
          subst (λ (numbers : List ℕ). LendsSome S.tells true 0 numbers (S.seen c.args.store.now)
          (S.seen c.set_word.new.store) c.args.pages.now c.set_word.new.self)
          (sym (stretch_more way first place from (omega (arith, few, five))))
          (subst (λ (count : ℕ). LendsSome S.tells true count (stretch way first (place - first) ++ block ∷ [])
          (S.seen c.args.store.now) (S.seen c.set_word.new.store) c.args.pages.now c.set_word.new.self)
          none (lends_then kept.lends set.lends));
      words = λ known distinct.
          leads_more (record {
            five = five;
            from = from;
            few = few;
            distinct = distinct;
            kept = shown_over-lends kept.lends;
            so_far = kept.words known distinct;
            at_is =
                ap (λ (n : ℕ). 4 * n)
                (c.from.ensures ∙ ap (λ (ds : List ℕ). get_or ds place 0) c.digits-digits.ensures.digits
                ∙ digit_there c.args.id place few);
            value_is = ap (λ (k : ℕ). get_or way k 0) next;
            set = set.set (kept.lends.known known);
            keeps = shown_over-lends set.lends;
          });
      commits = g.S.Store.commits_on [] [] _ _ _ c.loop-place.invariant.commits set.commits;
    }

pub returns-clause-lends : goal.returns-clause-lends
returns-clause-lends g c =
    let S = g.S.Store in
    let all : c.loop-place.place ≡ 4 = omega arith in
    subst (λ (end : ℕ). LendsSome S.tells true 0 (stretch c.args.way.now c.args.first (end - c.args.first))
    (S.seen c.args.store.now) (S.seen c.loop-place.store) c.args.pages.now c.loop-place.pages)
    all c.loop-place.invariant.lends
