use Rattle.std.proofs.Common.{◌≡◌, ℕ, ◌-◌, ◌*◌, ◌<◌, ◌++◌, ◌∷◌, [], List, true, length, take, get_or, refl, sym, ap}
use Rattle.std.proofs.Common.{subst, ◌∙◌, arith}
use Rattle.std.proofs.lemmas.Bool.{false≢true}
use Rattle.quota_pages.specs.Page.{is_buffered}
use Rattle.quota_pages.specs.Pages.{pages_of}
use Rattle.quota_pages.specs.Used.{IsKnown, LendsSome, shown_over}
use Rattle.quota_pages.proofs.UsedLemmas.{missing-there, shown_over-looks}
use Rattle.quota_radix.specs.Link.{AreDistinct}
use Rattle.quota_radix.specs.TreeDefect.{IsEmpty}
use Rattle.quota_radix.specs.Unlink.{ClearsAlong, lowest_blocks}
use Rattle.quota_radix.proofs.AlongLemmas.{digit_there}
use Rattle.quota_radix.proofs.UnlinkStepLemmas.{IsClearedFrom, cleared_looks, cleared_more, cleared_next}
use Rattle.quota_radix.proofs.UnlinkWordLemmas.{lowest_more}
use Rattle.quota_radix.proofs.unlinking.clear_refs.Goals as goal

pub loop-count-preserved : goal.loop-count-preserved
loop-count-preserved g c =
    let S = g.S.Store in
    let kept = c.loop-count.invariant in
    let way : List ℕ = c.args.way.now in
    let count : ℕ = c.loop-count.count in
    let few : count < 3 = omega arith in
    let place : ℕ = 3 - count in
    let low : place < 4 = omega arith in
    let block : ℕ = get_or way place 0 in
    let there : is_buffered (pages_of c.loop-count.pages) block ≡ true =
    kept.cleared.lends.stay block (c.requires.buffered place low) in
    let set = c.in_ok-set_word.ensures in
    let seen = c.in_ok-is_without_refs.ensures in
    let at_is = ap (λ (n : ℕ). 4 * n)
    (c.from.ensures ∙ ap (λ (ds : List ℕ). get_or ds place 0) c.digits-digits.ensures.digits
    ∙ digit_there c.args.id place low) in
    let one : IsClearedFrom (3 - count) count (lowest_blocks way count ++ block ∷ []) way c.args.id S.tells
    (S.seen c.args.store.now) (S.seen c.set_word.new.store) c.args.pages.now c.set_word.new.self =
    cleared_more way c.args.id count (4 * c.from.result) _ c.requires.five (omega arith) kept.cleared at_is
    (missing-there (pages_of c.loop-count.pages) block there) set.set set.lends in
    record {
      store = seen.store ∙ (set.buffered there).1 ∙ kept.store;
      long = omega (arith, c.push.ensures.len, kept.long);
      items =
          c.push.ensures.items ∙ ap (λ (xs : List ℕ). xs ++ block ∷ []) kept.items ∙ sym (lowest_more way count few);
      cleared = cleared_next way c.args.id count few (cleared_looks one seen.looked)
          (λ known. subst (λ (file : List ℕ). IsEmpty file block) (sym (shown_over-looks seen.looked))
          ((seen.empty (one.lends.known known)).0 c.if-not-branch.false));
      commits = g.S.Store.commits_on [] [] _ _ _
          (g.S.Store.commits_on [] [] _ _ _ c.loop-count.invariant.commits set.commits) seen.commits;
    }

-- what is left has references
pub returns-then-not-branch : goal.returns-then-not-branch
returns-then-not-branch g c =
    let S = g.S.Store in
    let kept = c.loop-count.invariant in
    let way : List ℕ = c.args.way.now in
    let count : ℕ = c.loop-count.count in
    let few : count < 3 = omega arith in
    let place : ℕ = 3 - count in
    let low : place < 4 = omega arith in
    let block : ℕ = get_or way place 0 in
    let there : is_buffered (pages_of c.loop-count.pages) block ≡ true =
    kept.cleared.lends.stay block (c.requires.buffered place low) in
    let set = c.in_ok-set_word.ensures in
    let seen = c.in_ok-is_without_refs.ensures in
    let at_is = ap (λ (n : ℕ). 4 * n)
    (c.from.ensures ∙ ap (λ (ds : List ℕ). get_or ds place 0) c.digits-digits.ensures.digits
    ∙ digit_there c.args.id place low) in
    let one : IsClearedFrom (3 - count) count (lowest_blocks way count ++ block ∷ []) way c.args.id S.tells
    (S.seen c.args.store.now) (S.seen c.set_word.new.store) c.args.pages.now c.set_word.new.self =
    cleared_more way c.args.id count (4 * c.from.result) _ c.requires.five (omega arith) kept.cleared at_is
    (missing-there (pages_of c.loop-count.pages) block there) set.set set.lends in
    let all : IsClearedFrom (3 - count) count (lowest_blocks way count ++ block ∷ []) way c.args.id S.tells
    (S.seen c.args.store.now) (S.seen c.is_without_refs.new.store) c.args.pages.now c.is_without_refs.new.pages =
    cleared_looks one seen.looked in
    let is : count ≡ length c.loop-count.emptied.items = sym kept.long in
    record {
      done = refl;
      store = seen.store ∙ (set.buffered there).1 ∙ kept.store;
      answered = kept.items ∙ ap (lowest_blocks way) is;
      few = omega (arith, is);
      words = subst (λ (k : ℕ). IsKnown S.tells (S.seen c.args.store.now) c.args.pages.now → AreDistinct (take 4 way)
          → ClearsAlong way (3 - k) c.args.id (shown_over (S.seen c.args.store.now) c.args.pages.now)
          (shown_over (S.seen c.is_without_refs.new.store) c.is_without_refs.new.pages)) is all.words;
      empty = subst (λ (k : ℕ). IsKnown S.tells (S.seen c.args.store.now) c.args.pages.now → AreDistinct (take 4 way)
          → (place : ℕ) → 3 - k < place → place < 4
          → IsEmpty (shown_over (S.seen c.is_without_refs.new.store) c.is_without_refs.new.pages) (get_or way place 0))
          is all.empty;
      left =
          subst (λ (k : ℕ). IsKnown S.tells (S.seen c.args.store.now) c.args.pages.now → k < 3
          → ¬ IsEmpty (shown_over (S.seen c.is_without_refs.new.store) c.is_without_refs.new.pages)
          (get_or way (3 - k) 0)) is
          (λ known low empty. absurd (false≢true (sym c.if-not-branch.true
          ∙ (seen.empty (one.lends.known known)).1
          (subst (λ (file : List ℕ). IsEmpty file block) (shown_over-looks seen.looked) empty))));
      lends =
          subst (λ (numbers : List ℕ). LendsSome S.tells true 0 numbers (S.seen c.args.store.now)
          (S.seen c.is_without_refs.new.store) c.args.pages.now c.is_without_refs.new.pages)
          (ap (λ (xs : List ℕ). xs ++ block ∷ []) (sym kept.items)
          ∙ ap (λ (k : ℕ). c.loop-count.emptied.items ++ get_or way (3 - k) 0 ∷ []) is) all.lends;
      commits =
          g.S.Store.commits_on [] [] _ _ _ (g.S.Store.commits_on [] [] _ _ _ kept.commits set.commits) seen.commits;
    }

-- all three were emptied
pub returns : goal.returns
returns g c =
    let S = g.S.Store in
    let kept = c.loop-count.invariant in
    let way : List ℕ = c.args.way.now in
    let is : length c.loop-count.emptied.items ≡ 3 = omega (arith, kept.long) in
    let there : is_buffered (pages_of c.loop-count.pages) (get_or way 0 0) ≡ true =
    kept.cleared.lends.stay (get_or way 0 0) (c.requires.buffered 0 (omega arith)) in
    let count_is : c.loop-count.count ≡ 3 = omega arith in
    let so_far : IsClearedFrom 1 3 (lowest_blocks way 3) way c.args.id S.tells (S.seen c.args.store.now)
    (S.seen c.loop-count.store) c.args.pages.now c.loop-count.pages =
    subst (λ (k : ℕ). IsClearedFrom (4 - k) k (lowest_blocks way k) way c.args.id S.tells (S.seen c.args.store.now)
    (S.seen c.loop-count.store) c.args.pages.now c.loop-count.pages) count_is kept.cleared in
    let set = c.in_ok-set_word-2.ensures in
    let at_is = ap (λ (n : ℕ). 4 * n)
    (c.from-2.ensures ∙ ap (λ (ds : List ℕ). get_or ds 0 0) c.digits-digits.ensures.digits
    ∙ digit_there c.args.id 0 (omega arith)) in
    let all : IsClearedFrom 0 3 (lowest_blocks way 3 ++ get_or way 0 0 ∷ []) way c.args.id S.tells
    (S.seen c.args.store.now) (S.seen c.set_word-2.new.store) c.args.pages.now c.set_word-2.new.self =
    cleared_more way c.args.id 3 (4 * c.from-2.result) _ c.requires.five (omega arith) so_far at_is
    (missing-there (pages_of c.loop-count.pages) (get_or way 0 0) there) set.set set.lends in
    record {
      done = refl;
      store = (set.buffered there).1 ∙ kept.store;
      answered = kept.items ∙ ap (lowest_blocks way) (sym kept.long);
      few = omega (arith, is);
      words = subst (λ (k : ℕ). IsKnown S.tells (S.seen c.args.store.now) c.args.pages.now → AreDistinct (take 4 way)
          → ClearsAlong way (3 - k) c.args.id (shown_over (S.seen c.args.store.now) c.args.pages.now)
          (shown_over (S.seen c.set_word-2.new.store) c.set_word-2.new.self)) (sym is) all.words;
      empty = subst (λ (k : ℕ). IsKnown S.tells (S.seen c.args.store.now) c.args.pages.now → AreDistinct (take 4 way)
          → (place : ℕ) → 3 - k < place → place < 4
          → IsEmpty (shown_over (S.seen c.set_word-2.new.store) c.set_word-2.new.self) (get_or way place 0))
          (sym is) all.empty;
      left = λ known low. absurd (omega (arith, low, is));
      lends =
          subst (λ (numbers : List ℕ). LendsSome S.tells true 0 numbers (S.seen c.args.store.now)
          (S.seen c.set_word-2.new.store) c.args.pages.now c.set_word-2.new.self)
          (ap (λ (xs : List ℕ). xs ++ get_or way 0 0 ∷ []) (ap (lowest_blocks way) (sym count_is) ∙ sym kept.items)
          ∙ ap (λ (k : ℕ). c.loop-count.emptied.items ++ get_or way (3 - k) 0 ∷ []) (sym is)) all.lends;
      commits = g.S.Store.commits_on [] [] _ _ _ kept.commits set.commits;
    }
