use Rattle.std.proofs.Common.{true, ◌≡◌, ℕ, suc, ◌+◌, ◌-◌, ◌<◌, ◌≤◌, ◌^◌, List, length, get_or, sym, ap, subst, ◌∙◌}
use Rattle.std.proofs.Common.{arith, rules, []}
use Rattle.std.proofs.lemmas.Bool.{false≢true}
use Rattle.std.proofs.lemmas.Result.{err_from_is_err_and}
use Rattle.quota_pages.specs.Pages.{pages_of}
use Rattle.quota_pages.specs.Used.{IsKnown, LendsSome, missing_among, shown_over}
use Rattle.quota_pages.proofs.UsedLemmas.{lends_more, looks_more, looks_then_lends, shown_over-lends, shown_over-looks}
use Rattle.quota_radix.specs.declared.tree_path.TreePath.{TreePath}
use Rattle.quota_radix.specs.Link.{AreBuffered, AreDistinct, GainsBlocks, HasWay, IsLinkable, LeadsAlong}
use Rattle.quota_radix.specs.Link.{changed_blocks, whole_way, with_path}
use Rattle.quota_radix.specs.Tree.{leaves}
use Rattle.quota_radix.proofs.DownLemmas.{on_ok}
use Rattle.quota_radix.proofs.LinkPathLemmas.{IsLinked, gains_blocks, has_way}
use Rattle.quota_radix.proofs.LinkWayLemmas.{buffered_as, changed_as, changed_distinct, fresh_is, in_stretch, leads_as}
use Rattle.quota_radix.proofs.LinkWayLemmas.{linked_along, path_of_leaf, stretch}
use Rattle.quota_radix.proofs.linking.link.Goals as goal

pub returns : goal.returns
returns g c =
    let S = g.S.Store in
    let found : List ℕ = c.args.path.now.found.items in
    let fresh : List ℕ = c.args.fresh.now in
    let id : ℕ = c.args.id in
    let blocks : ℕ = c.args.blocks in
    let leaf_block : ℕ = c.args.leaf_block in
    let gone : ℕ = length found - 1 in
    let some : length found ≡ suc gone = omega (arith, c.requires.found) in
    let five : length found + length fresh ≡ 4 = c.requires.fresh in
    let few : gone < 4 = omega (arith, some, five) in
    let small : id < 2 ^ 32 = omega (arith, c.ranges.id.fits) in
    let way : List ℕ = whole_way found fresh leaf_block in
    let first : ℕ = c.len-first.result - 1 in
    let first_is : first ≡ gone = ap (λ (n : ℕ). n - 1) c.len-first.ensures.value in
    let looked = c.in_ok-bring_in.ensures.looked in
    let set = c.set_refs.ensures in
    let there : AreBuffered (pages_of c.args.pages.now) (changed_blocks found fresh)
    → AreBuffered (pages_of c.args.pages.now) (stretch c.whole_way-way.result first (4 - first)) =
    λ all. buffered_as found fresh c.whole_way-way.result (pages_of c.args.pages.now) leaf_block first some five
    c.whole_way-way.ensures.way first_is all in
    let old : List ℕ = shown_over (S.seen c.args.store.now) c.args.pages.now in
    let new : List ℕ = shown_over (S.seen c.set_refs.new.store) c.set_refs.new.pages in
    let numbers_are : stretch c.whole_way-way.result first (4 - first) ≡ changed_blocks found fresh =
    changed_as found fresh c.whole_way-way.result leaf_block gone first some five
    c.whole_way-way.ensures.way first_is in
    let pages = pages_of c.args.pages.now in
    let count : ℕ = missing_among pages (changed_blocks found fresh) in
    let lends : LendsSome S.tells true count (changed_blocks found fresh) (S.seen c.args.store.now)
    (S.seen c.set_refs.new.store) c.args.pages.now c.set_refs.new.pages =
    subst (λ (numbers : List ℕ). LendsSome S.tells true count numbers (S.seen c.args.store.now)
    (S.seen c.set_refs.new.store) c.args.pages.now c.set_refs.new.pages) numbers_are
    (lends_more count (omega (arith, ap (missing_among pages) numbers_are)) (looks_then_lends looked set.lends)) in
    let words : IsKnown S.tells (S.seen c.args.store.now) c.args.pages.now → AreDistinct (changed_blocks found fresh)
    → LeadsAlong way gone id old new =
    λ known distinct.
    leads_as c.whole_way-way.result way first gone id
    (shown_over (S.seen c.bring_in.new.store) c.bring_in.new.pages) old new
    c.whole_way-way.ensures.way first_is (shown_over-looks looked)
    (set.words (looked.known known) (subst (λ (numbers : List ℕ). AreDistinct numbers) (sym numbers_are) distinct)) in
    let linked : IsKnown S.tells (S.seen c.args.store.now) c.args.pages.now
    → IsLinkable old blocks found fresh id leaf_block → IsLinked way gone id blocks old new =
    λ known can.
    linked_along old new found fresh blocks id leaf_block gone some five small can
    (words known (changed_distinct old found fresh blocks id leaf_block gone some few small can))
    (shown_over-lends lends) in
    let paths : IsKnown S.tells (S.seen c.args.store.now) c.args.pages.now
    → IsLinkable old blocks found fresh id leaf_block → HasWay way (suc gone) id blocks old new =
    λ known can. has_way way gone id blocks old new (linked known can) in
    record {
      words = on_ok _ c.set_refs.result words;
      lends = on_ok _ c.set_refs.result lends;
      paths = on_ok _ c.set_refs.result
          (λ known can. subst (λ (count : ℕ). HasWay way count id blocks old new) (sym some) (paths known can));
      leaves = on_ok _ c.set_refs.result (λ known can.
          (paths known can).more 4 (omega arith) (omega arith)
          ∙ ap (λ (path : TreePath). with_path (leaves old blocks) path)
          (path_of_leaf found fresh id leaf_block gone some five));
      levels = on_ok _ c.set_refs.result (λ known can.
          subst (λ (count : ℕ). GainsBlocks way fresh count blocks old new) (sym some)
          (gains_blocks way fresh gone id blocks old new (linked known can)
          (fresh_is found fresh leaf_block gone some five)));
      kept = search rules;
      buffered = λ all. (set.done, set.store ∙ (c.in_ok-bring_in.ensures.buffered (there all)).1);
      few = λ all. omega (arith, set.lends.few, c.in_ok-bring_in.ensures.few (there all));
      cause = search rules;
      commits = g.S.Store.commits_on [] [] _ _ _ c.bring_in.ensures.commits set.commits;
    }

-- where each block is buffered, bringing them in is not refused
pub returns-in_err-bring_in-clause-buffered : goal.returns-in_err-bring_in-clause-buffered
returns-in_err-bring_in-clause-buffered g c =
    let some : length c.args.path.now.found.items ≡ suc (length c.args.path.now.found.items - 1) =
    omega (arith, c.requires.found) in
    λ all. absurd (false≢true (c.in_err-bring_in.ensures.buffered
    (buffered_as c.args.path.now.found.items c.args.fresh.now c.whole_way-way.result (pages_of c.args.pages.now)
    c.args.leaf_block (c.len-first.result - 1)
    some c.requires.fresh c.whole_way-way.ensures.way (ap (λ (n : ℕ). n - 1) c.len-first.ensures.value) all)).0)

pub returns-in_err-bring_in-clause-few : goal.returns-in_err-bring_in-clause-few
returns-in_err-bring_in-clause-few g c =
    let some : length c.args.path.now.found.items ≡ suc (length c.args.path.now.found.items - 1) =
    omega (arith, c.requires.found) in
    λ all. c.in_err-bring_in.ensures.few
    (buffered_as c.args.path.now.found.items c.args.fresh.now c.whole_way-way.result (pages_of c.args.pages.now)
    c.args.leaf_block (c.len-first.result - 1)
    some c.requires.fresh c.whole_way-way.ensures.way (ap (λ (n : ℕ). n - 1) c.len-first.ensures.value) all)

-- each block from the last found one on was brought in
pub set_refs-requires-clause-buffered : goal.set_refs-requires-clause-buffered
set_refs-requires-clause-buffered g c =
    let way : List ℕ = c.whole_way-way.result in
    let first : ℕ = c.len-first.result - 1 in
    let long : length way ≡ 5 = omega arith in
    let few : first < 4 = omega (arith, c.len-first.ensures.value, c.requires.found, c.requires.fresh) in
    λ place from low. c.in_ok-bring_in.ensures.brought (get_or way place 0)
    (in_stretch way first (4 - first) place (omega (arith, long, few)) from (omega (arith, few, low)))

-- the way from the last found block on is made of the blocks that change
changed_on_way : (found fresh way : List ℕ) (leaf_block first : ℕ) → 1 ≤ length found → length found + length fresh ≡ 4
    → way ≡ whole_way found fresh leaf_block → first ≡ length found - 1
    → stretch way first (4 - first) ≡ changed_blocks found fresh
changed_on_way found fresh way leaf_block first some five way_is first_is =
    changed_as found fresh way leaf_block (length found - 1) first (omega (arith, some)) five way_is first_is

pub bring_in-requires : goal.bring_in-requires
bring_in-requires g c =
    let is = changed_on_way c.args.path.now.found.items c.args.fresh.now c.whole_way-way.result c.args.leaf_block
    (c.len-first.result - 1) c.requires.found c.requires.fresh c.whole_way-way.ensures.way
    (ap (λ (n : ℕ). n - 1) c.len-first.ensures.value) in
    omega (arith, c.requires.room, ap (missing_among (pages_of c.args.pages.now)) is)

pub returns-in_err-bring_in-clause-kept : goal.returns-in_err-bring_in-clause-kept
returns-in_err-bring_in-clause-kept g c =
    let found : List ℕ = c.args.path.now.found.items in
    let fresh : List ℕ = c.args.fresh.now in
    let is = changed_on_way found fresh c.whole_way-way.result c.args.leaf_block (c.len-first.result - 1)
    c.requires.found c.requires.fresh c.whole_way-way.ensures.way
    (ap (λ (n : ℕ). n - 1) c.len-first.ensures.value) in
    let p = err_from_is_err_and c.from_residual.result c.from_residual.ensures.1 in
    rw p.1 (looks_more (missing_among (pages_of c.args.pages.now) (changed_blocks found fresh))
    (omega (arith, ap (missing_among (pages_of c.args.pages.now)) is)) c.in_err-bring_in.ensures.looked)
