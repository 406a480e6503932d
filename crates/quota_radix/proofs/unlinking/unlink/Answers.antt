use Rattle.std.proofs.Common.{true, ◌≡◌, ℕ, ◌+◌, ◌-◌, ◌++◌, ◌∷◌, [], List, length, take, get_or, subst, arith}
use Rattle.std.proofs.lemmas.Result.{IfOk-weaker}
use Rattle.quota_pages.specs.Pages.{pages_of}
use Rattle.quota_pages.specs.Used.{IsKnown, LendsSome, missing_among, shown_over}
use Rattle.quota_pages.specs.KeptBlocks.{KeepsBlocksBut}
use Rattle.quota_pages.proofs.UsedLemmas.{looks_then_lends, shown_over-lends, shown_over-looks}
use Rattle.quota_radix.specs.Link.{AreBuffered}
use Rattle.quota_radix.proofs.UnlinkEndLemmas.{emptied_end, loses_end, words_end}
use Rattle.quota_radix.proofs.unlinking.unlink.Goals as goal

pub returns-clause-answered : goal.returns-clause-answered
returns-clause-answered g c = rw c.as_slice-way.ensures.value at c.clear_refs.ensures.answered

pub returns-clause-words : goal.returns-clause-words
returns-clause-words g c =
    let S = g.S.Store in
    let looked = c.in_ok-bring_in.ensures.looked in
    words_end (λ emptied. emptied.items) c.args.path.now.found.items c.args.id c.args.blocks
    (shown_over (S.seen c.args.store.now) c.args.pages.now)
    (shown_over (S.seen c.bring_in.new.store) c.bring_in.new.pages)
    (shown_over (S.seen c.clear_refs.new.store) c.clear_refs.new.pages)
    c.requires.found (omega (arith, c.ranges.id.fits))
    (IsKnown S.tells (S.seen c.args.store.now) c.args.pages.now)
    (IsKnown S.tells (S.seen c.bring_in.new.store) c.bring_in.new.pages) looked.known (shown_over-looks looked)
    c.clear_refs.result
    (rw c.as_slice-way.ensures.value at c.clear_refs.ensures.words)

pub returns-clause-emptied : goal.returns-clause-emptied
returns-clause-emptied g c =
    let S = g.S.Store in
    let looked = c.in_ok-bring_in.ensures.looked in
    emptied_end (λ emptied. emptied.items) c.args.path.now.found.items c.args.id c.args.blocks
    (shown_over (S.seen c.args.store.now) c.args.pages.now)
    (shown_over (S.seen c.bring_in.new.store) c.bring_in.new.pages)
    (shown_over (S.seen c.clear_refs.new.store) c.clear_refs.new.pages)
    c.requires.found (omega (arith, c.ranges.id.fits))
    (IsKnown S.tells (S.seen c.args.store.now) c.args.pages.now)
    (IsKnown S.tells (S.seen c.bring_in.new.store) c.bring_in.new.pages) looked.known (shown_over-looks looked)
    c.clear_refs.result
    c.clear_refs.ensures.few (rw c.as_slice-way.ensures.value at c.clear_refs.ensures.words)
    (rw c.as_slice-way.ensures.value at c.clear_refs.ensures.empty)
    (rw c.as_slice-way.ensures.value at c.clear_refs.ensures.left)

pub returns-clause-loses : goal.returns-clause-loses
returns-clause-loses g c =
    let S = g.S.Store in
    let looked = c.in_ok-bring_in.ensures.looked in
    let lends = (rw c.as_slice-way.ensures.value at c.clear_refs.ensures.lends) in
    loses_end (λ emptied. emptied.items) c.args.path.now.found.items c.args.id c.args.blocks
    (shown_over (S.seen c.args.store.now) c.args.pages.now)
    (shown_over (S.seen c.bring_in.new.store) c.bring_in.new.pages)
    (shown_over (S.seen c.clear_refs.new.store) c.clear_refs.new.pages)
    c.requires.found (omega (arith, c.ranges.id.fits))
    (IsKnown S.tells (S.seen c.args.store.now) c.args.pages.now)
    (IsKnown S.tells (S.seen c.bring_in.new.store) c.bring_in.new.pages) looked.known (shown_over-looks looked)
    c.clear_refs.result
    (rw c.as_slice-way.ensures.value at c.clear_refs.ensures.answered) c.clear_refs.ensures.few
    (rw c.as_slice-way.ensures.value at c.clear_refs.ensures.words)
    (rw c.as_slice-way.ensures.value at c.clear_refs.ensures.empty)
    (rw c.as_slice-way.ensures.value at c.clear_refs.ensures.left)
    (IfOk-weaker c.clear_refs.result
    (λ emptied. LendsSome S.tells true 0
    (emptied.items ++ get_or c.args.path.now.found.items (3 - length emptied.items) 0 ∷ [])
    (S.seen c.bring_in.new.store) (S.seen c.clear_refs.new.store) c.bring_in.new.pages c.clear_refs.new.pages)
    (λ emptied. KeepsBlocksBut (emptied.items ++ get_or c.args.path.now.found.items (3 - length emptied.items) 0 ∷ [])
    (shown_over (S.seen c.bring_in.new.store) c.bring_in.new.pages)
    (shown_over (S.seen c.clear_refs.new.store) c.clear_refs.new.pages))
    (λ emptied lent. shown_over-lends lent) lends)

pub returns-clause-lends : goal.returns-clause-lends
returns-clause-lends g c =
    let S = g.S.Store in
    let count : ℕ = missing_among (pages_of c.args.pages.now) (take 4 c.args.path.now.found.items) in
    let all : count + 0 ≡ count = omega arith in
    IfOk-weaker c.clear_refs.result
    (λ emptied. LendsSome S.tells true 0
    (emptied.items ++ get_or c.args.path.now.found.items (3 - length emptied.items) 0 ∷ [])
    (S.seen c.bring_in.new.store) (S.seen c.clear_refs.new.store) c.bring_in.new.pages c.clear_refs.new.pages)
    (λ emptied. LendsSome S.tells true count
    (emptied.items ++ get_or c.args.path.now.found.items (3 - length emptied.items) 0 ∷ []) (S.seen c.args.store.now)
    (S.seen c.clear_refs.new.store) c.args.pages.now c.clear_refs.new.pages)
    (λ emptied lent.
    subst (λ (k : ℕ). LendsSome S.tells true k
    (emptied.items ++ get_or c.args.path.now.found.items (3 - length emptied.items) 0 ∷ []) (S.seen c.args.store.now)
    (S.seen c.clear_refs.new.store) c.args.pages.now c.clear_refs.new.pages) all
    (looks_then_lends (rw c.as_slice-way.ensures.value at c.in_ok-bring_in.ensures.looked) lent))
    (rw c.as_slice-way.ensures.value at c.clear_refs.ensures.lends)

pub returns-clause-brought : goal.returns-clause-brought
returns-clause-brought g c =
    let S = g.S.Store in
    let found : List ℕ = c.args.path.now.found.items in
    let there = rw c.as_slice-way.ensures.value at c.in_ok-bring_in.ensures.brought in
    IfOk-weaker c.clear_refs.result
    (λ emptied. LendsSome S.tells true 0 (emptied.items ++ get_or found (3 - length emptied.items) 0 ∷ [])
    (S.seen c.bring_in.new.store) (S.seen c.clear_refs.new.store) c.bring_in.new.pages c.clear_refs.new.pages)
    (λ _. AreBuffered (pages_of c.clear_refs.new.pages) (take 4 found))
    (λ emptied lent number stands. lent.stay number (there number stands))
    (rw c.as_slice-way.ensures.value at c.clear_refs.ensures.lends)
