use Rattle.std.proofs.Common.{ℕ, List, arith, take}
use Rattle.std.proofs.lemmas.Result.{on_ok_weaker}
use Rattle.quota_pages.specs.Used.{IsKnown, shown_over}
use Rattle.quota_pages.proofs.UsedLemmas.{shown_over-lends, lends_more, lends_then}
use Rattle.tree_change.specs.Unlinked.{GivesHeld}
use Rattle.tree_change.proofs.LeafGoneLemmas.{unlinks_leaf}
use Rattle.quota_pages.proofs.LentLemmas.{lends_among}
use Rattle.tree_change.proofs.BesideLemmas.{unlinked_among}
use Rattle.tree_change.proofs.unlinking.unlink_leaf.Goals as goal

pub returns-clause-unlinked : goal.returns-clause-unlinked
returns-clause-unlinked g c =
    let S = g.S.Store in
    let gone = c.in_ok-emptied.ensures in
    let way : List ℕ = c.args.path.now.found.items in
    let emptied : List ℕ = c.in_ok-emptied.emptied.items in
    on_ok_weaker
    {P = IsKnown S.tells (S.seen c.unlink.new.store) c.unlink.new.pages
    → GivesHeld emptied (shown_over (S.seen c.unlink.new.store) c.unlink.new.pages)
    (shown_over (S.seen c.give_all.new.store) c.give_all.new.pages) c.args.heads.now c.give_all.new.heads}
    c.give_all.result
    (λ gives known. unlinks_leaf way emptied c.args.id _ _ _ c.args.heads.now c.give_all.new.heads c.requires.found
    (omega (arith, c.ranges.id.fits)) gone.answered c.give_all.ensures.blocks
    (gone.words known) (gone.emptied known) (gone.loses known) (shown_over-lends gone.lends)
    (gives (gone.lends.known known)))
    (rw c.as_slice.ensures.value at c.give_all.ensures.given)

pub returns-clause-brought : goal.returns-clause-brought
returns-clause-brought g c =
    on_ok_weaker c.give_all.result
    (λ gives number stands. c.give_all.ensures.uses.stay number (c.in_ok-emptied.ensures.brought number stands))
    c.give_all.ensures.given

pub returns-clause-lends : goal.returns-clause-lends
returns-clause-lends g c =
    let gone = c.in_ok-emptied.ensures in
    let way : List ℕ = c.args.path.now.found.items in
    on_ok_weaker c.give_all.result
    (λ gave. lends_more _ (omega arith)
    (lends_among (take 4 way) (unlinked_among way c.in_ok-emptied.emptied.items c.requires.found gone.answered)
    (lends_then gone.lends gave)))
    (rw c.as_slice.ensures.value at c.give_all.ensures.lends)
