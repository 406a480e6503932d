use Rattle.quota_pages.proofs.UsedLemmas.{shown_over-lends, shown_over-looks}
use Rattle.free_chains.proofs.BesideLemmas.{beside_unlinks}
use Rattle.free_chains.proofs.LinkLemmas.{unlinks, unlinks_lends}
use Rattle.quota_pages.specs.Pages.{pages_of}
use Rattle.free_chains.proofs.RoomLemmas.{first_led, second_led}
use Rattle.free_chains.proofs.entry_list.unlink.Goals as goal

pub bring-requires : goal.bring-requires
bring-requires g c = first_led (pages_of c.args.pages.now) c.args.previous c.args.next c.requires.room

pub set_link-requires-clause-room : goal.set_link-requires-clause-room
set_link-requires-clause-room g c =
    let looks = c.in_ok-bring.ensures.looked in
    second_led (pages_of c.args.pages.now) (pages_of c.bring.new.pages) c.args.previous c.args.next looks.stay
    looks.few c.requires.room

pub returns-clause-unlinked : goal.returns-clause-unlinked
returns-clause-unlinked g c = λ known apart.
    let looks = c.in_ok-bring.ensures.looked in
    let behind = c.in_ok-set_link.ensures in
    let before = c.in_ok-set_link-2.ensures in
    let cleared = c.in_ok-set_links.ensures in
    let known' = looks.known known in
    let known'' = behind.lends.known known' in
    let known''' = before.lends.known known'' in
    unlinks _ _ _ _ _ c.args.n c.args.next c.args.previous (shown_over-looks looks) apart
    (behind.set known') (shown_over-lends behind.lends) (before.set known'') (shown_over-lends before.lends)
    (cleared.set known''') (shown_over-lends cleared.lends)

pub returns-clause-lends : goal.returns-clause-lends
returns-clause-lends g c =
    unlinks_lends c.args.n c.args.next c.args.previous c.requires.there c.in_ok-bring.ensures.looked
    c.in_ok-bring.ensures.brought c.in_ok-set_link.ensures.lends c.in_ok-set_link-2.ensures.lends
    c.in_ok-set_links.ensures.lends

pub returns-clause-links : goal.returns-clause-links
returns-clause-links g c = λ known.
    let looks = c.in_ok-bring.ensures.looked in
    let behind = c.in_ok-set_link.ensures in
    let before = c.in_ok-set_link-2.ensures in
    let cleared = c.in_ok-set_links.ensures in
    let known' = looks.known known in
    let known'' = behind.lends.known known' in
    beside_unlinks _ _ _ _ _ c.args.n c.args.next c.args.previous (shown_over-looks looks) (behind.set known')
    (shown_over-lends behind.lends)
    (before.set known'') (shown_over-lends before.lends) (cleared.set (before.lends.known known''))
    (shown_over-lends cleared.lends)
