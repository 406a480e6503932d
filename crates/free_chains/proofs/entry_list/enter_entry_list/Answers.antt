use Rattle.std.proofs.Common.{ℕ, arith}
use Rattle.quota_pages.specs.Pages.{pages_of}
use Rattle.quota_pages.proofs.RoomLemmas.{room-first, room-others}
use Rattle.quota_pages.proofs.UsedLemmas.{shown_over-lends, shown_over-looks}
use Rattle.free_chains.proofs.BesideLemmas.{beside_enters}
use Rattle.free_chains.proofs.EntryListLemmas.{enters}
use Rattle.free_chains.proofs.LinkLemmas.{enters_behind, enters_lends, enters_links}
use Rattle.free_chains.specs.Links.{led_to}
use Rattle.free_chains.proofs.RoomLemmas.{led_room}
use Rattle.free_chains.proofs.entry_list.enter_entry_list.Goals as goal

pub word-requires-clause-room : goal.word-requires-clause-room
word-requires-clause-room g c =
    let first : ℕ = c.args.heads.now.first in
    room-first (pages_of c.args.pages.now) c.args.n (led_to first) (c.requires (omega (arith, c.if-first-heads.false)))

pub set_link-requires-clause-room : goal.set_link-requires-clause-room
set_link-requires-clause-room g c =
    let first : ℕ = c.args.heads.now.first in
    let looks = c.in_ok-word.ensures.looked in
    led_room (pages_of c.word.new.self) first
    (room-others (pages_of c.args.pages.now) (pages_of c.word.new.self) c.args.n (led_to first) looks.stay looks.few
    (c.requires (omega (arith, c.if-first-heads.false))))

pub returns-clause-entered : goal.returns-clause-entered
returns-clause-entered g c = λ known.
    let looks = c.in_ok-word.ensures.looked in
    let behind = c.in_ok-set_link.ensures in
    let links = c.in_ok-set_links.ensures in
    let known' = looks.known known in
    let first : ℕ = c.args.heads.now.first in
    enters _ _ c.args.heads.now c.args.n
    (shown_over-lends (enters_lends first c.args.n looks c.in_ok-word.ensures.brought behind.lends links.lends))
    (enters_links _ _ _ _ first c.args.n (shown_over-looks looks) (shown_over-lends behind.lends)
    (links.set (behind.lends.known known')))
    (enters_behind _ _ _ _ first c.args.n (shown_over-looks looks) (behind.set known') (shown_over-lends links.lends))

pub returns-clause-lends : goal.returns-clause-lends
returns-clause-lends g c =
    enters_lends c.args.heads.now.first c.args.n c.in_ok-word.ensures.looked c.in_ok-word.ensures.brought
    c.in_ok-set_link.ensures.lends c.in_ok-set_links.ensures.lends

pub returns-clause-links : goal.returns-clause-links
returns-clause-links g c = λ known.
    let looks = c.in_ok-word.ensures.looked in
    let behind = c.in_ok-set_link.ensures in
    let links = c.in_ok-set_links.ensures in
    let known' = looks.known known in
    beside_enters _ _ _ _ c.args.heads.now.first c.args.n (shown_over-looks looks) (behind.set known')
    (shown_over-lends behind.lends)
    (links.set (behind.lends.known known')) (shown_over-lends links.lends)
