use Rattle.std.proofs.Common.{List, ℕ, ◌++◌, ap, sym, ◌∙◌, arith}
use Rattle.quota_pages.proofs.UsedLemmas.{looks_then, looks_then_lends, shown_over-lends, shown_over-looks}
use Rattle.quota_pages.specs.Pages.{pages_of}
use Rattle.quota_pages.proofs.UsedLemmas.{missing-there}
use Rattle.quota_pages.specs.Used.{shown_over}
use Rattle.file_blocks.specs.Block.{next_of, previous_of}
use Rattle.free_chains.specs.Links.{led_to}
use Rattle.free_chains.proofs.RoomLemmas.{beside_first, beside_others}
use Rattle.free_chains.proofs.BesideLemmas.{beside_same, beside_then}
use Rattle.free_chains.proofs.LeaveEntryListLemmas.{head-first, head-stays, leaves}
use Rattle.free_chains.proofs.entry_list.leave_entry_list.Goals as goal

pub link_at-requires-clause-room : goal.link_at-requires-clause-room
link_at-requires-clause-room g c = beside_first (pages_of c.args.pages.now) c.args.n _ c.requires

pub unlink-requires-clause-room : goal.unlink-requires-clause-room
unlink-requires-clause-room g c =
    let file : List ℕ = shown_over (g.S.Store.seen c.args.store.now) c.args.pages.now in
    let first = c.in_ok-next.ensures.looked in
    let second = c.in_ok-previous.ensures.looked in
    beside_others (pages_of c.args.pages.now) (pages_of c.link_at-2.new.pages) c.args.n c.in_ok-previous.previous
    c.in_ok-next.next (led_to (previous_of file c.args.n) ++ led_to (next_of file c.args.n)) c.requires
    (λ known.
    let next_is = c.in_ok-next.ensures.value known in
    let previous_is = c.in_ok-previous.ensures.value (first.known known)
    ∙ ap (λ (file : List ℕ). previous_of file c.args.n) (shown_over-looks first) in
    ap (λ (k : ℕ). led_to k ++ led_to (next_of file c.args.n)) (sym previous_is)
    ∙ ap (λ (k : ℕ). led_to c.in_ok-previous.previous ++ led_to k) (sym next_is))
    (λ other there. second.stay other (first.stay other there))
    (omega (
      arith,
      first.few,
      second.few,
      missing-there (pages_of c.link_at.new.pages) c.args.n c.in_ok-next.ensures.brought,
    ))

pub returns-then-previous-eq0-clause-left : goal.returns-then-previous-eq0-clause-left
returns-then-previous-eq0-clause-left g c = λ known front back is_chain named.
    let first = c.in_ok-next.ensures.looked in
    let second = c.in_ok-previous.ensures.looked in
    let both = looks_then first second in
    let unlinks = c.in_ok-unlink.ensures in
    leaves _ _ _ c.args.heads.now _ c.args.n c.in_ok-next.next c.in_ok-previous.previous front back
    (c.in_ok-next.ensures.value known)
    (c.in_ok-previous.ensures.value (first.known known)
    ∙ ap (λ (file : List ℕ). previous_of file c.args.n) (shown_over-looks first))
    (shown_over-lends (looks_then_lends both unlinks.lends)) (shown_over-looks both)
    (unlinks.unlinked (both.known known))
    (head-first c.in_ok-previous.previous c.in_ok-next.next c.args.heads.now.first c.if-previous-eq0.true)
    is_chain named

pub returns-else-previous-eq0-clause-left : goal.returns-else-previous-eq0-clause-left
returns-else-previous-eq0-clause-left g c = λ known front back is_chain named.
    let first = c.in_ok-next.ensures.looked in
    let second = c.in_ok-previous.ensures.looked in
    let both = looks_then first second in
    let unlinks = c.in_ok-unlink.ensures in
    leaves _ _ _ c.args.heads.now _ c.args.n c.in_ok-next.next c.in_ok-previous.previous front back
    (c.in_ok-next.ensures.value known)
    (c.in_ok-previous.ensures.value (first.known known)
    ∙ ap (λ (file : List ℕ). previous_of file c.args.n) (shown_over-looks first))
    (shown_over-lends (looks_then_lends both unlinks.lends)) (shown_over-looks both)
    (unlinks.unlinked (both.known known))
    (head-stays c.in_ok-previous.previous c.in_ok-next.next c.args.heads.now.first c.if-previous-eq0.false)
    is_chain named

pub returns-then-previous-eq0-clause-links : goal.returns-then-previous-eq0-clause-links
returns-then-previous-eq0-clause-links g c = λ known.
    let both = looks_then c.in_ok-next.ensures.looked c.in_ok-previous.ensures.looked in
    beside_then _ _ _ (beside_same _ _ (shown_over-looks both)) (c.in_ok-unlink.ensures.links (both.known known))

pub returns-else-previous-eq0-clause-links : goal.returns-else-previous-eq0-clause-links
returns-else-previous-eq0-clause-links g c = λ known.
    let both = looks_then c.in_ok-next.ensures.looked c.in_ok-previous.ensures.looked in
    beside_then _ _ _ (beside_same _ _ (shown_over-looks both)) (c.in_ok-unlink.ensures.links (both.known known))
