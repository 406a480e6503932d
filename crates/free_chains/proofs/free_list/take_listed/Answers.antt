use Rattle.std.proofs.Common.{refl}
use Rattle.quota_pages.proofs.UsedLemmas.{shown_over-lends, shown_over-looks}
use Rattle.free_chains.proofs.FreeListLemmas.{takes_listed}
use Rattle.free_chains.proofs.free_list.take_listed.Goals as goal

pub returns-clause-taken : goal.returns-clause-taken
returns-clause-taken g c = λ known.
    let looks = c.in_ok-next.ensures.looked in
    let blanks = c.in_ok-blank.ensures in
    takes_listed _ _ _ c.args.heads.now _ c.requires.some refl (c.in_ok-next.ensures.value known)
    (shown_over-looks looks) (shown_over-lends blanks.lends) (blanks.blank (looks.known known))
