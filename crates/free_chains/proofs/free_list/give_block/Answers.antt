use Rattle.quota_pages.proofs.UsedLemmas.{shown_over-lends}
use Rattle.free_chains.proofs.FreeListLemmas.{gives}
use Rattle.free_chains.proofs.LinkLemmas.{lends_twice}
use Rattle.free_chains.proofs.free_list.give_block.Goals as goal

pub returns-clause-given : goal.returns-clause-given
returns-clause-given g c = λ known.
    let first = c.in_ok-blank.ensures in
    let second = c.in_ok-set_word.ensures in
    gives _ _ _ c.args.heads.now c.args.n (shown_over-lends (lends_twice first.lends first.brought second.lends))
    (first.blank known) (second.set (first.lends.known known))

pub returns-clause-lends : goal.returns-clause-lends
returns-clause-lends g c =
    let first = c.in_ok-blank.ensures in
    lends_twice first.lends first.brought c.in_ok-set_word.ensures.lends
