use Rattle.free_chains.proofs.LinkLemmas.{has_links, lends_twice}
use Rattle.free_chains.proofs.block_links.set_links.Goals as goal

pub returns-clause-set : goal.returns-clause-set
returns-clause-set g c = λ known.
    let first = c.in_ok-set_word.ensures in
    has_links c.args.block c.args.next c.args.previous _ _ _ (first.set known)
    (c.in_ok-set_word-2.ensures.set (first.lends.known known))

pub returns-clause-lends : goal.returns-clause-lends
returns-clause-lends g c =
    lends_twice c.in_ok-set_word.ensures.lends c.in_ok-set_word.ensures.brought c.in_ok-set_word-2.ensures.lends
