use Rattle.quota_pages.proofs.UsedLemmas.{shown_over-lends, missing-there}
use Rattle.tree_change.proofs.RemovedLemmas.{gives_tree}
use Rattle.tree_change.proofs.BesideLemmas.{beside_given}
use Rattle.quota_pages.specs.Pages.{pages_of}
use Rattle.tree_change.proofs.removing.give_up.Goals as goal

pub returns-clause-given : goal.returns-clause-given
returns-clause-given g c = λ known format.
    let left = c.in_ok-leave_list.ensures in
    let gave = c.in_ok-give_block.ensures in
    gives_tree format c.args.block _ _ _ c.args.heads.now _ _ gave.head (left.left known format)
    (shown_over-lends gave.lends) (gave.given (left.uses.known known))

pub returns-clause-beside : goal.returns-clause-beside
returns-clause-beside g c =
    let left = c.in_ok-leave_list.ensures in
    beside_given c.args.block c.args.heads.now.first
    (missing-there (pages_of c.leave_list.new.pages) c.args.block (left.uses.stay c.args.block c.requires.there))
    left.beside c.in_ok-give_block.ensures.lends
