use Rattle.std.proofs.Common.{arith}
use Rattle.std.proofs.lemmas.Result.{err_from_is_err_and}
use Rattle.quota_pages.specs.Pages.{pages_of}
use Rattle.quota_pages.proofs.LentLemmas.{buffered_if_lent}
use Rattle.quota_pages.proofs.LengthLemmas.{shown-covers}
use Rattle.quota_pages.proofs.UsedLemmas.{shown_over-lends}
use Rattle.tree_change.proofs.ChangeFaultLemmas.{of_chain}
use Rattle.tree_change.proofs.FreshLemmas.{full_no_room, stops_no_tree, takes_one}
use Rattle.tree_change.proofs.WithinLemmas.{block_taken, takes_head}
use Rattle.tree_change.proofs.FullLemmas.{chain_tells, takes_most}
use Rattle.tree_change.proofs.fresh.take_one.Goals as goal

pub returns-then-heads-limit-clause-refused : goal.returns-then-heads-limit-clause-refused
returns-then-heads-limit-clause-refused g c = (
  omega arith,
  omega arith,
  λ known. full_no_room _ c.args.heads.now c.args.limit c.if-heads-eq0.true c.if-heads-limit.true,
)

pub returns-in_err-take_block-clause-refused : goal.returns-in_err-take_block-clause-refused
returns-in_err-take_block-clause-refused g c =
    let p = err_from_is_err_and c.from_residual.result c.from_residual.ensures.1 in
    rw (p.1, p.2) (of_chain _ _ _ _ _ _ _
    (λ number out stops known. stops_no_tree _ c.args.heads.now number stops.0 out (stops.1 known))
    c.in_err-take_block.ensures.refused)

pub returns-clause-taken : goal.returns-clause-taken
returns-clause-taken g c = λ known.
    let took = c.in_ok-take_block.ensures in
    takes_one _ _ c.args.heads.now c.take_block.new.heads _ (shown_over-lends took.lends) (took.taken known) took.head
    (shown-covers _ (pages_of c.take_block.new.pages) _ took.marked)

pub returns-clause-takes : goal.returns-clause-takes
returns-clause-takes g c =
    let took = c.in_ok-take_block.ensures in
    takes_head c.args.limit c.args.heads.now c.take_block.new.heads _ _ _ took.head (λ none. grind (arith, none))
    (took.lends.lent 0)

pub returns-clause-beside : goal.returns-clause-beside
returns-clause-beside g c = block_taken c.args.heads.now _ _ c.in_ok-take_block.ensures.head

pub returns-clause-brought : goal.returns-clause-brought
returns-clause-brought g c =
    buffered_if_lent (pages_of c.take_block.new.pages) c.in_ok-take_block.field-0 c.in_ok-take_block.ensures.marked

pub returns-clause-most : goal.returns-clause-most
returns-clause-most g c =
    takes_most c.args.limit c.args.heads.now c.take_block.new.heads _ c.in_ok-take_block.ensures.head
    (λ none. grind (arith, none))

pub returns-in_err-take_block-clause-full : goal.returns-in_err-take_block-clause-full
returns-in_err-take_block-clause-full g c =
    let p = err_from_is_err_and c.from_residual.result c.from_residual.ensures.1 in
    rw (p.1, p.2) (chain_tells c.args.heads.now c.args.limit _)
