use Rattle.tree_check.proofs.DataLemmas.{before_more, in_order_more, names_other}
use Rattle.tree_check.proofs.data.first_bad_previous.Goals as goal

pub returns-then-link-before : goal.returns-then-link-before
returns-then-link-before c =
    names_other c.args.links.now c.loop-link.link-index _ c.loop-link.before c.loop-link-test.true
    c.loop-link.invariant.before c.if-link-before.true

pub loop-link-preserved : goal.loop-link-preserved
loop-link-preserved c = record {
  before = before_more c.args.links.now c.loop-link.link-index _ c.loop-link-test.true;
  in_order = in_order_more c.args.links.now c.loop-link.link-index _ c.loop-link.before c.loop-link-test.true
      c.loop-link.invariant.before c.if-link-before.false c.loop-link.invariant.in_order;
}
