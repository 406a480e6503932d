use Rattle.std.proofs.Common.{ap}
use Rattle.std.specs.Result.{is_ok}
use Rattle.quota_pages.proofs.UsedLemmas.{lends_of_page, shown_over-lent}
use Rattle.tree_change.proofs.HeaderChangedLemmas.{sets_heads}
use Rattle.tree_change.proofs.header_block.set_heads.Goals as goal

pub returns-clause-set : goal.returns-clause-set
returns-clause-set g c = λ known.
    sets_heads c.args.heads.now c.write_in.new.block c.in_ok-block.block.now _ _
    (c.in_ok-block.ensures.block known.told known.clean) c.write_in.ensures.whole
    (shown_over-lent _ _ (c.page.follows.holds c.write_in.new.block (ap is_ok c.in_ok-block.was)) c.page.ensures.leaves)
    c.write_in.ensures.heads c.write_in.ensures.others

pub returns-clause-lends : goal.returns-clause-lends
returns-clause-lends g c =
    lends_of_page _ _ (c.page.follows.holds c.write_in.new.block (ap is_ok c.in_ok-block.was))
    c.in_ok-block.ensures.leaves c.page.ensures.reads
