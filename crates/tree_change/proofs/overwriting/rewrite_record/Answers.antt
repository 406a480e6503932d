use Rattle.std.proofs.Common.{ap}
use Rattle.std.specs.Result.{is_ok}
use Rattle.quota_pages.proofs.UsedLemmas.{lends_of_page, shown_over-lends, shown_over-lent}
use Rattle.tree_change.proofs.PutLemmas.{rewrites_laid}
use Rattle.tree_change.proofs.overwriting.rewrite_record.Goals as goal

pub returns-clause-rewritten : goal.returns-clause-rewritten
returns-clause-rewritten g c = λ known used.
    let lent = c.page.follows.holds c.put_over.new.block (ap is_ok c.in_ok-bytes.was) in
    rewrites_laid c.args.format c.args.block c.args.place (record { id = c.args.id; rec = c.args.rec.now })
    c.put_over.new.block c.in_ok-bytes.bytes.now _ _
    (c.in_ok-bytes.ensures.block known.told known.clean) c.put_over.ensures.whole
    (shown_over-lent _ _ lent c.page.ensures.leaves)
    (shown_over-lends (lends_of_page _ _ lent c.in_ok-bytes.ensures.leaves c.page.ensures.reads))
    c.put_over.ensures.put used

pub returns-clause-lends : goal.returns-clause-lends
returns-clause-lends g c =
    lends_of_page _ _ (c.page.follows.holds c.put_over.new.block (ap is_ok c.in_ok-bytes.was))
    c.in_ok-bytes.ensures.leaves c.page.ensures.reads
