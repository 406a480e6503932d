use Rattle.std.proofs.Common.{ap}
use Rattle.std.specs.Result.{is_ok}
use Rattle.quota_pages.proofs.UsedLemmas.{lends_of_page, shown_over-lends, shown_over-lent}
use Rattle.tree_change.proofs.PutLemmas.{room_laid, writes_laid}
use Rattle.tree_change.proofs.writing.write_record.Goals as goal

pub returns-clause-written : goal.returns-clause-written
returns-clause-written g c = λ known unused.
    let lent = c.page.follows.holds c.put_counted.new.block (ap is_ok c.in_ok-bytes.was) in
    writes_laid c.args.format c.args.block c.args.place (record { id = c.args.id; rec = c.args.rec.now })
    c.put_counted.new.block c.in_ok-bytes.bytes.now _ _
    (c.in_ok-bytes.ensures.block known.told known.clean) c.put_counted.ensures.whole
    (shown_over-lent _ _ lent c.page.ensures.leaves)
    (shown_over-lends (lends_of_page _ _ lent c.in_ok-bytes.ensures.leaves c.page.ensures.reads))
    c.put_counted.ensures.put unused

pub returns-clause-room : goal.returns-clause-room
returns-clause-room g c = λ known.
    room_laid c.args.format c.args.block c.put_counted.new.block _ _ c.put_counted.result c.put_counted.ensures.whole
    (shown_over-lent _ _ (c.page.follows.holds c.put_counted.new.block (ap is_ok c.in_ok-bytes.was))
    c.page.ensures.leaves) c.put_counted.ensures.room

pub returns-clause-lends : goal.returns-clause-lends
returns-clause-lends g c =
    lends_of_page _ _ (c.page.follows.holds c.put_counted.new.block (ap is_ok c.in_ok-bytes.was))
    c.in_ok-bytes.ensures.leaves c.page.ensures.reads
