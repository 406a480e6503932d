use Rattle.std.proofs.Common.{ap}
use Rattle.std.specs.Result.{is_ok}
use Rattle.quota_pages.proofs.UsedLemmas.{has_word, lends_of_page, marked, shown_over-lent}
use Rattle.quota_pages.proofs.page_buffer.Pages.set_word.Goals as goal

pub returns-clause-set : goal.returns-clause-set
returns-clause-set g c = λ known.
    has_word c.args.n c.args.at c.args.value c.in_ok-block.block.now c.set_le32.new.block _ _ c.requires.word
    (c.in_ok-block.ensures.block known.told known.clean) c.set_le32.ensures.written c.set_le32.ensures.others
    (shown_over-lent _ _ (c.page.follows.holds c.set_le32.new.block (ap is_ok c.in_ok-block.was)) c.page.ensures.leaves)

pub returns-clause-lends : goal.returns-clause-lends
returns-clause-lends g c =
    lends_of_page _ _ (c.page.follows.holds c.set_le32.new.block (ap is_ok c.in_ok-block.was))
    c.in_ok-block.ensures.leaves c.page.ensures.reads

pub returns-clause-marked : goal.returns-clause-marked
returns-clause-marked g c = marked (c.page.follows.holds c.set_le32.new.block (ap is_ok c.in_ok-block.was))
