use Rattle.std.proofs.Common.{ap}
use Rattle.std.specs.Result.{is_ok}
use Rattle.quota_pages.proofs.UsedLemmas.{blank_block, lends_of_page, marked, shown_over-lent}
use Rattle.quota_pages.proofs.page_buffer.Pages.blank.Goals as goal

pub returns-clause-blank : goal.returns-clause-blank
returns-clause-blank g c = λ known.
    blank_block c.args.n _ c.fill.new.self _ _ (c.fill.ensures.after (λ byte same. same))
    (shown_over-lent _ _ (c.page.follows.holds c.fill.new.self (ap is_ok c.in_ok-page.was)) c.page.ensures.leaves)

pub returns-clause-lends : goal.returns-clause-lends
returns-clause-lends g c =
    lends_of_page _ _ (c.page.follows.holds c.fill.new.self (ap is_ok c.in_ok-page.was)) c.in_ok-page.ensures.leaves
    c.page.ensures.reads

pub returns-clause-marked : goal.returns-clause-marked
returns-clause-marked g c = marked (c.page.follows.holds c.fill.new.self (ap is_ok c.in_ok-page.was))
