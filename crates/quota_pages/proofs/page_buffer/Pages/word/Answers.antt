use Rattle.quota_pages.proofs.UsedLemmas.{looks_of_peek}
use Rattle.quota_pages.proofs.page_buffer.Pages.word.Goals as goal

pub returns-clause-looked : goal.returns-clause-looked
returns-clause-looked g c =
    looks_of_peek _ g.S.Store.tells c.args.n _ _ c.peek.result c.peek.follows.holds-at-none c.in_ok-block.ensures.leaves
    c.peek.ensures.reads
