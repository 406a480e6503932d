use Rattle.quota_pages.proofs.LentLemmas.{keeps_but_lent}
use Rattle.quota_pages.proofs.PageLemmas.{block_of-shown_other}
use Rattle.quota_pages.proofs.LengthLemmas.{shown-covers, shown-ends, shown-grows}
use Rattle.quota_pages.proofs.laws.all_but_lent_blocks_stay.Goals as goal

pub returns-clause-others : goal.returns-clause-others
returns-clause-others c = λ pages file number none. block_of-shown_other file pages number none

pub returns-clause-grows : goal.returns-clause-grows
returns-clause-grows c = λ pages file. shown-grows file pages

pub returns-clause-covers : goal.returns-clause-covers
returns-clause-covers c = λ pages file number lent. shown-covers file pages number lent

pub returns-clause-ends : goal.returns-clause-ends
returns-clause-ends c = λ pages file. shown-ends file pages

pub returns-clause-all : goal.returns-clause-all
returns-clause-all c = keeps_but_lent
