use Rattle.quota_pages.proofs.LentLemmas.{buffered_if_lent, few_lent, length-lent_numbers, lent_of_stands, lent_stands}
use Rattle.quota_pages.proofs.laws.a_lent_block_is_buffered.Goals as goal

pub returns-clause-buffered : goal.returns-clause-buffered
returns-clause-buffered c = buffered_if_lent

pub returns-clause-stands : goal.returns-clause-stands
returns-clause-stands c = lent_stands

pub returns-clause-lent : goal.returns-clause-lent
returns-clause-lent c = lent_of_stands

pub returns-clause-count : goal.returns-clause-count
returns-clause-count c = length-lent_numbers

pub returns-clause-few : goal.returns-clause-few
returns-clause-few c = few_lent
