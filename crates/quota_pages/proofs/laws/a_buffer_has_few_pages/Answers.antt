use Rattle.quota_pages.proofs.BufferLemmas.{few_pages}
use Rattle.quota_pages.proofs.LentLemmas.{distinct_numbers, few_numbers}
use Rattle.quota_pages.proofs.laws.a_buffer_has_few_pages.Goals as goal

pub returns-clause-pages : goal.returns-clause-pages
returns-clause-pages c = few_pages

pub returns-clause-lent : goal.returns-clause-lent
returns-clause-lent c = few_numbers

pub returns-clause-distinct : goal.returns-clause-distinct
returns-clause-distinct c = distinct_numbers
