use Rattle.quota_pages.proofs.UsesLemmas.{uses_both, uses_more, uses_none, uses_of_lends, uses_of_looks}
use Rattle.quota_pages.proofs.laws.what_calls_use_adds_up.Goals as goal

pub returns-clause-looks : goal.returns-clause-looks
returns-clause-looks c = λ tells ok count before now old new looks. uses_of_looks looks

pub returns-clause-lends : goal.returns-clause-lends
returns-clause-lends c = λ tells ok count numbers before now old new lends. uses_of_lends lends

pub returns-clause-none : goal.returns-clause-none
returns-clause-none c = λ tells ok seen buffer. uses_none tells seen buffer

pub returns-clause-both : goal.returns-clause-both
returns-clause-both c = λ tells done ok one two before between now old middle new first second. uses_both first second

pub returns-clause-more : goal.returns-clause-more
returns-clause-more c = λ tells ok few more before now old new fewer uses. uses_more more fewer uses
