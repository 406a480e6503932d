use Rattle.quota_pages.proofs.LentLemmas.{lends_among}
use Rattle.quota_pages.proofs.UsedLemmas.{lends_both, looks_both, shown_over-lends, shown_over-looks}
use Rattle.quota_pages.proofs.laws.calls_stand_for_one.Goals as goal

pub returns-clause-looks : goal.returns-clause-looks
returns-clause-looks c = λ tells done ok one two before between now old middle new first second. looks_both first second

pub returns-clause-shown : goal.returns-clause-shown
returns-clause-shown c = λ tells ok count before now old new looks. shown_over-looks looks

pub returns-clause-lends : goal.returns-clause-lends
returns-clause-lends c =
    λ tells done ok one two these those before between now old middle new first second. lends_both first second

pub returns-clause-once : goal.returns-clause-once
returns-clause-once c = λ tells ok count numbers more before now old new among lends. lends_among more among lends

pub returns-clause-others : goal.returns-clause-others
returns-clause-others c = λ tells ok count numbers before now old new lends. shown_over-lends lends
