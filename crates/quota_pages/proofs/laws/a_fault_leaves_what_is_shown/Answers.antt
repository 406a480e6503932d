use Rattle.quota_pages.proofs.AgainLemmas.{clean_left, shown_left}
use Rattle.quota_pages.proofs.laws.a_fault_leaves_what_is_shown.Goals as goal

pub returns-clause-shown : goal.returns-clause-shown
returns-clause-shown c = λ buffer old new partly. shown_left buffer old new partly

pub returns-clause-clean : goal.returns-clause-clean
returns-clause-clean c = λ buffer old new partly clean. clean_left buffer old new partly clean
