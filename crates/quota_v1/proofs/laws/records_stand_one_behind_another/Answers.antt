use Rattle.quota_v1.proofs.PlaceLemmas.{start_of_first, start_of_last, start_of_next, starts_apart}
use Rattle.quota_v1.proofs.laws.records_stand_one_behind_another.Goals as goal

pub returns-clause-first : goal.returns-clause-first
returns-clause-first c = start_of_first

pub returns-clause-next : goal.returns-clause-next
returns-clause-next c = start_of_next

pub returns-clause-apart : goal.returns-clause-apart
returns-clause-apart c = starts_apart

pub returns-clause-all : goal.returns-clause-all
returns-clause-all c = start_of_last
