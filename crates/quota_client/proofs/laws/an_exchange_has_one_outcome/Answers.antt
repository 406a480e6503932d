use Rattle.quota_client.proofs.OutcomeLemmas.{one_outcome}
use Rattle.quota_client.proofs.laws.an_exchange_has_one_outcome.Goals as goal

pub returns : goal.returns
returns c = one_outcome
