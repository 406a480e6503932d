use Rattle.quota_client.proofs.OutcomeLemmas.{begun_is_unfinished}
use Rattle.quota_client.proofs.laws.a_begun_exchange_is_not_complete.Goals as goal

pub returns : goal.returns
returns c = begun_is_unfinished
